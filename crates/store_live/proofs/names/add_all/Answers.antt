use Rattle.std.proofs.Common.{◌||◌, List, ap, ◌∙◌}
use Rattle.std.proofs.lemmas.List.{take_all}
use Rattle.host_trait.proofs.UnitSets.{has_added}
use Rattle.switch_names.specs.Names.{Name, has, is_name}
use Rattle.store_live.proofs.SetLemmas.{set_grown, set_none}
use Rattle.store_live.proofs.names.add_all.Goals as goal

pub loop-name-init : goal.loop-name-init
loop-name-init c = λ x. set_none c.args.set.now.keys x

pub loop-name-preserved : goal.loop-name-preserved
loop-name-preserved c = λ x.
    set_grown c.args.set.now.keys c.loop-name.set.keys c.insert.new.self.keys c.args.names.now c.loop-name.name-index c.name-item.result x c.loop-name-test.true c.name-item.is
    (c.loop-name.invariant x)
    (has_added c.loop-name.set.keys c.insert.new.self.keys c.in_ok-copy.field-0 x (c.in_ok-insert.ensures.updates.0 x) ∙ ap (λ (n : Name). has c.loop-name.set.keys x || is_name x n) c.in_ok-copy.ensures)

pub returns : goal.returns
returns c = λ x. c.loop-name.invariant x ∙ ap (λ (l : List Name). has c.args.set.now.keys x || has l x) (take_all c.loop-name.name-index c.args.names.now c.loop-name-test.false)
