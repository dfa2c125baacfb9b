use Rattle.std.proofs.Common.{◌||◌, ◌&&◌, not, List, ap, ◌∙◌}
use Rattle.std.proofs.lemmas.List.{take_all}
use Rattle.switch_names.specs.Names.{Name, has}
use Rattle.store_live.proofs.SetLemmas.{left_grown, set_none}
use Rattle.store_live.proofs.reaching.add_left.Goals as goal

pub loop-name-init : goal.loop-name-init
loop-name-init c = λ x. set_none c.args.left.now.keys x

pub loop-name-preserved : goal.loop-name-preserved
loop-name-preserved c = λ x.
    left_grown c.args.left.now.keys c.loop-name.left.keys c.add_if_new.new.left.keys c.args.names.now c.args.walked.now.keys c.loop-name.name-index c.name-item.result x c.loop-name-test.true c.name-item.is
    (c.loop-name.invariant x) (c.in_ok-add_if_new.ensures x)

pub returns : goal.returns
returns c = λ x.
    c.loop-name.invariant x ∙ ap (λ (l : List Name). has c.args.left.now.keys x || (has l x && not (has c.args.walked.now.keys x))) (take_all c.loop-name.name-index c.args.names.now c.loop-name-test.false)
