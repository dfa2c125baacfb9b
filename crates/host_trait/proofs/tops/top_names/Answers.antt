use Rattle.std.proofs.Common.{ap, sym, ◌∙◌}
use Rattle.std.specs.List.{list_any}
use Rattle.std.specs.Map.{keys_of}
use Rattle.host_trait.specs.LeafMap.{leaves_of}
use Rattle.host_trait.proofs.FirstNames.{at_end, is_top, one_in, tops_are, tops_of_set}
use Rattle.host_trait.proofs.Places.{ordered_keys}
use Rattle.host_trait.proofs.tops.top_names.Goals as goal

pub loop-path-preserved-in_ok-insert : goal.loop-path-preserved-in_ok-insert
loop-path-preserved-in_ok-insert c = λ name.
    one_in name (list_any (is_top name) (keys_of c.args.leaves.now.entries)) c.loop-path.tops.keys c.insert.new.self.keys c.in-Some.path.now c.in_ok-first_name.field-0
    c.loop-path.path-iterator c.next.new.self c.in-Some.ensures.steps (sym c.is_elsewhere.ensures ∙ c.if-is_elsewhere.true) c.in_ok-first_name.ensures
    (c.in_ok-insert.ensures.updates.0 name) (c.loop-path.invariant name)

-- the map's keys are in order
pub returns : goal.returns
returns c =
    let es = c.args.leaves.now.entries in
    tops_of_set c.of_set.result (leaves_of c.args.leaves.now) c.loop-path.tops.keys
    (tops_are (leaves_of c.args.leaves.now) c.loop-path.tops.keys c.of_set.ensures.sorted
    (λ name. at_end name (list_any (is_top name) (keys_of es)) c.loop-path.tops.keys c.loop-path.path-iterator c.in-None.ensures.steps.0 (c.loop-path.invariant name)
    ∙ ap (list_any (is_top name)) (sym (ordered_keys es c.keys-path-items.ensures.ordered))))
    c.of_set.ensures.items
