use Rattle.host_trait.specs.States.{states_of}
use Rattle.host_trait.proofs.StateLists.{none_at, nothing_removed, place_within, taken_at}
use Rattle.host_trait.proofs.states.remove_from.Goals as goal

pub returns-in-Ok-clause-removed : goal.returns-in-Ok-clause-removed
returns-in-Ok-clause-removed c = (taken_at _ _ _ _ _ c.requires c.in-Ok.ensures.found c.remove-was.ensures.taken c.remove-was.ensures.rest).0

pub returns-in-Ok-clause-sorted : goal.returns-in-Ok-clause-sorted
returns-in-Ok-clause-sorted c = (taken_at _ _ _ _ _ c.requires c.in-Ok.ensures.found c.remove-was.ensures.taken c.remove-was.ensures.rest).1

pub returns-in-Err-clause-removed : goal.returns-in-Err-clause-removed
returns-in-Err-clause-removed c =
    nothing_removed (states_of c.args.list.now) c.args.unit.now (none_at c.args.list.now c.args.unit.now c.in-Err.field-0 c.in-Err.ensures.missing)

pub remove-was-requires : goal.remove-was-requires
remove-was-requires c = place_within c.args.list.now c.in-Ok.at c.args.unit.now c.in-Ok.ensures.found
