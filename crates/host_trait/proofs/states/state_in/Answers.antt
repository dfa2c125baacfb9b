use Rattle.std.proofs.Common.{◌<◌, List, length, get_or, sym, ap, subst, ◌∙◌, arith}
use Rattle.std.proofs.lemmas.Grind.{common_steps}
use Rattle.std.specs.Prelude.{unwrap_or}
use Rattle.host_trait.specs.declared.unit_state.State.TheVariants.{Inactive}
use Rattle.host_trait.specs.declared.unit_state.UnitState.{UnitState}
use Rattle.host_trait.proofs.StateLists.{none_at, place_within, state_at}
use Rattle.host_trait.proofs.states.state_in.Goals as goal

pub returns-in-Ok : goal.returns-in-Ok
returns-in-Ok c =
    ap (λ (list : List UnitState). (get_or list c.in-Ok.at c.index-as_slice-at.result).state) c.as_slice.ensures
    ∙ state_at c.args.list.now c.in-Ok.at c.args.unit.now c.index-as_slice-at.result c.requires c.in-Ok.ensures.found

pub returns-in-Err : goal.returns-in-Err
returns-in-Err c = sym (ap (λ o. unwrap_or o Inactive) (none_at c.args.list.now c.args.unit.now c.in-Err.field-0 c.in-Err.ensures.missing))

pub offset_bounds-as_slice-at : goal.offset_bounds-as_slice-at
offset_bounds-as_slice-at c =
    let within = place_within c.args.list.now c.in-Ok.at c.args.unit.now c.in-Ok.ensures.found in grind (arith, common_steps)

pub bounds-as_slice-at : goal.bounds-as_slice-at
bounds-as_slice-at c =
    subst (λ (list : List UnitState). c.in-Ok.at < length list) (sym c.as_slice.ensures) (place_within c.args.list.now c.in-Ok.at c.args.unit.now c.in-Ok.ensures.found)

pub bounds-as_slice-at-in-Ok : goal.bounds-as_slice-at-in-Ok
bounds-as_slice-at-in-Ok c =
    subst (λ (list : List UnitState). c.in-Ok.at < length list) (sym c.as_slice.ensures) (place_within c.args.list.now c.in-Ok.at c.args.unit.now c.in-Ok.ensures.found)
