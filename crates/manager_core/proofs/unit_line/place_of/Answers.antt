use Rattle.std.proofs.Common.{◌≡◌, ◌<◌, List, Some, length, suc, drop, get_or, ap, subst, sym, ◌∙◌, arith}
use Rattle.std.proofs.lemmas.Grind.{common_steps}
use Rattle.std.specs.List.{slice_get}
use Rattle.host_trait.specs.States.{listed_states, units_of}
use Rattle.host_trait.specs.declared.unit_state.UnitState.{UnitState}
use Rattle.host_trait.proofs.StateLists.{place_within}
use Rattle.manager_core.specs.UnitLine.{unit_text}
use Rattle.manager_core.proofs.Around.{found_around, found_line, missing_around, missing_state}
use Rattle.manager_core.proofs.unit_line.place_of.Goals as goal

pub bounds-units-at : goal.bounds-units-at
bounds-units-at c =
    subst (λ (list : List UnitState). c.in-Ok.at < length list) (sym (c.as_slice-units.ensures ∙ c.list.ensures.list)) (place_within (listed_states c.args.states.now) c.in-Ok.at c.args.unit.now c.in-Ok.ensures.found)

pub offset_bounds-units-at : goal.offset_bounds-units-at
offset_bounds-units-at c =
    let within = subst (λ (list : List UnitState). c.in-Ok.at < length list) (sym (c.as_slice-units.ensures ∙ c.list.ensures.list)) (place_within (listed_states c.args.states.now) c.in-Ok.at c.args.unit.now c.in-Ok.ensures.found) in
    grind (arith, common_steps)

pub returns-in_ok-line_len-in-Ok : goal.returns-in_ok-line_len-in-Ok
returns-in_ok-line_len-in-Ok c =
    let states = c.args.states.now in
    let unit = c.args.unit.now in
    let at = c.in-Ok.at in
    let here : slice_get (units_of (listed_states states)) at ≡ Some unit = c.in-Ok.ensures.found in
    let is : c.index-units-at.result ≡ get_or (listed_states states) at c.index-units-at.result = c.index-units-at.is ∙ ap (λ (list : List UnitState). get_or list at c.index-units-at.result) (c.as_slice-units.ensures ∙ c.list.ensures.list) in
    let are = c.list.ensures.are_states in (
      drop (suc at) (listed_states states),
      found_around states are unit at c.as_str-name.ensures.is_name here,
      (let within = place_within (listed_states states) at unit here in omega (arith, within)),
      c.in_ok-line_len-in-Ok.ensures ∙ ap length (found_line states are unit at c.as_str-name.ensures.is_name here c.index-units-at.result is),
    )

pub returns-in-Err : goal.returns-in-Err
returns-in-Err c =
    let states = c.args.states.now in
    let unit = c.args.unit.now in
    let place = c.in-Err.ensures.missing in
    let are = c.list.ensures.are_states in (
      drop c.in-Err.at (listed_states states),
      missing_around states are unit c.in-Err.at c.as_str-name.ensures.is_name place,
      place.within,
      ap (λ s. length (unit_text unit s)) (sym (missing_state states are unit c.in-Err.at c.as_str-name.ensures.is_name place)),
    )
