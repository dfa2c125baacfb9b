use Rattle.std.proofs.Common.{◌≡◌, ℕ, List, ◌∷◌, [], ◌++◌, Some, ap, map, subst, sym, ◌∙◌}
use Rattle.std.specs.List.{All}
use Rattle.std.specs.Map.{keys_of}
use Rattle.std.proofs.lemmas.List.Elements.{All-head, All-rest}
use Rattle.unit_defs.specs.declared.reading.found.FoundUnits.{FoundUnits}
use Rattle.unit_defs.specs.declared.reading.found.UnitFiles.{UnitFiles}
use Rattle.unit_defs.specs.declared.unit.Unit.{Unit}
use Rattle.unit_defs.specs.Found.{files_in, unit_of}
use Rattle.unit_defs.proofs.NameLemmas.{all_moved, moved_on}
use Rattle.unit_defs.proofs.reading.units.units_of.Goals as goal

abbrev IsFound : FoundUnits → List ℕ × UnitFiles → Type 0
IsFound found entry = files_in found entry.0 ≡ Some entry.1

abbrev made : FoundUnits → List (List ℕ × UnitFiles) → List Unit
made found entries = map (unit_of found) (keys_of entries)

pub loop-name-init : goal.loop-name-init
loop-name-init c =
    let found = c.args.found.now in
    let gives = c.into_iter-name-iterator.ensures.into_iter_gives in
    let entries = gives.0 in
    record {
      all = ap (λ (units : List Unit). units ++ made found c.into_iter-name-iterator.result) c.new-units.ensures ∙ ap (made found) entries;
      left = subst (All (IsFound found)) (sym entries) gives.6;
    }

pub unit_of-requires : goal.unit_of-requires
unit_of-requires c =
    let entry : List ℕ × UnitFiles = (c.in-Some.name.now, c.in-Some.own.now) in
    All-head (IsFound c.args.found.now) entry c.next.new.self (subst (All (IsFound c.args.found.now)) c.in-Some.ensures.steps c.loop-name.invariant.left)

pub loop-name-preserved : goal.loop-name-preserved
loop-name-preserved c =
    let found = c.args.found.now in
    let before : List Unit = c.loop-name.units in
    record {
      all = moved_on before c.push.new.self (made found c.loop-name.name-iterator) (made found c.next.new.self) (made found found.units.entries) (unit_of found c.in-Some.name.now)
          (ap (made found) c.in-Some.ensures.steps) c.loop-name.invariant.all (c.in_ok-push.ensures.ok ∙ ap (λ (unit : Unit). before ++ unit ∷ []) c.in_ok-unit_of.ensures);
      left = All-rest (IsFound found) (c.in-Some.name.now, c.in-Some.own.now) c.next.new.self c.loop-name.name-iterator c.in-Some.ensures.steps c.loop-name.invariant.left;
    }

pub returns-clause-units : goal.returns-clause-units
returns-clause-units c =
    let found = c.args.found.now in
    all_moved c.loop-name.units (made found c.loop-name.name-iterator) (made found found.units.entries) (ap (made found) c.in-None.ensures.steps.0) c.loop-name.invariant.all
