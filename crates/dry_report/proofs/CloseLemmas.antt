-- The lines of the units that have failed, one after another.
use Rattle.std.proofs.Common.{◌≡◌, ℕ, ◌+◌, ◌++◌, true, false, cond, List, [], ◌∷◌, Some, ap, codes, drop, filter, map, subst, sym, take, ◌∙◌}
use Rattle.std.proofs.lemmas.List.{append-nil, map-append, take-append-drop, take_more}
use Rattle.std.proofs.lemmas.List.Concat.{flat_map-append}
use Rattle.std.proofs.lemmas.List.Elements.{filter-append}
use Rattle.std.proofs.lemmas.Option.{get_or_from_slice_get, slice_get_within}
use Rattle.std.specs.List.{flat_map, slice_get}
use Rattle.host_trait.specs.declared.unit_state.UnitState.{UnitState}
use Rattle.host_trait.specs.Sink.{IsPrefixOf, Puts, SinkState}
use Rattle.host_trait.specs.States.{UnitStates, listed_states}
use Rattle.switch_engine.specs.Final.{is_failed_of}
use Rattle.switch_names.specs.Names.{Name}
use Rattle.unit_defs.specs.declared.unit.Unit.{Unit}
use Rattle.dry_report.specs.Close.{close_of, closing, failed_in}
use Rattle.dry_report.specs.Report.{line}
use Rattle.dry_report.proofs.PutLemmas.{both_texts, first_part, first_prefix, puts_as, then_part}

-- the units that have failed, among these
abbrev pub failed_units : List Unit → List UnitState → List Name
failed_units defs list = map (λ one. one.unit) (filter (is_failed_of defs) list)

-- a line for each unit that has failed, among these
abbrev pub failed_lines : List Unit → List UnitState → List ℕ
failed_lines defs list = flat_map (line (codes "failed")) (failed_units defs list)

pub same_lines : {defs others : List Unit} {list more : List UnitState} → defs ≡ others → list ≡ more → failed_lines defs list ≡ failed_lines others more
same_lines defs list = λ i. failed_lines (defs i) (list i)

lines_append : (defs : List Unit) (list more : List UnitState) → failed_lines defs (list ++ more) ≡ failed_lines defs list ++ failed_lines defs more
lines_append defs list more =
    ap (λ (units : List UnitState). flat_map (line (codes "failed")) (map (λ one. one.unit) units)) (filter-append (is_failed_of defs) list more)
    ∙ ap (flat_map (line (codes "failed"))) (map-append (λ (one : UnitState). one.unit) (filter (is_failed_of defs) list) (filter (is_failed_of defs) more))
    ∙ flat_map-append (line (codes "failed")) (failed_units defs list) (failed_units defs more)

module _ (defs : List Unit) (list : List UnitState) (count : ℕ) (one : UnitState) (is : slice_get list count ≡ Some one) where
  one_more : failed_lines defs (take count list) ++ failed_lines defs (one ∷ []) ≡ failed_lines defs (take (count + 1) list)
  one_more =
      sym (ap (failed_lines defs) (take_more list count one (slice_get_within list count one is)
      ∙ ap (λ (u : UnitState). take count list ++ u ∷ []) (get_or_from_slice_get list count one one is))
      ∙ lines_append defs (take count list) (one ∷ []))

  all_more : failed_lines defs (take (count + 1) list) ++ failed_lines defs (drop (count + 1) list) ≡ failed_lines defs list
  all_more = sym (lines_append defs (take (count + 1) list) (drop (count + 1) list)) ∙ ap (failed_lines defs) (take-append-drop (count + 1) list)

  -- the line of the next unit follows those so far
  pub puts_one : {a b c : SinkState} → Puts a b (λ more. more ≡ failed_lines defs (take count list)) → Puts b c (λ more. more ≡ failed_lines defs (one ∷ [])) →
      Puts a c (λ more. more ≡ failed_lines defs (take (count + 1) list))
  puts_one so_far next =
      puts_as (both_texts (failed_lines defs (take count list)) (failed_lines defs (one ∷ [])) so_far next)
      (λ more. more ≡ failed_lines defs (take (count + 1) list)) (λ more put. put ∙ one_more)

  -- a beginning of the line of the next unit follows those so far
  pub puts_part : {a b c : SinkState} → Puts a b (λ more. more ≡ failed_lines defs (take count list)) → Puts b c (IsPrefixOf (failed_lines defs (one ∷ []))) →
      Puts a c (IsPrefixOf (failed_lines defs list))
  puts_part so_far next =
      puts_as (then_part (failed_lines defs (take count list)) (failed_lines defs (one ∷ [])) so_far next) (IsPrefixOf (failed_lines defs list))
      (λ more part.
      subst (λ (t : List ℕ). IsPrefixOf t more) all_more
      (first_prefix (failed_lines defs (take (count + 1) list)) (failed_lines defs (drop (count + 1) list)) more
      (subst (λ (t : List ℕ). IsPrefixOf t more) one_more part)))

-- a beginning of the last line follows the lines of all
pub closing_part : (defs : List Unit) (states : UnitStates) {a b c : SinkState} → Puts a b (λ more. more ≡ failed_lines defs (listed_states states)) → Puts b c (IsPrefixOf closing) →
    Puts a c (IsPrefixOf (close_of (failed_in defs states)))
closing_part defs states lines part = then_part (failed_lines defs (listed_states states)) closing lines part

-- a beginning of the lines alone
pub lines_part : (defs : List Unit) (states : UnitStates) {a b : SinkState} → Puts a b (IsPrefixOf (failed_lines defs (listed_states states))) → Puts a b (IsPrefixOf (close_of (failed_in defs states)))
lines_part defs states part = first_part (failed_lines defs (listed_states states)) closing part

-- a unit that hasn't failed has no line
pub none_failed : (defs : List Unit) (one : UnitState) → is_failed_of defs one ≡ false → [] ≡ failed_lines defs (one ∷ [])
none_failed defs one is = sym (ap (λ b. flat_map (line (codes "failed")) (map (λ (o : UnitState). o.unit) (cond b (one ∷ []) []))) is)

-- a unit that has failed has its line
pub one_failed : (defs : List Unit) (one : UnitState) → is_failed_of defs one ≡ true → line (codes "failed") one.unit ≡ failed_lines defs (one ∷ [])
one_failed defs one is =
    sym (append-nil (line (codes "failed") one.unit))
    ∙ sym (ap (λ b. flat_map (line (codes "failed")) (map (λ (o : UnitState). o.unit) (cond b (one ∷ []) []))) is)
