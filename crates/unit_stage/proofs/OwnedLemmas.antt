-- The places that the units' part owns and looks at.
use Rattle.std.proofs.Common.{◌≡◌, ◌≢◌, ◌||◌, ◌∷◌, Bool, not, true, false, List, [], map, refl, sym, ap, subst, ◌∙◌, inl, inr}
use Rattle.std.proofs.lemmas.Bool.{both_ways, cases_Bool, or_left, or_right}
use Rattle.std.specs.Cmp.Lexicographic.{same_text}
use Rattle.std.specs.FinMap.{get}
use Rattle.std.specs.List.{list_all}
use Rattle.host_trait.specs.World.{WorldState, is_in_line, is_path, stage}
use Rattle.log_text.specs.declared.lists.Which.{Which}
use Rattle.log_text.specs.declared.lists.Which.TheVariants.{Starts, Restarts, Reloads}
use Rattle.owed_lists.specs.Lists.{place_of}
use Rattle.owed_log.specs.Places.{log_place}
use Rattle.owed_plan.specs.Store.{AreSameInStore, IsInStore}
use Rattle.switch_names.specs.Names.{Name}
use Rattle.switch_parts.specs.Leaves.{is_among, is_near}
use Rattle.switch_parts.specs.Store.{is_in_store}
use Rattle.switch_parts.proofs.LeafLemmas.{none_among}
use Rattle.tree_put.specs.declared.written_place.WrittenPlace.{WrittenPlace}
use Rattle.unit_stage.specs.Laws.{AreSameBeside}
use Rattle.unit_stage.specs.Owned.{owned_places, owns_units, reads_units, unit_places}
use Rattle.unit_stage.specs.System.{current_place}
use Rattle.unit_stage.proofs.ElsewhereLemmas.{stage_not_own}

-- ---- the owned places

-- what a proof opens to compute with the places of the units
unfoldable pub units_open : Unit {0}
unfolding current_place log_place place_of
units_open = tt

pub not_reads_stage : reads_units stage ≡ false
unfolding stage units_open is_in_store
not_reads_stage = refl

-- an owned place isn't the stage
pub owned_not_stage : (q : Name) → owns_units q ≡ true → q ≢ stage
owned_not_stage q own same = both_ways _ stage_not_own (subst (λ x. owns_units x ≡ true) same own)

-- what passes a test that all owned places fail isn't owned
pub not_owned : (test : Name → Bool) (q : Name) → test q ≡ true → list_all (λ at. not (test at)) owned_places ≡ true → owns_units q ≡ false
not_owned test q is all = elim (cases_Bool (owns_units q)) [
  | inl own ↦ absurd (both_ways (test q) (none_among test owned_places all q own) is)
  | inr other ↦ other
]

-- ---- the store

pub reads_store : (q : Name) → IsInStore q → reads_units q ≡ true
reads_store q inside = or_right (owns_units q || is_near unit_places q) (is_in_store q) inside

pub not_owns_store : (q : Name) → IsInStore q → owns_units q ≡ false
unfolding units_open is_in_store
not_owns_store q inside = not_owned is_in_store q inside refl

pub same_store : (w m : WorldState) → AreSameBeside w m → AreSameInStore m.leaves w.leaves
same_store w m same q inside = same q (reads_store q inside) (not_owns_store q inside)

-- ---- what could be in the way of a place

pub record IsWritten (at : Name) : Type 0 where
  pub near : (q : Name) → is_in_line q at ≡ true → is_near unit_places q ≡ true
  pub apart : list_all (λ p. not (is_in_line p at)) owned_places ≡ true

-- a place in line with one that is written is looked at and not owned
pub same_line : (at : Name) → IsWritten at → (w m : WorldState) → AreSameBeside w m → (q : Name) → is_in_line q at ≡ true → get m.leaves q ≡ get w.leaves q
same_line at is w m same q line =
    same q
    (or_left (owns_units q || is_near unit_places q) (is_in_store q) (or_right (owns_units q) (is_near unit_places q) (is.near q line)))
    (not_owned (λ x. is_in_line x at) q line is.apart)

-- what is in line with one of some places is near them
near_one : (at q : Name) (places : List WrittenPlace) → is_among (map (λ (place : WrittenPlace). place.at) places) at ≡ true → is_in_line q at ≡ true → is_near places q ≡ true
near_one at q [] among line = absurd (both_ways _ refl among)
near_one at q (place ∷ places) among line = elim (cases_Bool (is_path at place.at)) [
  | inl is ↦ or_left (is_in_line q place.at) (is_near places q) (subst (λ p. is_in_line q p ≡ true) (same_text at place.at (sym is)) line)
  | inr other ↦
      let rest : is_among (map (λ (one : WrittenPlace). one.at) places) at ≡ true = sym (ap (λ b. b || is_among (map (λ (one : WrittenPlace). one.at) places) at) other) ∙ among in
      or_right (is_in_line q place.at) (is_near places q) (near_one at q places rest line)
]

is_written : (at : Name) → is_among (map (λ (place : WrittenPlace). place.at) unit_places) at ≡ true → list_all (λ p. not (is_in_line p at)) owned_places ≡ true → IsWritten at
is_written at among apart = record { near = λ q line. near_one at q unit_places among line; apart = apart }

pub stage_written : IsWritten stage
unfolding stage units_open
stage_written = is_written stage refl refl

pub current_written : IsWritten current_place
unfolding stage units_open
current_written = is_written current_place refl refl

pub log_written : IsWritten log_place
unfolding stage units_open
log_written = is_written log_place refl refl

pub list_written : (which : Which) → IsWritten (place_of which)
unfolding stage units_open
list_written Starts = is_written (place_of Starts) refl refl
list_written Restarts = is_written (place_of Restarts) refl refl
list_written Reloads = is_written (place_of Reloads) refl refl
