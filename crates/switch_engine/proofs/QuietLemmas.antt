-- What is written between two worlds is quiet where only other places are written besides.
use Rattle.std.proofs.Common.{◌≡◌, ◌≢◌, Bool, true, false, List, ◌++◌, append_assoc, not, refl, sym, ap, subst, ◌∙◌, inl, inr, arith}
use Rattle.std.proofs.lemmas.Bool.{both_ways, cases_Bool}
use Rattle.std.specs.FinMap.{get}
use Rattle.host_trait.specs.declared.leaf.LeafKind.{LeafKind}
use Rattle.host_trait.specs.World.{Leaves, WorldState, stage}
use Rattle.switch_engine.specs.Quiet.{IsQuietRun, is_not_quiet, is_quiet}
use Rattle.switch_names.specs.Names.{Name, has}
use Rattle.switch_parts.specs.Leaves.{End}
use Rattle.switch_parts.specs.Quiet.{IsQuiet, IsQuietAt, times}
use Rattle.switch_parts.proofs.LeafLemmas.{none_among}
use Rattle.switch_parts.proofs.QuietLemmas.{quiet_as, quiet_never, times_append, times_never}
use Rattle.tree_put.specs.Written.{WritesOnly}
use Rattle.tree_put.proofs.WrittenLemmas.{writes_wider}
use Rattle.unit_stage.specs.Owned.{owned_places, owns_units}
use Rattle.unit_stage.proofs.OwnedLemmas.{units_open}

-- ---- quiet places

-- what is owned by those who own nothing quiet is none of the quiet places
pub not_owned : (owns : Name → Bool) → ((q : Name) → owns q ≡ true → is_not_quiet q ≡ true) → (q : Name) → is_quiet q ≡ true → owns q ≡ false
not_owned owns loud q quiet = elim (cases_Bool (owns q)) [
  | inl own ↦ absurd (both_ways (is_not_quiet q) (ap not quiet) (loud q own))
  | inr other ↦ other
]

pub units_not_quiet : (q : Name) → owns_units q ≡ true → is_not_quiet q ≡ true
unfolding units_open
units_not_quiet q own = ap not (none_among is_quiet owned_places refl q own)

stage_loud : is_quiet stage ≡ false
unfolding stage
stage_loud = refl

pub quiet_not_stage : (q : Name) → is_quiet q ≡ true → q ≢ stage
quiet_not_stage q quiet same = both_ways (is_quiet stage) stage_loud (subst (λ p. is_quiet p ≡ true) same quiet)

-- ---- what is written

pub units_written : (w v : WorldState) → WritesOnly owns_units w v → WritesOnly is_not_quiet w v
units_written w v writes = writes_wider owns_units is_not_quiet units_not_quiet w v writes

-- a quiet place isn't among others
never_among : (places : List Name) → ((q : Name) → has places q ≡ true → is_not_quiet q ≡ true) → (q : Name) → is_quiet q ≡ true → times q places ≡ 0
never_among places only q quiet = times_never q places (not_owned (has places) only q quiet)

-- what is quiet everywhere is so at the quiet places
pub quiet_whole : (on_the_way : Leaves → Name → List LeafKind) (end : End) (w v : WorldState) → IsQuiet on_the_way end w v → IsQuietRun on_the_way end w v
quiet_whole on_the_way end w v quiet = record { places = quiet.places; written = quiet.written; quiet = λ q is. quiet.quiet q }

-- where only other places are written
pub quiet_none : (on_the_way : Leaves → Name → List LeafKind) (end : End) (w v : WorldState) → WritesOnly is_not_quiet w v → IsQuietRun on_the_way end w v
quiet_none on_the_way end w v writes = record {
  places = writes.places;
  written = writes.written;
  quiet = λ q is.
      subst (IsQuietAt (on_the_way w.leaves q) (end w.leaves q) (get w.leaves q)) (sym (never_among writes.places writes.only q is))
      (quiet_never (on_the_way w.leaves q) (end w.leaves q) (get w.leaves q));
}

-- where others are written before and after, and nothing is lost on the way
pub quiet_between :
    (one other : Leaves → Name → List LeafKind) (end last : End) (w u v x : WorldState) → WritesOnly is_not_quiet w u → IsQuietRun one last u v → WritesOnly is_not_quiet v x →
    ((q : Name) → is_quiet q ≡ true → one u.leaves q ≡ other w.leaves q) → ((q : Name) → is_quiet q ≡ true → last u.leaves q ≡ end w.leaves q) →
    ((q : Name) → is_quiet q ≡ true → get u.leaves q ≡ get w.leaves q) → IsQuietRun other end w x
quiet_between one other end last w u v x before between after ways ends leaves = record {
  places = before.places ++ (between.places ++ after.places);
  written =
      after.written ∙ ap (λ ps. ps ++ after.places) (between.written ∙ ap (λ ps. ps ++ between.places) before.written)
      ∙ append_assoc (w.written ++ before.places) between.places after.places ∙ append_assoc w.written before.places (between.places ++ after.places);
  quiet = λ q is. quiet_as (ways q is) (ends q is) (leaves q is) (counted q is) (between.quiet q is);
}
  where
    counted : (q : Name) → is_quiet q ≡ true → times q between.places ≡ times q (before.places ++ (between.places ++ after.places))
    counted q is =
        let whole = times_append q before.places (between.places ++ after.places) in
        let rest = times_append q between.places after.places in
        let first = never_among before.places before.only q is in
        let last = never_among after.places after.only q is in
        omega (arith, whole, rest, first, last)
