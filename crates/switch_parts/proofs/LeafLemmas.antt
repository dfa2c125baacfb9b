-- Places of a list, one by one.
use Rattle.std.proofs.Common.{◌≡◌, ◌&&◌, ◌||◌, ◌==◌, Bool, true, false, nat_eq, nat_lt, slice_index, List, [], ◌∷◌, length, not, Option, refl, sym, ap, subst, ◌∙◌, inl, inr}
use Rattle.std.proofs.lemmas.Bool.{and_parts, both_ways, cases_Bool, not-true, or_from}
use Rattle.std.proofs.Math.Bool.{and-false}
use Rattle.std.specs.Cmp.Lexicographic.{same_text}
use Rattle.std.specs.List.{AllByRecursion, list_all, starts_with}
use Rattle.switch_names.specs.Names.{Name}
use Rattle.switch_names.specs.Path.{is_below, slash}
use Rattle.host_trait.specs.World.{Leaves, WorldState, is_in_line, is_path, stage}
use Rattle.tree_put.specs.declared.written_place.WrittenPlace.{WrittenPlace}
use Rattle.switch_parts.specs.declared.refusal.Refusal.{Refusal}
use Rattle.switch_parts.specs.Leaves.{End, EndsSame, is_among, is_near, leaf_part}
use Rattle.switch_parts.specs.Part.{IsPart, IsSameFor}

-- a path that doesn't begin with another doesn't lie below it
pub not_below : (p q : Name) → starts_with nat_eq p q ≡ false → is_below p q ≡ false
not_below p q other = ap (λ b. nat_lt (length q) (length p) && (b && slice_index p (length q) == slash)) other ∙ and-false (nat_lt (length q) (length p))

-- neither of two paths begins with the other
pub record BeginApart (p q : Name) : Type 0 where
  pub first : starts_with nat_eq p q ≡ false
  pub second : starts_with nat_eq q p ≡ false

-- such paths aren't in line
pub not_line : (p q : Name) → BeginApart p q → is_in_line p q ≡ false
not_line p q apart = or_from (is_below p q) (is_below q p) (not_below p q apart.first) (not_below q p apart.second)

-- whether neither of two paths begins with the other
abbrev pub begin_apart : Name → Name → Bool
begin_apart p q = not (starts_with nat_eq p q) && not (starts_with nat_eq q p)

-- a path that begins apart from each of some places is near none of them
pub none_near : (q : Name) (places : List WrittenPlace) → list_all (λ (place : WrittenPlace). begin_apart q place.at) places ≡ true → is_near places q ≡ false
none_near q [] apart = refl
none_near q (place ∷ places) apart =
    let each = and_parts (begin_apart q place.at) (list_all (λ (other : WrittenPlace). begin_apart q other.at) places) apart in
    let both = and_parts (not (starts_with nat_eq q place.at)) (not (starts_with nat_eq place.at q)) each.0 in
    or_from (is_in_line q place.at) (is_near places q) (not_line q place.at (record { first = not-true _ both.0; second = not-true _ both.1 })) (none_near q places each.1)

-- what holds of each of some places holds of a path that is among them
pub each_among : (P : Name → Type 0) (places : List Name) → AllByRecursion P places → (q : Name) → is_among places q ≡ true → P q
each_among P [] all q among = absurd (both_ways _ refl among)
each_among P (at ∷ places) all q among = elim (cases_Bool (is_path q at)) [
  | inl is ↦ subst P (sym (same_text q at (sym is))) all.0
  | inr other ↦ each_among P places all.1 q (sym (ap (λ b. b || is_among places q) other) ∙ among)
]

-- a test that fails at each of some places fails at a path that is among them
pub none_among : (test : Name → Bool) (places : List Name) → list_all (λ at. not (test at)) places ≡ true → (q : Name) → is_among places q ≡ true → test q ≡ false
none_among test [] all q among = absurd (both_ways _ refl among)
none_among test (at ∷ places) all q among =
    let each = and_parts (not (test at)) (list_all (λ other. not (test other)) places) all in
    elim (cases_Bool (is_path q at)) [
      | inl is ↦ ap test (same_text q at (sym is)) ∙ not-true (test at) each.0
      | inr other ↦ none_among test places each.1 q (sym (ap (λ b. b || is_among places q) other) ∙ among)
    ]

-- ---- parts of leaves alone

module _ (owns : Name → Bool) (places : Leaves → List WrittenPlace) (refusal : Leaves → Option Refusal) (end : End) where
  pub ends_self : (w : WorldState) → EndsSame owns places refusal end w w
  ends_self w = record { ends = λ q own. refl; free = λ way none. (way, none) }

  pub ends_then : (w v m : WorldState) → EndsSame owns places refusal end w v → EndsSame owns places refusal end v m → EndsSame owns places refusal end w m
  ends_then w v m first then = record {
    ends = λ q own. then.ends q own ∙ first.ends q own;
    free = λ way none. let middle = first.free way none in then.free middle.0 middle.1;
  }

  -- such a part is one where the same is left and free wherever the same stands for it
  pub leaf_is_part :
      (reads : Name → Bool) → ((w m : WorldState) → IsSameFor (leaf_part owns reads places refusal end) w m → EndsSame owns places refusal end w m) →
      ((q : Name) → owns q ≡ true → reads q ≡ true) → reads stage ≡ false → IsPart (leaf_part owns reads places refusal end)
  leaf_is_part reads frame reads_own no_stage = record {
    keeps_self = ends_self;
    keeps_then = ends_then;
    same_end = λ w m keeps q own. keeps.ends q own;
    stays_free = λ w m keeps free. let again = keeps.free free.way free.refusal in record { way = again.0; refusal = again.1; short = refl };
    frame = frame;
    reads_own = reads_own;
    no_stage = no_stage;
  }
