-- What puts write quietly, and two parts of a switch in turn.
use Rattle.std.proofs.Common.{◌≡◌, ◌≢◌, ◌≤◌, ◌||◌, ◌+◌, ℕ, Bool, true, false, cond, List, [], ◌∷◌, ◌++◌, append-nil, append_assoc, length, MatchBool, Option, Some, refl, sym, ap, subst, ◌∙◌, inl, inr, arith}
use Rattle.std.proofs.lemmas.Bool.{cases_Bool, or_parts}
use Rattle.std.proofs.lemmas.List.{length-append}
use Rattle.std.proofs.lemmas.List.Sums.{sum_by-append, sum_by-cons}
use Rattle.std.specs.FinMap.{get, get-insert}
use Rattle.std.specs.List.{AllByRecursion}
use Rattle.std.specs.List.Sorted.{IsStrictlySortedBy}
use Rattle.host_trait.specs.declared.leaf.LeafKind.{LeafKind}
use Rattle.host_trait.specs.World.{Leaves, WorldState, bytes_cmp, with_leaf, without_leaf}
use Rattle.host_trait.proofs.NameOrder.{above_lack, name_exact}
use Rattle.host_trait.proofs.Places.{bytes_total}
use Rattle.switch_names.specs.Names.{Name, has, is_name}
use Rattle.tree_put.specs.declared.leaf_put.LeafPut.{LeafPut}
use Rattle.tree_put.specs.Put.{written_if}
use Rattle.tree_put.specs.Sequence.{AreWritten, without_places}
use Rattle.switch_parts.specs.Part.{AreParted, IsOnly, IsPart, Part, both, final_leaf}
use Rattle.switch_parts.specs.Quiet.{IsQuiet, IsQuietAt, times}
use Rattle.switch_parts.proofs.Parts.{false_by, not_stage, only_beside}

-- ---- how often a place was written

zero_more : (n : ℕ) → 0 + n ≡ n
zero_more n = omega arith

pub times_more : (q at : Name) (places : List Name) → times q (at ∷ places) ≡ cond (is_name q at) 1 0 + times q places
times_more q at places = sum_by-cons (λ x. cond (is_name q x) 1 0) at places

pub times_append : (q : Name) (xs ys : List Name) → times q (xs ++ ys) ≡ times q xs + times q ys
times_append q xs ys = sum_by-append (λ x. cond (is_name q x) 1 0) xs ys

pub times_never : (q : Name) (places : List Name) → has places q ≡ false → times q places ≡ 0
times_never q [] none = refl
times_never q (at ∷ places) none =
    let parts = or_parts (is_name q at) (has places q) none in
    times_more q at places ∙ ap (λ b. cond b 1 0 + times q places) parts.0 ∙ zero_more (times q places) ∙ times_never q places parts.1

-- a place stands once in a list in byte order
pub times_once : (q : Name) (places : List Name) → IsStrictlySortedBy bytes_cmp places → times q places ≤ 1
unfolding IsStrictlySortedBy
times_once q [] sorted = omega arith
times_once q (at ∷ places) sorted = elim (cases_Bool (is_name q at)) [
  | inl is ↦
      let none = times_never q places (ap (λ (p : Name). has places p) (name_exact q at is) ∙ above_lack at places sorted.0) in
      let more = times_more q at places ∙ ap (λ b. cond b 1 0 + times q places) is in
      omega (arith, none, more)
  | inr not ↦
      let rest = times_once q places sorted.1 in
      let more = times_more q at places ∙ ap (λ b. cond b 1 0 + times q places) not in
      omega (arith, rest, more)
]

-- removals write each of their places
pub without_written : (places : List Name) (w : WorldState) → (without_places places w).written ≡ w.written ++ places
without_written [] w = sym (append-nil w.written)
without_written (at ∷ places) w = without_written places (without_leaf at w) ∙ append_assoc w.written (at ∷ []) places

pub times_written : (q at : Name) (put : Bool) (more : List Name) → times q (written_if put at ++ more) ≡ cond put (cond (is_name q at) 1 0) 0 + times q more
times_written q at true more = times_more q at more
times_written q at false more = sym (zero_more (times q more))

-- ---- a place that gets leaves

-- it is written at most once for each of them, and not at all where each of them is the one that stood
pub record IsStill (leaves : List LeafKind) (stood : Option LeafKind) (count : ℕ) : Type 0 where
  pub often : count ≤ length leaves
  pub still : AllByRecursion (λ leaf. Some leaf ≡ stood) leaves → count ≡ 0

-- the leaves that puts put at a place
abbrev pub leaves_put : List LeafPut → Name → List LeafKind
leaves_put [] q = []
leaves_put (put ∷ puts) q = cond (is_name q put.at) (put.leaf ∷ leaves_put puts q) (leaves_put puts q)

still_then :
    (there put : Bool) (leaf : LeafKind) (leaves : List LeafKind) (stood : Option LeafKind) (count : ℕ) → (there ≡ true → MatchBool put (stood ≢ Some leaf) (stood ≡ Some leaf)) →
    IsStill leaves (cond there (Some leaf) stood) count → IsStill (cond there (leaf ∷ leaves) leaves) stood (cond put (cond there 1 0) 0 + count)
still_then true true leaf leaves stood count other rest =
    let often = rest.often in record { often = omega (arith, often); still = λ all. absurd (other refl (sym all.0)) }
still_then true false leaf leaves stood count other rest =
    let often = rest.often in
    record {
      often = omega (arith, often);
      still = λ all. zero_more count ∙ rest.still (subst (λ (o : Option LeafKind). AllByRecursion (λ l. Some l ≡ o) leaves) (sym all.0) all.1);
    }
still_then false true leaf leaves stood count other rest = subst (IsStill leaves stood) (sym (zero_more count)) rest
still_then false false leaf leaves stood count other rest = subst (IsStill leaves stood) (sym (zero_more count)) rest

-- so it is with puts
pub still_put : (puts : List LeafPut) (w : WorldState) (places : List Name) → AreWritten puts w places → (q : Name) → IsStill (leaves_put puts q) (get w.leaves q) (times q places)
still_put [] w places are q = subst (λ (ps : List Name). IsStill [] (get w.leaves q) (times q ps)) (sym are) (record { often = omega arith; still = λ all. refl })
still_put (one ∷ puts) w places are q =
    let rest = still_put puts (with_leaf one.at one.leaf w) are.1 are.4 q in
    let stands = subst (λ (o : Option LeafKind). IsStill (leaves_put puts q) o (times q are.1)) (get-insert bytes_total w.leaves one.at one.leaf q) rest in
    subst (λ n. IsStill (leaves_put (one ∷ puts) q) (get w.leaves q) n) (sym (ap (times q) are.3 ∙ times_written q one.at are.0 are.1))
    (still_then (is_name q one.at) are.0 one.leaf (leaves_put puts q) (get w.leaves q) (times q are.1)
    (λ there. subst (λ (p : Name). MatchBool are.0 (get w.leaves p ≢ Some one.leaf) (get w.leaves p ≡ Some one.leaf)) (sym (name_exact q one.at there)) are.2)
    stands)

-- ---- what is quiet

pub quiet_as :
    {one other : List LeafKind} {end last : Option LeafKind} {stood was : Option LeafKind} {count number : ℕ} → one ≡ other → end ≡ last → stood ≡ was → count ≡ number →
    IsQuietAt one end stood count → IsQuietAt other last was number
quiet_as {other = other} {end = end} {last = last} {stood = stood} {was = was} {count = count} ways ends leaves counts is =
    subst (IsQuietAt other last was) counts
    (subst (λ o. IsQuietAt other last o count) leaves
    (subst (λ o. IsQuietAt other o stood count) ends
    (subst (λ l. IsQuietAt l end stood count) ways is)))

-- what isn't written
pub quiet_never : (on_the_way : List LeafKind) (end stood : Option LeafKind) → IsQuietAt on_the_way end stood 0
quiet_never on_the_way end stood = record { often = omega arith; still = λ same all. refl }

all_with : (P : LeafKind → Type 0) (leaves : List LeafKind) (leaf : LeafKind) → AllByRecursion P leaves → P leaf → AllByRecursion P (leaves ++ leaf ∷ [])
all_with P [] leaf all last = (last, tt)
all_with P (l ∷ leaves) leaf all last = (all.0, all_with P leaves leaf all.1 last)

-- a place that gets the leaf of its end last
pub quiet_end : (on_the_way : List LeafKind) (leaf : LeafKind) (end stood : Option LeafKind) (count : ℕ) → end ≡ Some leaf → IsStill (on_the_way ++ leaf ∷ []) stood count → IsQuietAt on_the_way end stood count
quiet_end on_the_way leaf end stood count is still =
    let often = still.often in let long = length-append on_the_way (leaf ∷ []) in
    record {
      often = omega (arith, often, long);
      still = λ same all. still.still (all_with (λ l. Some l ≡ stood) on_the_way leaf all (sym is ∙ same));
    }

-- ---- two parts in turn

module _ (p q : Part) (first : IsPart p) (second : IsPart q) (parted : AreParted p q) (one two : Leaves → Name → List LeafKind) (w u v : WorldState) where
  module _
      (one_own : (at : Name) → p.owns at ≡ false → one w.leaves at ≡ []) (two_own : (at : Name) → q.owns at ≡ false → two u.leaves at ≡ [])
      (same : (at : Name) → two u.leaves at ≡ two w.leaves at) (only : IsOnly p w u) (quiet : IsQuiet one (final_leaf p) w u) (then : IsQuiet two (final_leaf q) u v) where
    abbrev on_the_way : Name → List LeafKind
    on_the_way at = one w.leaves at ++ two w.leaves at

    none_first : (at : Name) → p.owns at ≡ false → times at quiet.places ≡ 0
    none_first at not =
        (quiet.quiet at).still (ap (λ b. cond b (p.end w.leaves at) (get w.leaves at)) not)
        (subst (AllByRecursion (λ leaf. Some leaf ≡ get w.leaves at)) (sym (one_own at not)) tt)

    none_second : (at : Name) → q.owns at ≡ false → times at then.places ≡ 0
    none_second at not =
        (then.quiet at).still (ap (λ b. cond b (q.end u.leaves at) (get u.leaves at)) not)
        (subst (AllByRecursion (λ leaf. Some leaf ≡ get u.leaves at)) (sym (two_own at not)) tt)

    counts : (at : Name) → times at (quiet.places ++ then.places) ≡ times at quiet.places + times at then.places
    counts at = times_append at quiet.places then.places

    abbrev last : Name → Option LeafKind
    last at = final_leaf (both p q) w.leaves at

    not_second : (at : Name) → p.owns at ≡ true → q.owns at ≡ false
    not_second at own = false_by (q.owns at) (q.reads at) (second.reads_own at) (parted.first at own)

    at_first : (at : Name) → p.owns at ≡ true → IsQuietAt (on_the_way at) (last at) (get w.leaves at) (times at (quiet.places ++ then.places))
    at_first at own =
        let other = not_second at own in
        quiet_as
        (sym (ap (λ l. one w.leaves at ++ l) (sym (same at) ∙ two_own at other) ∙ append-nil (one w.leaves at)))
        (ap (λ b. cond b (p.end w.leaves at) (get w.leaves at)) own
        ∙ sym (ap (λ b. cond (b || q.owns at) (cond b (p.end w.leaves at) (q.end w.leaves at)) (get w.leaves at)) own))
        refl
        (sym (counts at ∙ ap (λ n. times at quiet.places + n) (none_second at other) ∙ omega arith))
        (quiet.quiet at)

    at_second : (at : Name) → p.owns at ≡ false → q.owns at ≡ true → IsQuietAt (on_the_way at) (last at) (get w.leaves at) (times at (quiet.places ++ then.places))
    at_second at not own =
        quiet_as
        (same at ∙ sym (ap (λ l. l ++ two w.leaves at) (one_own at not)))
        (ap (λ b. cond b (q.end u.leaves at) (get u.leaves at)) own
        ∙ second.same_end w u (second.frame w u (only_beside p q second parted.first parted.manager w u only)) at own
        ∙ sym (ap (λ b. cond (b || q.owns at) (cond b (p.end w.leaves at) (q.end w.leaves at)) (get w.leaves at)) not
        ∙ ap (λ b. cond b (q.end w.leaves at) (get w.leaves at)) own))
        (only.leaves at not (not_stage q second at own))
        (sym (counts at ∙ ap (λ n. n + times at then.places) (none_first at not) ∙ zero_more (times at then.places)))
        (then.quiet at)

    at_neither : (at : Name) → p.owns at ≡ false → q.owns at ≡ false → IsQuietAt (on_the_way at) (last at) (get w.leaves at) (times at (quiet.places ++ then.places))
    at_neither at not other =
        subst (IsQuietAt (on_the_way at) (last at) (get w.leaves at))
        (sym (counts at ∙ ap (λ n. n + times at then.places) (none_first at not) ∙ zero_more (times at then.places) ∙ none_second at other)) (quiet_never (on_the_way at) (last at) (get w.leaves at))

    -- where neither owns what the other writes, both together are quiet
    pub quiet_then : IsQuiet (λ leaves at. one leaves at ++ two leaves at) (final_leaf (both p q)) w v
    quiet_then = record {
      places = quiet.places ++ then.places;
      written = then.written ∙ ap (λ ps. ps ++ then.places) quiet.written ∙ append_assoc w.written quiet.places then.places;
      quiet = λ at. elim (cases_Bool (p.owns at)) [
        | inl own ↦ at_first at own
        | inr not ↦ elim (cases_Bool (q.owns at)) [ inl own ↦ at_second at not own | inr other ↦ at_neither at not other ]
      ];
    }
