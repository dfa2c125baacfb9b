-- Worlds that are equal but for the stage.
use Rattle.std.proofs.Common.{◌≡◌, ◌≢◌, ℕ, true, false, List, [], Some, sym, ap, subst, ◌∙◌, inl, inr, rules, None}
use Rattle.std.proofs.lemmas.Bool.{both_ways}
use Rattle.std.specs.FinMap.{get, insert, remove, get_tied, gets}
use Rattle.std.specs.Ordering.{eq_by_cmp}
use Rattle.host_trait.specs.declared.leaf.LeafKind.{LeafKind}
use Rattle.host_trait.specs.World.{Leaves, WorldState, bytes_cmp, is_in_line, IsClear, moved, with_moved, seen, stage, with_leaf}
use Rattle.host_trait.proofs.Places.{alike, bytes_total, same_or_other}
use Rattle.host_trait.proofs.Sound.{not_in_line}

world_of : (m n : Leaves) (w : WorldState) → m ≡ n → record w { leaves = m } ≡ record w { leaves = n }
world_of m n w is = ap (λ (l : Leaves). record w { leaves = l }) is

-- whatever was written
seen_of : (m n : Leaves) (w : WorldState) → m ≡ n → record w { leaves = m; written = [] } ≡ record w { leaves = n; written = [] }
seen_of m n w is = ap (λ (l : Leaves). record w { leaves = l; written = [] }) is

leaves_of_world : (v w : WorldState) → v ≡ w → v.leaves ≡ w.leaves
leaves_of_world v w is = ap (λ (x : WorldState). x.leaves) is

pub get_removed_other : (m : Leaves) (k q : List ℕ) → eq_by_cmp bytes_cmp q k ≡ false → get (remove m k) q ≡ get m q
get_removed_other m k q other = grind (gets, rules)

pub get_removed_here : (m : Leaves) (k : List ℕ) → get (remove m k) k ≡ None
get_removed_here m k = grind (gets, rules)

pub other_of : (p q : List ℕ) → p ≢ q → eq_by_cmp bytes_cmp p q ≡ false
other_of p q ne = elim (same_or_other p q) [ inl same ↦ absurd (ne same) | inr other ↦ other ]

-- what such worlds have at a place other than the stage
pub seen_at : (v w : WorldState) → seen v ≡ seen w → (q : List ℕ) → q ≢ stage → get v.leaves q ≡ get w.leaves q
seen_at v w is q ne =
    let other = other_of q stage ne in
    sym (get_removed_other v.leaves stage q other) ∙ ap (λ (x : WorldState). get x.leaves q) is ∙ get_removed_other w.leaves stage q other

line_not_same : (p q : List ℕ) → is_in_line p q ≡ true → p ≢ q
line_not_same p q line same = both_ways _ (not_in_line q) (subst (λ x. is_in_line x q ≡ true) same line)

-- a path that is clear in one is clear in the other
pub clear_seen : (v w : WorldState) (p : List ℕ) → is_in_line stage p ≡ false → seen v ≡ seen w → IsClear w.leaves p → IsClear v.leaves p
clear_seen v w p apart is clear q line = seen_at v w is q (λ same. both_ways _ apart (subst (λ x. is_in_line x p ≡ true) same line)) ∙ clear q line

pub stage_clear_seen : (v w : WorldState) → seen v ≡ seen w → IsClear w.leaves stage → IsClear v.leaves stage
stage_clear_seen v w is clear q line = seen_at v w is q (line_not_same q stage line) ∙ clear q line

-- a leaf at the stage isn't seen
pub seen_staged : (leaf : LeafKind) (w : WorldState) → seen (with_leaf stage leaf w) ≡ seen w
seen_staged leaf w = seen_of _ _ w (alike _ _ (λ q. grind (gets, rules)))

pub unfolded_move : (m : Leaves) (from to : List ℕ) (leaf : LeafKind) → get m from ≡ Some leaf → moved m from to ≡ insert (remove m from) to leaf
unfolded_move m from to leaf is = ap (with_moved m from to) is

at_stage : (m : Leaves) (k : List ℕ) (leaf : LeafKind) → get (insert m k leaf) k ≡ Some leaf
at_stage m k leaf = grind (gets, rules)

-- the stage's leaf has moved to a place
pub renamed : (at : List ℕ) (leaf : LeafKind) (w : WorldState) → at ≢ stage →
    seen (record w { leaves = moved (insert w.leaves stage leaf) stage at }) ≡ seen (with_leaf at leaf w)
renamed at leaf w ne =
    let other = other_of at stage ne in
    seen_of _ _ w (ap (λ (l : Leaves). remove l stage) (unfolded_move (insert w.leaves stage leaf) stage at leaf (at_stage w.leaves stage leaf))
    ∙ alike _ _ (λ q. let tied = get_tied bytes_total w.leaves q at in grind (gets, rules)))

put_again : (m : Leaves) (at : List ℕ) (leaf : LeafKind) → get m at ≡ Some leaf → insert m at leaf ≡ m
put_again m at leaf is = alike _ _ (λ q. let tied = get_tied bytes_total m q at in grind (gets, rules))

-- a leaf that stands already is put again
pub same_leaf : (at : List ℕ) (leaf : LeafKind) (w : WorldState) → get w.leaves at ≡ Some leaf → with_leaf at leaf w ≡ w
same_leaf at leaf w is = world_of _ _ w (put_again w.leaves at leaf is)

seen_put : (m n : Leaves) (at : List ℕ) (leaf : LeafKind) → remove m stage ≡ remove n stage → remove (insert m at leaf) stage ≡ remove (insert n at leaf) stage
seen_put m n at leaf is = elim (same_or_other at stage) [
  | inl same ↦ subst (λ p. remove (insert m p leaf) stage ≡ remove (insert n p leaf) stage) (sym same) (over m leaf ∙ is ∙ sym (over n leaf))
  | inr other ↦ swap m leaf other ∙ ap (λ (l : Leaves). insert l at leaf) is ∙ sym (swap n leaf other)
]
  where
    over : (l : Leaves) (leaf : LeafKind) → remove (insert l stage leaf) stage ≡ remove l stage
    over l leaf = alike _ _ (λ q. grind (gets, rules))

    swap : (l : Leaves) (leaf : LeafKind) → eq_by_cmp bytes_cmp at stage ≡ false → remove (insert l at leaf) stage ≡ insert (remove l stage) at leaf
    swap l leaf other = alike _ _ (λ q. let tied = get_tied bytes_total l q at in grind (gets, rules))

-- a put makes of worlds that are equal but for the stage such worlds
pub seen_with_leaf : (at : List ℕ) (leaf : LeafKind) (v w : WorldState) → seen v ≡ seen w → seen (with_leaf at leaf v) ≡ seen (with_leaf at leaf w)
seen_with_leaf at leaf v w is =
    let leaves = seen_put v.leaves w.leaves at leaf (leaves_of_world _ _ is) in
    let manager = ap (λ (x : WorldState). x.manager) is in
    λ i. record { leaves = leaves i; manager = manager i; written = [] }
