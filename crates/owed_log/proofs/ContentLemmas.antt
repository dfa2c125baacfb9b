-- What is read at the place of the log.
use Rattle.std.proofs.Common.{◌≡◌, ◌≢◌, ◌++◌, ◌∷◌, ◌||◌, zero, suc, true, false, cond, List, [], ℕ, codes, drop, length, map, take, Option, None, Some, refl, sym, ap, subst, ◌∙◌}
use Rattle.std.proofs.lemmas.Bool.{both_ways}
use Rattle.std.specs.Cmp.Lexicographic.{nat_list_eq_equiv}
use Rattle.std.specs.FinMap.{get, insert}
use Rattle.std.specs.List.{list_any}
use Rattle.host_trait.specs.declared.leaf.LeafKind.{LeafKind}
use Rattle.host_trait.specs.declared.leaf.LeafKind.TheVariants.{File, Link}
use Rattle.host_trait.specs.World.{Leaves, WorldState, content_of, extended, file_bytes, is_path, leaf_content, seen, stage, store_place, with_extended, with_leaf, with_more}
use Rattle.host_trait.proofs.NameOrder.{name_from}
use Rattle.host_trait.proofs.Seen.{other_of, seen_at}
use Rattle.host_trait.proofs.Sound.{get_other}
use Rattle.log_text.specs.declared.lists.Which.{Which}
use Rattle.log_text.specs.declared.lists.Which.TheVariants.{Starts, Restarts, Reloads}
use Rattle.log_text.specs.Lists.{record_order}
use Rattle.owed_lists.specs.Lists.{place_of}
use Rattle.switch_names.specs.Names.{Name, is_name}
use Rattle.tree_put.specs.Put.{AreApart}
use Rattle.tree_put.specs.Sequence.{without_places}
use Rattle.tree_put.proofs.LeftLemmas.{gone_at, leaf_after}
use Rattle.tree_put.proofs.PutLemmas.{apart_ne}
use Rattle.tree_put.proofs.StoreLemmas.{content_kept, store_place_begins}
use Rattle.owed_log.specs.Places.{log_place, old_places}

-- ---- places

pub log_apart : AreApart log_place stage
unfolding log_place stage
log_apart = record { other = refl; line = refl }

pub log_other : log_place ≢ stage
log_other = apart_ne log_place stage log_apart

-- a place that is none of an older program's isn't at the first so many of them
pub apart_from : (q : Name) → ((which : Which) → is_name q (place_of which) ≡ false) → (count : ℕ) → list_any (is_name q) (take count old_places) ≡ false
apart_from q other = among record_order
  where
    among : (order : List Which) (count : ℕ) → list_any (is_name q) (take count (map place_of order)) ≡ false
    among order zero = refl
    among [] (suc count) = refl
    among (which ∷ order) (suc count) = λ i. other which i || among order count i

is_other : (which : Which) → is_name log_place (place_of which) ≡ false
unfolding log_place place_of
is_other Starts = refl
is_other Restarts = refl
is_other Reloads = refl

-- nor is the log
pub log_not_old : (count : ℕ) → list_any (is_name log_place) (take count old_places) ≡ false
log_not_old count = apart_from log_place is_other count

-- a leaf of an older program's lists isn't at the place of the log
pub old_not_log : (which : Which) → place_of which ≢ log_place
old_not_log which same = both_ways (is_name log_place (place_of which)) (is_other which) (name_from log_place (place_of which) (sym same))

inside_no_stage : (rest : List ℕ) → codes "nix/store/" ++ rest ≢ stage
unfolding stage
inside_no_stage rest same =
    let p = codes "nix/store/" ++ rest in
    both_ways (is_path p stage) refl (subst (λ x. is_path p x ≡ true) same (nat_list_eq_equiv.refl p))

pub store_no_stage : (target p : Name) → store_place target ≡ Some p → p ≢ stage
store_no_stage target p is same = inside_no_stage (drop (length (codes "/nix/store/")) target) (sym (store_place_begins target p is) ∙ same)

inside_other : (rest : List ℕ) (which : Which) → is_name (codes "nix/store/" ++ rest) (place_of which) ≡ false
unfolding place_of
inside_other rest Starts = refl
inside_other rest Restarts = refl
inside_other rest Reloads = refl

store_not_old : (target p : Name) (count : ℕ) → store_place target ≡ Some p → list_any (is_name p) (take count old_places) ≡ false
store_not_old target p count is =
    let rest = drop (length (codes "/nix/store/")) target in
    subst (λ q. list_any (is_name q) (take count old_places) ≡ false) (sym (store_place_begins target p is)) (apart_from (codes "nix/store/" ++ rest) (inside_other rest) count)

-- ---- contents

-- worlds that are the same but for the stage have the same contents elsewhere
pub content_seen : (m w : WorldState) → seen m ≡ seen w → (at : Name) → at ≢ stage → content_of m.leaves at ≡ content_of w.leaves at
content_seen m w same at other = content_kept w.leaves m.leaves (λ target p is. seen_at m w same p (store_no_stage target p is)) at (seen_at m w same at other)

-- without leaves of an older program's lists other places have the same contents
pub content_still : (count : ℕ) (u : WorldState) (at : Name) → list_any (is_name at) (take count old_places) ≡ false → content_of (without_places (take count old_places) u).leaves at ≡ content_of u.leaves at
content_still count u at apart =
    content_kept u.leaves (without_places (take count old_places) u).leaves
    (λ target p is. gone_at (take count old_places) u p ∙ ap (λ b. cond b None (get u.leaves p)) (store_not_old target p count is))
    at (gone_at (take count old_places) u at ∙ ap (λ b. cond b None (get u.leaves at)) apart)

pub content_none : (leaves : Leaves) (at : Name) → get leaves at ≡ None → content_of leaves at ≡ None
content_none leaves at none = ap (leaf_content leaves) none

pub file_content : (leaves : Leaves) (at text : List ℕ) → file_bytes (get leaves at) ≡ Some text → content_of leaves at ≡ Some text
file_content leaves at text is = by (get leaves at) is
  where
    by : (o : Option LeafKind) → file_bytes o ≡ Some text → leaf_content leaves o ≡ Some text
    by None is = absurd cc
    by (Some (File bytes mode uid gid)) is = is
    by (Some (Link target)) is = absurd cc

-- a file to which bytes were appended
pub file_longer : (leaves : Leaves) (at text more : List ℕ) → file_bytes (get leaves at) ≡ Some text → file_bytes (get (with_more leaves at more) at) ≡ Some (text ++ more)
file_longer leaves at text more is = by (get leaves at) is
  where
    put : (leaf : LeafKind) → get (insert leaves at leaf) at ≡ Some leaf
    put leaf = leaf_after leaves at at leaf ∙ ap (λ b. cond b (Some leaf) (get leaves at)) (nat_list_eq_equiv.refl at)

    by : (o : Option LeafKind) → file_bytes o ≡ Some text → file_bytes (get (with_extended leaves at more o) at) ≡ Some (text ++ more)
    by None is = absurd cc
    by (Some (File bytes mode uid gid)) is = ap file_bytes (put (File (bytes ++ more) mode uid gid)) ∙ let same : bytes ≡ text = cc in ap (λ b. Some (b ++ more)) same
    by (Some (Link target)) is = absurd cc

-- to append to a file changes nothing elsewhere
pub more_elsewhere : (leaves : Leaves) (at more q : List ℕ) → q ≢ at → get (with_more leaves at more) q ≡ get leaves q
more_elsewhere leaves at more q other = by (get leaves at)
  where
    by : (o : Option LeafKind) → get (with_extended leaves at more o) q ≡ get leaves q
    by None = refl
    by (Some leaf) = get_other leaves at q (extended leaf more) (other_of q at other)

-- a file that was put
pub file_put : (w : WorldState) (at text : List ℕ) → file_bytes (get (with_leaf at (File text 420 0 0) w).leaves at) ≡ Some text
file_put w at text = ap file_bytes (leaf_after w.leaves at at (File text 420 0 0) ∙ ap (λ b. cond b (Some (File text 420 0 0)) (get w.leaves at)) (nat_list_eq_equiv.refl at))
