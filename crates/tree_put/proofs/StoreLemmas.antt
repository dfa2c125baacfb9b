-- What a link leads to in the store, and what is read where the store stays.
use Rattle.std.proofs.Common.{◌≡◌, ℕ, ◌&&◌, Bool, true, false, cond, List, ◌++◌, codes, drop, length, nat_eq, Option, None, Some, is_none, refl, sym, ap, ◌∙◌}
use Rattle.std.proofs.lemmas.Bool.{and_parts}
use Rattle.std.proofs.lemmas.Bool.Decides.{Decides-eqb}
use Rattle.std.proofs.lemmas.Slice.Eq.{starts_is}
use Rattle.std.specs.FinMap.{get}
use Rattle.std.specs.List.{starts_with}
use Rattle.host_trait.specs.declared.leaf.LeafKind.{LeafKind}
use Rattle.host_trait.specs.declared.leaf.LeafKind.TheVariants.{File, Link}
use Rattle.host_trait.specs.World.{Leaves, content_of, file_at, file_bytes, leaf_content, store_place}
use Rattle.switch_names.specs.Names.{Name}
use Rattle.switch_names.specs.Path.{path_fault}

chosen : (b : Bool) (x y : List ℕ) → cond b (Some x) None ≡ Some y → (b ≡ true) × (x ≡ y)
chosen true x y is = (refl, cc)
chosen false x y is = absurd (cc)

-- the path in the store to which a link leads begins so
pub store_place_begins : (target p : List ℕ) → store_place target ≡ Some p → p ≡ codes "nix/store/" ++ drop (length (codes "/nix/store/")) target
store_place_begins target p is =
    let parts = chosen (starts_with nat_eq target (codes "/nix/store/") && is_none (path_fault (drop 1 target))) (drop 1 target) p is in
    let starts = (starts_is Decides-eqb target (codes "/nix/store/") (starts_with nat_eq target (codes "/nix/store/")) refl).0
    (and_parts (starts_with nat_eq target (codes "/nix/store/")) (is_none (path_fault (drop 1 target))) parts.0).0 in
    sym parts.1 ∙ ap (drop 1) starts

-- what is read at a place is the same where the leaf and each file of the store to which links lead are
module _ (w m : Leaves) (same : (target p : List ℕ) → store_place target ≡ Some p → get m p ≡ get w p) where
  file_kept : (target : List ℕ) (o : Option (List ℕ)) → store_place target ≡ o → file_at m o ≡ file_at w o
  file_kept target None is = refl
  file_kept target (Some p) is = ap file_bytes (same target p is)

  leaf_kept : (leaf : Option LeafKind) → leaf_content m leaf ≡ leaf_content w leaf
  leaf_kept None = refl
  leaf_kept (Some (File bytes mode uid gid)) = refl
  leaf_kept (Some (Link target)) = file_kept target (store_place target) refl

  pub content_kept : (at : Name) → get m at ≡ get w at → content_of m at ≡ content_of w at
  content_kept at is = ap (leaf_content m) is ∙ leaf_kept (get w at)
