-- Paths that lie in the store, and what is read where the store stays.
use Rattle.std.proofs.Common.{◌≡◌, ◌≢◌, ℕ, true, false, List, ◌∷◌, ◌++◌, codes, drop, length, nat_eq, Some, append_assoc, refl, sym, ap, subst, ◌∙◌}
use Rattle.std.proofs.lemmas.Bool.{both_ways}
use Rattle.std.proofs.lemmas.Bool.Decides.{Decides-eqb}
use Rattle.std.proofs.lemmas.Slice.Eq.{starts_is}
use Rattle.std.specs.FinMap.{get}
use Rattle.std.specs.List.{starts_with}
use Rattle.host_trait.specs.World.{Leaves, content_of, stage, store_place}
use Rattle.switch_names.specs.Names.{Name}
use Rattle.switch_names.specs.Path.{is_below, slash}
use Rattle.switch_names.specs.SystemName.{IsSystemPath, store_folder, store_name}
use Rattle.switch_names.proofs.Below.{rest_below}
use Rattle.switch_names.proofs.StorePaths.{IsStorePath-from_named, store_path_is}
use Rattle.switch_parts.specs.Store.{is_in_store}
use Rattle.tree_put.proofs.StoreLemmas.{content_kept, store_place_begins}

pub store_begins : (rest : List ℕ) → is_in_store (codes "nix/store/" ++ rest) ≡ true
unfolding is_in_store
store_begins rest = (starts_is Decides-eqb (codes "nix/store/" ++ rest) (codes "nix/store/") (starts_with nat_eq (codes "nix/store/" ++ rest) (codes "nix/store/")) refl).1 rest refl

-- a path that lies there begins so
pub store_is : (q : Name) → is_in_store q ≡ true → q ≡ codes "nix/store/" ++ drop 10 q
unfolding is_in_store
store_is q is = (starts_is Decides-eqb q (codes "nix/store/") (starts_with nat_eq q (codes "nix/store/")) refl).0 is

-- what lies below a path of the store lies there
pub store_below : (q at : Name) → is_below q at ≡ true → is_in_store at ≡ true → is_in_store q ≡ true
store_below q at below inside =
    let rest = rest_below q at below in
    ap is_in_store (rest.1 ∙ ap (λ p. p ++ slash ∷ rest.0) (store_is at inside) ∙ append_assoc (codes "nix/store/") (drop 10 at) (slash ∷ rest.0))
    ∙ store_begins (drop 10 at ++ slash ∷ rest.0)

-- a link's target in the store lies there
pub stored : (target p : List ℕ) → store_place target ≡ Some p → is_in_store p ≡ true
stored target p is = subst (λ r. is_in_store r ≡ true) (sym (store_place_begins target p is)) (store_begins (drop (length (codes "/nix/store/")) target))

-- and so does what stands below a system
pub system_stored : (system rest : Name) → IsSystemPath system → is_in_store (system ++ rest) ≡ true
system_stored system rest named =
    let path : system ≡ store_folder ++ store_name system =
    subst (λ p. p ≡ store_folder ++ store_name p) named.same (store_path_is _ (IsStorePath-from_named system named.no_fault).begins) in
    ap (λ p. is_in_store (p ++ rest)) path ∙ ap is_in_store (append_assoc store_folder (store_name system) rest) ∙ store_begins (store_name system ++ rest)

pub stage_unstored : is_in_store stage ≡ false
unfolding is_in_store stage
stage_unstored = refl

pub store_not_stage : (q : Name) → is_in_store q ≡ true → q ≢ stage
store_not_stage q is same = both_ways _ stage_unstored (subst (λ p. is_in_store p ≡ true) same is)

-- where the store stays, the same is read at a place that has the same leaf
pub store_content_kept : (w m : Leaves) → ((q : Name) → is_in_store q ≡ true → get m q ≡ get w q) → (at : Name) → get m at ≡ get w at → content_of m at ≡ content_of w at
store_content_kept w m same at is = content_kept w m (λ target p leads. same p (stored target p leads)) at is
