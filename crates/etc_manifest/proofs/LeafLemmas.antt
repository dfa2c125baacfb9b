-- The names of the leaves below a folder.
use Rattle.std.proofs.Common.{◌≡◌, ℕ, ◌&&◌, not, true, List, [], ◌∷◌, ◌++◌, get_or, codes, sym, ap, subst, ◌∙◌, append_assoc, arith}
use Rattle.std.specs.FinMap.{contains_key-keys, keys}
use Rattle.std.specs.List.{filter_map}
use Rattle.std.specs.List.Sorted.{IsStrictlySortedBy}
use Rattle.std.proofs.lemmas.List.Kept.{IsStrictlySortedBy-filter}
use Rattle.std.proofs.lemmas.Map.Views.{any-filter_same}
use Rattle.switch_names.specs.Names.{has, is_name}
use Rattle.switch_names.specs.Path.{slash}
use Rattle.switch_names.specs.SystemName.{IsSystemPath, store_folder, store_name}
use Rattle.switch_names.proofs.StorePaths.{IsStorePath, IsStorePath-from_named, store_path_is}
use Rattle.host_trait.specs.Bytes.{bytes_cmp}
use Rattle.host_trait.specs.World.{Leaves, is_listed, listed, stage}
use Rattle.host_trait.proofs.KeyOrder.{keys_sorted}
use Rattle.etc_manifest.specs.Companion.{is_companion}
use Rattle.etc_manifest.specs.Entries.{entries_of, has_leaf, leaf_names}
use Rattle.switch_names.specs.Texts.{after_front}
use Rattle.etc_manifest.specs.Place.{etc_folder, path_in}
use Rattle.host_trait.proofs.NameOrder.{name_exact}
use Rattle.host_trait.proofs.Listings.{is_among as listed_below}
use Rattle.etc_manifest.proofs.NameLemmas.{has_after, has_filter, sorted_after}

-- the path of a system begins with the store's
in_store : (system : List ℕ) → IsSystemPath system → system ≡ store_folder ++ store_name system
in_store system is =
    let path = subst (λ path. IsStorePath path) is.same (IsStorePath-from_named system is.no_fault) in
    store_path_is system path.begins

-- nothing in a system's etc is the stage
not_stage : (system rest : List ℕ) → IsSystemPath system → path_in (etc_folder system) rest ≡ stage → ⊥
unfolding etc_folder stage
not_stage system rest is same =
    let fifth = ap (λ (p : List ℕ). get_or p 4 0) (ap (λ s. (s ++ codes "/etc") ++ slash ∷ rest) (sym (in_store system is)) ∙ same) in omega arith

-- what stands in a system's etc is listed
is_among : (system name : List ℕ) → IsSystemPath system → is_listed (etc_folder system) (path_in (etc_folder system) name) ≡ true
is_among system name is = listed_below (etc_folder system) name (not_stage system name is)

-- the paths of a folder are listed in order
pub paths_sorted : (leaves : Leaves) (folder : List ℕ) → IsStrictlySortedBy bytes_cmp (listed folder leaves)
paths_sorted leaves folder = IsStrictlySortedBy-filter bytes_cmp (is_listed folder) (keys leaves) (keys_sorted leaves)

module _ (leaves : Leaves) (system : List ℕ) where
  -- a name is one of a leaf exactly where a leaf stands at its path
  pub has_leaf_name : IsSystemPath system → (name : List ℕ) → has (leaf_names leaves (etc_folder system)) name ≡ has_leaf leaves (etc_folder system) name
  has_leaf_name is name =
      let path : List ℕ = path_in (etc_folder system) name in
      has_after (path_in (etc_folder system) []) (listed (etc_folder system) leaves) name
      ∙ ap (has (listed (etc_folder system) leaves)) (append_assoc (etc_folder system) (slash ∷ []) name)
      ∙ any-filter_same (is_name path) (is_listed (etc_folder system)) true
      (λ p same. subst (λ q. is_listed (etc_folder system) q ≡ true) (name_exact path p same) (is_among system name is)) (keys leaves)
      ∙ sym (contains_key-keys leaves path)

  names_sorted : IsStrictlySortedBy bytes_cmp (leaf_names leaves (etc_folder system))
  names_sorted = sorted_after (path_in (etc_folder system) []) (listed (etc_folder system) leaves) (paths_sorted leaves (etc_folder system))

  -- the entries are in order
  pub entries_sorted : IsStrictlySortedBy bytes_cmp (entries_of leaves system)
  entries_sorted = IsStrictlySortedBy-filter bytes_cmp (λ name. not (is_companion (has_leaf leaves (etc_folder system)) name)) (leaf_names leaves (etc_folder system)) names_sorted

  -- and are the names of the leaves that are no companions
  pub entries_exact : IsSystemPath system → (name : List ℕ) →
      has (entries_of leaves system) name ≡ (has_leaf leaves (etc_folder system) name && not (is_companion (has_leaf leaves (etc_folder system)) name))
  entries_exact is name =
      has_filter (λ n. not (is_companion (has_leaf leaves (etc_folder system)) n)) (leaf_names leaves (etc_folder system)) name
      ∙ ap (λ b. b && not (is_companion (has_leaf leaves (etc_folder system)) name)) (has_leaf_name is name)

-- what follows the folder in the listed paths are the names
pub names_read : (leaves : Leaves) (folder : List ℕ) (paths names : List (List ℕ)) → paths ≡ listed folder leaves →
    (IsStrictlySortedBy bytes_cmp paths → names ≡ filter_map (after_front (path_in folder [])) paths) → names ≡ leaf_names leaves folder
names_read leaves folder paths names are read =
    read (subst (IsStrictlySortedBy bytes_cmp) (sym are) (paths_sorted leaves folder)) ∙ ap (filter_map (after_front (path_in folder []))) are
