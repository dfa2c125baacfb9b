-- What a system wants below /etc stays the same where the store does.
use Rattle.std.proofs.Common.{◌≡◌, ◌&&◌, ◌||◌, ◌++◌, [], ◌∷◌, not, nat_lt, length, unwrap_or, Bool, true, false, inl, inr, cond, List, ℕ, codes, map, Option, None, Some, Result, Err, is_some, option_map, option_and_then, append_assoc, refl, sym, ap, subst, ◌∙◌}
use Rattle.std.proofs.lemmas.Bool.{both_ways, cases_Bool}
use Rattle.std.proofs.lemmas.Map.Lookups.{btree_set_from_contains, exact_bytes}
use Rattle.std.specs.FinMap.{get}
use Rattle.switch_names.specs.Names.{Name}
use Rattle.switch_names.specs.Path.{slash}
use Rattle.switch_names.specs.SystemName.{IsSystemPath}
use Rattle.host_trait.specs.declared.leaf.LeafKind.{LeafKind}
use Rattle.host_trait.specs.World.{Leaves, content_of}
use Rattle.host_trait.proofs.Places.{bytes_total}
use Rattle.leaf_limits.specs.Limits.{is_long, leaf_max}
use Rattle.etc_manifest.specs.declared.item.ItemKind.{ItemKind}
use Rattle.etc_manifest.specs.declared.manifest_fault.ManifestFault.{ManifestFault}
use Rattle.etc_manifest.specs.declared.manifest_fault.ManifestFault.TheVariants.{Entry, Reserved}
use Rattle.etc_manifest.specs.declared.mode.Mode.{Mode}
use Rattle.etc_manifest.specs.declared.mode.Mode.TheVariants.{Bits, DirectSymlink}
use Rattle.etc_manifest.specs.Companion.{companion, has_long_owner, is_companion, owner_text, parts_of, short_content, without_line_feed}
use Rattle.etc_manifest.specs.Entries.{entries_of, has_leaf, item_at, item_of, manifest_of, with_place}
use Rattle.etc_manifest.specs.Kind.{copied_kind, direct_kind, kind_by, kind_of, kind_with, mode_of, target_of}
use Rattle.etc_manifest.specs.Manifest.{gathered}
use Rattle.etc_manifest.specs.Owners.{OwnerIds}
use Rattle.etc_manifest.specs.Place.{etc_folder, is_reserved, path_in}
use Rattle.etc_manifest.proofs.LeafLemmas.{entries_exact, entries_sorted}
use Rattle.etc_clean.specs.Etc.{is_owned}
use Rattle.etc_clean.specs.Names.{is_in_etc, name_of, place}
use Rattle.etc_clean.proofs.NameLemmas.{in_etc}
use Rattle.switch_parts.specs.Store.{is_in_store}
use Rattle.switch_parts.proofs.StoreLemmas.{store_content_kept, system_stored}
use Rattle.etc_farm.specs.FarmPart.{owns_farm}

-- ---- no farm writes in the store

pub place_not_stored : (q : Name) → is_in_store (place q) ≡ false
unfolding is_in_store place
place_not_stored q = refl

pub store_not_owned : (path : Name) → is_in_store path ≡ true → owns_farm path ≡ false
store_not_owned path inside = elim (cases_Bool (is_in_etc path)) [
  | inl there ↦ absurd (both_ways _ (place_not_stored (name_of path)) (subst (λ p. is_in_store p ≡ true) (in_etc path there) inside))
  | inr out ↦ ap (λ b. b && is_owned (name_of path)) out
]

-- ---- what a system wants lies in the store

-- whatever lies in a system's etc lies in the store
pub etc_stored : (system name : Name) → IsSystemPath system → is_in_store (path_in (etc_folder system) name) ≡ true
unfolding etc_folder
etc_stored system name named =
    ap is_in_store (append_assoc system (codes "/etc") (slash ∷ name)) ∙ system_stored system (codes "/etc" ++ slash ∷ name) named

module _ (w m : Leaves) (same : (path : Name) → is_in_store path ≡ true → get m path ≡ get w path) (system : Name) (named : IsSystemPath system) where
  leaf_same : (name : Name) → get m (path_in (etc_folder system) name) ≡ get w (path_in (etc_folder system) name)
  leaf_same name = same (path_in (etc_folder system) name) (etc_stored system name named)

  content_same : (name : Name) → content_of m (path_in (etc_folder system) name) ≡ content_of w (path_in (etc_folder system) name)
  content_same name = store_content_kept w m same (path_in (etc_folder system) name) (leaf_same name)

  -- and is as long
  long_same : (name : Name) → is_long m (path_in (etc_folder system) name) ≡ is_long w (path_in (etc_folder system) name)
  long_same name = ap (λ (content : Option (List ℕ)). nat_lt leaf_max (length (unwrap_or content []))) (content_same name)

  short_same : (name : Name) → short_content m (path_in (etc_folder system) name) ≡ short_content w (path_in (etc_folder system) name)
  short_same name = λ i. cond (long_same name i) None (content_same name i)

  has_same : (name : Name) → has_leaf m (etc_folder system) name ≡ has_leaf w (etc_folder system) name
  has_same name = ap (λ (leaf : Option LeafKind). is_some leaf) (leaf_same name)

  -- the same leaves stand in a system's etc
  pub entries_same : entries_of m system ≡ entries_of w system
  entries_same =
      btree_set_from_contains bytes_total (record { keys = entries_of m system }) (record { keys = entries_of w system }) (entries_sorted m system) (entries_sorted w system)
      (λ name.
      entries_exact m system named name
      ∙ (λ i. has_same name i && not (is_companion (λ other. has_same other i) name))
      ∙ sym (entries_exact w system named name))
      exact_bytes

  module _ (has_name : Name → Bool) (owners : OwnerIds) (name : Name) where
    companion_same : (end : Name) → companion has_name m (etc_folder system) name end ≡ companion has_name w (etc_folder system) name end
    companion_same end = ap (λ (content : Option (List ℕ)). cond (has_name (name ++ end)) (Some (option_map without_line_feed content)) None) (short_same (name ++ end))

    long_owner_same : has_long_owner has_name m (etc_folder system) name ≡ has_long_owner has_name w (etc_folder system) name
    long_owner_same = λ i. (has_name (name ++ codes ".uid") && long_same (name ++ codes ".uid") i) || (has_name (name ++ codes ".gid") && long_same (name ++ codes ".gid") i)

    parts_same : parts_of has_name m (etc_folder system) name ≡ parts_of has_name w (etc_folder system) name
    parts_same = λ i. record {
      bytes = short_same name i;
      uid = owner_text (companion_same (codes ".uid") i);
      gid = owner_text (companion_same (codes ".gid") i);
    }

    with_same : (mode : Option Mode) → kind_with has_name m (etc_folder system) owners name mode ≡ kind_with has_name w (etc_folder system) owners name mode
    with_same None = refl
    with_same (Some DirectSymlink) = λ i. cond (long_owner_same i) (Err (Entry name)) (direct_kind name (cond (long_same name i) None (target_of (leaf_same name i))))
    with_same (Some (Bits mode)) = ap (copied_kind owners name mode) parts_same

    by_same : (text : Option (Option (List ℕ))) → kind_by has_name m (etc_folder system) owners name text ≡ kind_by has_name w (etc_folder system) owners name text
    by_same None = refl
    by_same (Some text) = with_same (option_and_then mode_of text)

    kind_same : kind_of has_name m (etc_folder system) owners name ≡ kind_of has_name w (etc_folder system) owners name
    kind_same =
        by_same (companion has_name m (etc_folder system) name (codes ".mode"))
        ∙ ap (kind_by has_name w (etc_folder system) owners name) (companion_same (codes ".mode"))

  item_same : (owners : OwnerIds) (name : Name) → item_at m system owners name ≡ item_at w system owners name
  item_same owners name =
      (λ i. item_of (λ other. has_same other i) m (etc_folder system) owners name)
      ∙ ap (λ (kind : Result ItemKind ManifestFault). cond (is_reserved name) (Err (Reserved name)) (with_place name kind))
      (kind_same (has_leaf w (etc_folder system)) owners name)

  -- and the same is wanted there
  pub manifest_same : (owners : OwnerIds) → manifest_of m system owners ≡ manifest_of w system owners
  manifest_same owners = λ i. gathered (map (λ name. item_same owners name i) (entries_same i))
