-- The contents that are taken of a system's etc.
use Rattle.std.proofs.Common.{◌≡◌, ◌++◌, ◌&&◌, ◌||◌, not, ℕ, Bool, true, false, cond, List, [], ◌∷◌, filter, map, codes, length, take, nat_eq, IsSome, is_some, Option, None, Some, option_map, Result, Ok, Err, refl, sym, ap, ◌∙◌, ◌-◌, inl, inr, append_assoc}
use Rattle.std.specs.FinMap.{get, keys}
use Rattle.std.specs.List.{AllByRecursion, ends_with}
use Rattle.std.specs.List.Sorted.{IsStrictlySortedBy}
use Rattle.std.specs.Option.{option_map_or}
use Rattle.std.specs.Ordering.{is_eq}
use Rattle.std.specs.declared.cmp.Ordering.TheVariants.{Less}
use Rattle.std.proofs.lemmas.Bool.{and_parts, both_ways, cases_Bool, or_cases}
use Rattle.std.proofs.lemmas.Bool.Decides.{Decides-eqb}
use Rattle.std.proofs.lemmas.Option.{cond_some}
use Rattle.std.proofs.lemmas.Slice.Eq.{ends_is}
use Rattle.switch_names.specs.Names.{Name, has, is_name}
use Rattle.switch_names.specs.Path.{slash}
use Rattle.switch_names.specs.SystemName.{IsSystemPath}
use Rattle.switch_names.specs.Texts.{after_front, before_end}
use Rattle.switch_names.proofs.Cuts.{front_is, front_there}
use Rattle.host_trait.specs.declared.leaf.LeafKind.{LeafKind}
use Rattle.host_trait.specs.World.{Leaves, bytes_cmp, content_of, leaf_content}
use Rattle.host_trait.proofs.NameOrder.{name_exact}
use Rattle.leaf_limits.specs.Limits.{AreTaken, is_long, length_at, long_past}
use Rattle.leaf_limits.proofs.PastLemmas.{none_found}
use Rattle.etc_manifest.specs.declared.item.Item.{Item}
use Rattle.etc_manifest.specs.declared.item.ItemKind.{ItemKind}
use Rattle.etc_manifest.specs.declared.manifest_fault.ManifestFault.{ManifestFault}
use Rattle.etc_manifest.specs.declared.manifest_fault.ManifestFault.TheVariants.{Reserved}
use Rattle.etc_manifest.specs.Companion.{is_before, is_companion}
use Rattle.etc_manifest.specs.Entries.{entries_of, has_leaf, item_at, leaf_names, manifest_of, with_place}
use Rattle.etc_manifest.specs.Kind.{kind_of}
use Rattle.etc_manifest.specs.Manifest.{gathered}
use Rattle.etc_manifest.specs.Owners.{OwnerIds}
use Rattle.etc_manifest.specs.Place.{etc_folder, is_reserved, path_in}
use Rattle.etc_manifest.specs.Taken.{is_companion_with, is_entry_with_mode, is_taken, takes_entries}
use Rattle.etc_manifest.proofs.GatherLemmas.{gathered_err, gathered_ok, prefixed_items}
use Rattle.etc_manifest.proofs.LeafLemmas.{entries_exact, has_leaf_name}
use Rattle.etc_manifest.proofs.NameLemmas.{front_same, has_filter}
use Rattle.etc_manifest.proofs.ShortLemmas.{IsShort, none_long, placed_short}

-- ---- the paths of names in a folder

module _ (folder : List ℕ) where
  path_order : (a b : Name) → bytes_cmp (path_in folder a) (path_in folder b) ≡ bytes_cmp a b
  path_order a b = front_same folder (slash ∷ a) (slash ∷ b) ∙ front_same (slash ∷ []) a b

  paths_above : (name : Name) (names : List Name) → AllByRecursion (λ b. bytes_cmp name b ≡ Less) names → AllByRecursion (λ b. bytes_cmp (path_in folder name) b ≡ Less) (map (path_in folder) names)
  paths_above name [] above = tt
  paths_above name (n ∷ names) above = (path_order name n ∙ above.0, paths_above name names above.1)

  -- are in order where the names are
  pub paths_in_order : (names : List Name) → IsStrictlySortedBy bytes_cmp names → IsStrictlySortedBy bytes_cmp (map (path_in folder) names)
  unfolding IsStrictlySortedBy
  paths_in_order [] sorted = tt
  paths_in_order (n ∷ names) sorted = (paths_above n names sorted.0, paths_in_order names sorted.1)

  has_path : (names : List Name) (name : Name) → has (map (path_in folder) names) (path_in folder name) ≡ has names name
  has_path [] name = refl
  has_path (n ∷ names) name = λ i. is_eq (path_order name n i) || has_path names name i

  path_is : (q name : Name) → after_front (path_in folder []) q ≡ Some name → q ≡ path_in folder name
  path_is q name is = front_is (path_in folder []) q name is ∙ append_assoc folder (slash ∷ []) name

  has_no_path : (names : List Name) (q : Name) → after_front (path_in folder []) q ≡ None → has (map (path_in folder) names) q ≡ false
  has_no_path [] q none = refl
  has_no_path (n ∷ names) q none = ap (λ b. b || has (map (path_in folder) names) q) other ∙ has_no_path names q none
    where
      other : is_name q (path_in folder n) ≡ false
      other = elim (cases_Bool (is_name q (path_in folder n))) [
        | inl same ↦
            let there : None ≡ Some n = sym none ∙ ap (after_front (path_in folder [])) (name_exact q (path_in folder n) same ∙ sym (append_assoc folder (slash ∷ []) n)) ∙ front_there (path_in folder []) n in absurd (cc)
        | inr differs ↦ differs
      ]

-- a place with a content has a leaf
leaf_there : (leaves : Leaves) (q : Name) → IsSome (content_of leaves q) → is_some (get leaves q) ≡ true
leaf_there leaves q there = by (get leaves q) there
  where
    by : (leaf : Option LeafKind) → IsSome (leaf_content leaves leaf) → is_some leaf ≡ true
    by None there = there
    by (Some leaf) there = refl

-- of a system's names these are the paths whose contents are taken
pub are_taken : (leaves : Leaves) (system folder : List ℕ) (names places : List Name) → IsSystemPath system → folder ≡ etc_folder system → names ≡ leaf_names leaves (etc_folder system) →
    places ≡ map (path_in folder) (filter (is_taken (has names)) names) → AreTaken places (takes_entries leaves system) leaves
are_taken leaves system folder names places named is_folder names_are places_are q there =
    ap (λ ps. has ps q) (places_are ∙ ap (λ f. map (path_in f) (filter (is_taken (has names)) names)) is_folder) ∙ by (after_front (path_in (etc_folder system) []) q) refl
  where
    has_same : (name : Name) → has names name ≡ has_leaf leaves (etc_folder system) name
    has_same name = ap (λ ns. has ns name) names_are ∙ has_leaf_name leaves system named name

    by : (o : Option Name) → after_front (path_in (etc_folder system) []) q ≡ o →
        has (map (path_in (etc_folder system)) (filter (is_taken (has names)) names)) q ≡ option_map_or (is_taken (has_leaf leaves (etc_folder system))) (after_front (path_in (etc_folder system) []) q) false
    by None is =
        has_no_path (etc_folder system) (filter (is_taken (has names)) names) q is ∙ sym (ap (λ (o : Option Name). option_map_or (is_taken (has_leaf leaves (etc_folder system))) o false) is)
    by (Some name) is =
        let path = path_is (etc_folder system) q name is in
        let leaf : has_leaf leaves (etc_folder system) name ≡ true = ap (λ (p : Name). is_some (get leaves p)) (sym path) ∙ leaf_there leaves q there in
        ap (has (map (path_in (etc_folder system)) (filter (is_taken (has names)) names))) path
        ∙ has_path (etc_folder system) (filter (is_taken (has names)) names) name
        ∙ has_filter (is_taken (has names)) names name
        ∙ ap (λ b. b && is_taken (has names) name) (has_same name ∙ leaf)
        ∙ (λ i. is_taken (λ other. has_same other i) name)
        ∙ sym (ap (λ (o : Option Name). option_map_or (is_taken (has_leaf leaves (etc_folder system))) o false) is)

-- ---- none of them is too long where no entry is refused

-- a name with an ending
before_is : (end : List ℕ) (test : Name → Bool) (name : Name) → is_before end test name ≡ true → (stem : Name) × (name ≡ stem ++ end) × (test stem ≡ true)
before_is end test name is = by (before_end end name) refl is
  where
    by : (o : Option (List ℕ)) → before_end end name ≡ o → option_map_or test o false ≡ true → (stem : Name) × (name ≡ stem ++ end) × (test stem ≡ true)
    by None none is = absurd (both_ways false refl is)
    by (Some stem) some is =
        let parts = cond_some (ends_with nat_eq name end) (take (length name - length end) name) stem some in
        (stem, (ends_is Decides-eqb name end (ends_with nat_eq name end) refl).0 parts.0 ∙ ap (λ s. s ++ end) parts.1, is)

-- of items that were gathered each was fine
each_fine : (f : Name → Result Item ManifestFault) (names : List Name) (items : List Item) → gathered (map f names) ≡ Ok items → (name : Name) → has names name ≡ true →
    (item : Item) × (f name ≡ Ok item)
each_fine f [] items is name there = absurd (both_ways false refl there)
each_fine f (n ∷ names) items is name there = by (f n) refl (each_fine f names)
  where
    by : (r : Result Item ManifestFault) → f n ≡ r → ((rest : List Item) → gathered (map f names) ≡ Ok rest → (q : Name) → has names q ≡ true → (item : Item) × (f q ≡ Ok item)) → (item : Item) × (f name ≡ Ok item)
    by (Err fault) faulty rest = absurd (let no = sym (gathered_err f n names fault faulty) ∙ is in cc)
    by (Ok item) fine rest = elim (or_cases (is_name name n) (has names name) there) [
      | inl same ↦ (item, ap f (name_exact name n same) ∙ fine)
      | inr others ↦
          let parts = prefixed_items (item ∷ []) (gathered (map f names)) items (sym (gathered_ok f n names item fine) ∙ is) in
          rest parts.0 parts.1 name others
    ]

module _ (leaves : Leaves) (system : List ℕ) (owners : OwnerIds) (items : List Item) (named : IsSystemPath system) (is : manifest_of leaves system owners ≡ Ok items) where
  abbrev has_here : Name → Bool
  has_here = has_leaf leaves (etc_folder system)

  kind_fine : (name : Name) (item : Item) → item_at leaves system owners name ≡ Ok item → (kind : ItemKind) × (kind_of has_here leaves (etc_folder system) owners name ≡ Ok kind)
  kind_fine name item fine = by (is_reserved name) (kind_of has_here leaves (etc_folder system) owners name) fine
    where
      by : (b : Bool) (r : Result ItemKind ManifestFault) → cond b (Err (Reserved name)) (with_place name r) ≡ Ok item → (kind : ItemKind) × (r ≡ Ok kind)
      by true r fine = absurd (cc)
      by false (Ok kind) fine = (kind, refl)
      by false (Err fault) fine = absurd (cc)

  entry_short : (name : Name) → is_entry_with_mode has_here name ≡ true → IsShort has_here leaves (etc_folder system) name
  entry_short name entry =
      let parts = and_parts (has_here name && has_here (name ++ codes ".mode")) (not (is_companion has_here name)) entry in
      let modes = and_parts (has_here name) (has_here (name ++ codes ".mode")) parts.0 in
      let there = entries_exact leaves system named name ∙ (λ i. modes.0 i && parts.1 i) in
      let item = each_fine (item_at leaves system owners) (entries_of leaves system) items is name there in
      let kind = kind_fine name item.0 item.1 in
      placed_short has_here leaves (etc_folder system) owners name kind.0 modes.1 kind.1

  -- a companion is short where a leaf stands there, and where none does
  short_there : (name : Name) → (has_here name ≡ true → is_long leaves (path_in (etc_folder system) name) ≡ false) → is_long leaves (path_in (etc_folder system) name) ≡ false
  short_there name short = by (get leaves (path_in (etc_folder system) name)) refl
    where
      by : (leaf : Option LeafKind) → get leaves (path_in (etc_folder system) name) ≡ leaf → is_long leaves (path_in (etc_folder system) name) ≡ false
      by None none = none_long leaves (path_in (etc_folder system) name) none
      by (Some leaf) some = short (ap (λ (l : Option LeafKind). is_some l) some)

  name_short : (name : Name) → is_taken has_here name ≡ true → is_long leaves (path_in (etc_folder system) name) ≡ false
  name_short name taken =
      let entry = is_entry_with_mode has_here name in
      let mode = is_companion_with has_here (codes ".mode") name in
      let uid = is_companion_with has_here (codes ".uid") name in
      elim (or_cases (entry || mode || uid) (is_companion_with has_here (codes ".gid") name) taken) [
        | inr gid ↦
            let stem = before_is (codes ".gid") (is_entry_with_mode has_here) name gid in
            ap (λ n. is_long leaves (path_in (etc_folder system) n)) stem.1 ∙ short_there (stem.0 ++ codes ".gid") (entry_short stem.0 stem.2).gid
        | inl others ↦ elim (or_cases (entry || mode) uid others) [
          | inr is_uid ↦
              let stem = before_is (codes ".uid") (is_entry_with_mode has_here) name is_uid in
              ap (λ n. is_long leaves (path_in (etc_folder system) n)) stem.1 ∙ short_there (stem.0 ++ codes ".uid") (entry_short stem.0 stem.2).uid
          | inl rest ↦ elim (or_cases entry mode rest) [
            | inl is_entry ↦ (entry_short name is_entry).entry
            | inr is_mode ↦
                let stem = before_is (codes ".mode") (is_entry_with_mode has_here) name is_mode in
                ap (λ n. is_long leaves (path_in (etc_folder system) n)) stem.1 ∙ (entry_short stem.0 stem.2).mode
          ]
        ]
      ]

  pub taken_short : (q : Name) → takes_entries leaves system q ≡ true → is_long leaves q ≡ false
  taken_short q taken = by (after_front (path_in (etc_folder system) []) q) refl taken
    where
      by : (o : Option Name) → after_front (path_in (etc_folder system) []) q ≡ o → option_map_or (is_taken has_here) o false ≡ true → is_long leaves q ≡ false
      by None none taken = absurd (both_ways false refl taken)
      by (Some name) some taken = ap (is_long leaves) (path_is (etc_folder system) q name some) ∙ name_short name taken

  -- so that none is found that is too long
  pub none_past : long_past (takes_entries leaves system) leaves ≡ None
  none_past = ap (option_map (length_at leaves)) (none_found (λ q. takes_entries leaves system q && is_long leaves q) (keys leaves) neither)
    where
      neither : (q : Name) → (takes_entries leaves system q && is_long leaves q) ≡ false
      neither q = by (takes_entries leaves system q) refl
        where
          by : (b : Bool) → takes_entries leaves system q ≡ b → (b && is_long leaves q) ≡ false
          by true taken = taken_short q taken
          by false other = refl
