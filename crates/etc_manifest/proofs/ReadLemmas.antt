-- What is read of each entry is what the system wants.
use Rattle.std.proofs.Common.{◌≡◌, ℕ, ◌+◌, ◌<◌, ◌++◌, Bool, true, false, cond, List, [], ◌∷◌, length, get_or, drop, take, codes, filter, map, Option, None, Some, option_and_then, Result, Ok, Err, IsErrAnd, sym, ap, subst, ◌∙◌}
use Rattle.std.specs.List.{AllByRecursion}
use Rattle.std.proofs.lemmas.List.{append-nil, map-append}
use Rattle.std.proofs.lemmas.List.Elements.{filter_more}
use Rattle.switch_names.specs.Names.{Name, has}
use Rattle.switch_names.specs.SystemName.{IsSystemPath}
use Rattle.host_trait.specs.World.{Leaves}
use Rattle.etc_manifest.specs.declared.item.Item.{Item}
use Rattle.etc_manifest.specs.declared.item.ItemKind.{ItemKind}
use Rattle.etc_manifest.specs.declared.item.ItemKind.TheVariants.{Linked}
use Rattle.etc_manifest.specs.declared.manifest_fault.ManifestFault.{ManifestFault}
use Rattle.etc_manifest.specs.declared.manifest_fault.ManifestFault.TheVariants.{Many, Reserved, Entry, Owner, Host}
use Rattle.etc_manifest.specs.declared.mode.Mode.{Mode}
use Rattle.etc_manifest.specs.Companion.{companion}
use Rattle.etc_manifest.specs.Entries.{IsAnswer, entry_names, has_leaf, item_of, leaf_names, manifest_of, with_place}
use Rattle.etc_manifest.specs.Kind.{kind_by, kind_of, kind_with, mode_of}
use Rattle.etc_manifest.specs.Manifest.{gathered, places, prefixed}
use Rattle.etc_manifest.specs.Owners.{OwnerIds}
use Rattle.etc_manifest.specs.Place.{etc_folder, is_reserved}
use Rattle.etc_manifest.proofs.GatherLemmas.{gathered_stops}
use Rattle.etc_manifest.proofs.LeafLemmas.{has_leaf_name}

module _ (has_name : Name → Bool) (leaves : Leaves) (folder : List ℕ) (owners : OwnerIds) (name : List ℕ) where
  -- an entry with what its mode says
  pub kind_read : (text : Option (List ℕ)) (mode : Option Mode) (r : Result ItemKind ManifestFault) → Some text ≡ companion has_name leaves folder name (codes ".mode") → mode ≡ option_and_then mode_of text →
      IsAnswer r (kind_with has_name leaves folder owners name mode) → IsAnswer r (kind_of has_name leaves folder owners name)
  kind_read text mode r says is answer =
      subst (IsAnswer r) (ap (kind_with has_name leaves folder owners name) is ∙ ap (kind_by has_name leaves folder owners name) says) answer

  -- or one without a mode
  pub kind_linked : None ≡ companion has_name leaves folder name (codes ".mode") → kind_of has_name leaves folder owners name ≡ Ok Linked
  kind_linked says = sym (ap (kind_by has_name leaves folder owners name) says)

  -- a reserved name is refused
  pub item_reserved : (place : List ℕ) → is_reserved name ≡ true → place ≡ name → item_of has_name leaves folder owners name ≡ Err (Reserved place)
  item_reserved place reserved same =
      ap (λ b. cond b (Err (Reserved name)) (with_place name (kind_of has_name leaves folder owners name))) reserved ∙ ap (λ n. Err (Reserved n)) (sym same)

  -- any other is an entry, as far as it can be placed
  pub item_free : is_reserved name ≡ false → item_of has_name leaves folder owners name ≡ with_place name (kind_of has_name leaves folder owners name)
  item_free free = ap (λ b. cond b (Err (Reserved name)) (with_place name (kind_of has_name leaves folder owners name))) free

  pub item_read : (kind : ItemKind) (place : List ℕ) → is_reserved name ≡ false → place ≡ name → kind_of has_name leaves folder owners name ≡ Ok kind →
      item_of has_name leaves folder owners name ≡ Ok (record { place = place; kind = kind })
  item_read kind place free same answer = item_free free ∙ ap (with_place name) answer ∙ ap (λ n. Ok (record { place = n; kind = kind })) (sym same)

  -- and refused for what its kind is refused for
  pub item_faulty : (fault : ManifestFault) (r : Result Item ManifestFault) → is_reserved name ≡ false → IsErrAnd r (λ x. x ≡ fault) → IsAnswer (Err fault) (kind_of has_name leaves folder owners name) →
      IsAnswer r (item_of has_name leaves folder owners name)
  item_faulty fault (Ok item) free is answer = absurd is
  item_faulty fault (Err x) free is answer = subst (λ f. IsAnswer (Err f) (item_of has_name leaves folder owners name)) (sym is) (by fault answer)
    where
      by : (fault : ManifestFault) → IsAnswer (Err fault) (kind_of has_name leaves folder owners name) → IsAnswer (Err fault) (item_of has_name leaves folder owners name)
      by (Many count) answer = absurd answer
      by (Reserved place) answer = item_free free ∙ ap (with_place name) answer
      by (Entry place) answer = item_free free ∙ ap (with_place name) answer
      by (Owner place) answer = item_free free ∙ ap (with_place name) answer
      by (Host why) answer = tt

-- the entries of all names are what the system wants
pub all_read : (leaves : Leaves) (system folder : List ℕ) (owners : OwnerIds) (names : List (List ℕ)) (r : Result (List Item) ManifestFault) → IsSystemPath system →
    folder ≡ etc_folder system → names ≡ leaf_names leaves (etc_folder system) →
    IsAnswer r (gathered (map (item_of (has names) leaves folder owners) (entry_names (has names) names))) → IsAnswer r (manifest_of leaves system owners)
all_read leaves system folder owners names r named is_folder names_are answer = subst (IsAnswer r) same answer
  where
    has_same : (name : List ℕ) → has names name ≡ has_leaf leaves (etc_folder system) name
    has_same name = ap (λ ns. has ns name) names_are ∙ has_leaf_name leaves system named name

    same : gathered (map (item_of (has names) leaves folder owners) (entry_names (has names) names)) ≡ manifest_of leaves system owners
    same =
        ap (λ f. gathered (map (item_of (has names) leaves f owners) (entry_names (has names) names))) is_folder
        ∙ (λ i. gathered (map (item_of (λ name. has_same name i) leaves (etc_folder system) owners) (entry_names (λ name. has_same name i) (names_are i))))

module _ (p : List ℕ → Bool) (names : List (List ℕ)) (i : ℕ) (name : List ℕ) (within : i < length names) (is : name ≡ get_or names i name) where
  kept_by : (b : Bool) → p name ≡ b → filter p (take (i + 1) names) ≡ filter p (take i names) ++ cond b (name ∷ []) []
  kept_by b passes =
      filter_more p names i name within
      ∙ ap (λ n. filter p (take i names) ++ cond (p n) (n ∷ []) []) (sym is)
      ∙ ap (λ c. filter p (take i names) ++ cond c (name ∷ []) []) passes

  -- one name more is an entry
  pub kept_more : p name ≡ true → filter p (take (i + 1) names) ≡ filter p (take i names) ++ name ∷ []
  kept_more passes = kept_by true passes

  -- or none
  pub kept_same : p name ≡ false → filter p (take (i + 1) names) ≡ filter p (take i names)
  kept_same fails = kept_by false fails ∙ append-nil (filter p (take i names))

-- an entry that is refused is what all are refused for
module _ (f : List ℕ → Result Item ManifestFault) (p : List ℕ → Bool) (names : List (List ℕ)) (i : ℕ) (name : List ℕ) (within : i < length names) (is : name ≡ get_or names i name) where
  pub refused_here : (fault : ManifestFault) (before : List Item) (r : Result (List Item) ManifestFault) → IsErrAnd r (λ x. x ≡ fault) → p name ≡ true → IsAnswer (Err fault) (f name) →
      gathered (map f (filter p names)) ≡ prefixed before (gathered (map f (filter p (drop i names)))) → IsAnswer r (gathered (map f (filter p names)))
  refused_here fault before (Ok items) handed passes answer so_far = absurd handed
  refused_here fault before (Err x) handed passes answer so_far = subst (λ e. IsAnswer (Err e) (gathered (map f (filter p names)))) (sym handed) (by fault answer)
    where
      by : (fault : ManifestFault) → IsAnswer (Err fault) (f name) → IsAnswer (Err fault) (gathered (map f (filter p names)))
      by (Many count) answer = absurd answer
      by (Reserved place) answer = gathered_stops f p names i name within is (Reserved place) before passes answer so_far
      by (Entry place) answer = gathered_stops f p names i name within is (Entry place) before passes answer so_far
      by (Owner place) answer = gathered_stops f p names i name within is (Owner place) before passes answer so_far
      by (Host why) answer = tt

-- one place more of the entries
pub place_more : (entries more : List (List ℕ)) (name : List ℕ) (item : Item) (before now : List Item) → more ≡ entries ++ name ∷ [] → item.place ≡ name → now ≡ before ++ item ∷ [] →
    places before ≡ entries → places now ≡ more
place_more entries more name item before now are placed pushed so_far =
    ap places pushed ∙ map-append (λ (one : Item). one.place) before (item ∷ []) ∙ (λ k. so_far k ++ placed k ∷ []) ∙ sym are

all_push : (P : List ℕ → Type 0) (names : List (List ℕ)) (name : List ℕ) → AllByRecursion P names → P name → AllByRecursion P (names ++ name ∷ [])
all_push P [] name all one = (one, tt)
all_push P (n ∷ names) name all one = (all.0, all_push P names name all.1 one)

-- one entry more isn't reserved
pub free_more : (entries more : List (List ℕ)) (name : List ℕ) → more ≡ entries ++ name ∷ [] → is_reserved name ≡ false →
    AllByRecursion (λ n. is_reserved n ≡ false) entries → AllByRecursion (λ n. is_reserved n ≡ false) more
free_more entries more name are free so_far = subst (AllByRecursion (λ n. is_reserved n ≡ false)) (sym are) (all_push (λ n. is_reserved n ≡ false) entries name so_far free)
