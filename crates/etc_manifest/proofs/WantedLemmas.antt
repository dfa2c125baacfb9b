-- The items of a manifest are what is wanted at its entries.
use Rattle.std.proofs.Common.{◌≡◌, ◌||◌, ℕ, Bool, true, false, cond, List, [], ◌∷◌, map, find, None, Some, option_map, Result, Ok, Err, refl, sym, ap, ◌∙◌}
use Rattle.switch_names.specs.Names.{has, is_name}
use Rattle.host_trait.specs.World.{Leaves}
use Rattle.etc_manifest.specs.declared.item.Item.{Item}
use Rattle.etc_manifest.specs.declared.item.ItemKind.{ItemKind}
use Rattle.etc_manifest.specs.declared.manifest_fault.ManifestFault.{ManifestFault}
use Rattle.etc_manifest.specs.declared.manifest_fault.ManifestFault.TheVariants.{Reserved}
use Rattle.etc_manifest.specs.Entries.{entries_of, has_leaf, item_at, kind_in, manifest_of, wanted_at, with_place}
use Rattle.etc_manifest.specs.Kind.{kind_of}
use Rattle.etc_manifest.specs.Manifest.{entry, gathered, places}
use Rattle.etc_manifest.specs.Owners.{OwnerIds}
use Rattle.etc_manifest.specs.Place.{etc_folder, is_reserved}
use Rattle.etc_manifest.proofs.GatherLemmas.{gathered_err, gathered_ok, prefixed_items}
use Rattle.host_trait.proofs.NameOrder.{name_exact}

module _ (leaves : Leaves) (system : List ℕ) (owners : OwnerIds) where
  placed : (name : List ℕ) (item : Item) → item_at leaves system owners name ≡ Ok item → item.place ≡ name
  placed name item is = by (is_reserved name) (kind_of (has_leaf leaves (etc_folder system)) leaves (etc_folder system) owners name) is
    where
      by : (b : Bool) (r : Result ItemKind ManifestFault) → cond b (Err (Reserved name)) (with_place name r) ≡ Ok item → item.place ≡ name
      by true r is = absurd (cc)
      by false (Ok kind) is = let same : record { place = name; kind = kind } ≡ item = cc in sym (ap (λ (i : Item). i.place) same)
      by false (Err fault) is = absurd (cc)

  places_gathered : (names : List (List ℕ)) (items : List Item) → gathered (map (item_at leaves system owners) names) ≡ Ok items → places items ≡ names
  places_gathered [] items is = let none : [] ≡ items = cc in ap places (sym none)
  places_gathered (n ∷ names) items is = by (item_at leaves system owners n) refl (places_gathered names)
    where
      by : (r : Result Item ManifestFault) → item_at leaves system owners n ≡ r → ((rest : List Item) → gathered (map (item_at leaves system owners) names) ≡ Ok rest → places rest ≡ names) → places items ≡ n ∷ names
      by (Err fault) faulty rest = absurd (let no = sym (gathered_err (item_at leaves system owners) n names fault faulty) ∙ is in cc)
      by (Ok item) fine rest =
          let parts = prefixed_items (item ∷ []) (gathered (map (item_at leaves system owners) names)) items (sym (gathered_ok (item_at leaves system owners) n names item fine) ∙ is) in
          ap places parts.2 ∙ (λ i. placed n item fine i ∷ rest parts.0 parts.1 i)

  -- the places are the entries
  pub places_are : (items : List Item) → manifest_of leaves system owners ≡ Ok items → places items ≡ entries_of leaves system
  places_are items is = places_gathered (entries_of leaves system) items is

  entry_gathered : (names : List (List ℕ)) (items : List Item) → gathered (map (item_at leaves system owners) names) ≡ Ok items → (name : List ℕ) →
      entry items name ≡ cond (has names name) (kind_in (item_at leaves system owners name)) None
  entry_gathered [] items is name = let none : [] ≡ items = cc in ap (λ is. entry is name) (sym none)
  entry_gathered (n ∷ names) items is name = by (item_at leaves system owners n) refl (entry_gathered names)
    where
      by : (r : Result Item ManifestFault) → item_at leaves system owners n ≡ r →
          ((rest : List Item) → gathered (map (item_at leaves system owners) names) ≡ Ok rest → (q : List ℕ) → entry rest q ≡ cond (has names q) (kind_in (item_at leaves system owners q)) None) →
          entry items name ≡ cond (is_name name n || has names name) (kind_in (item_at leaves system owners name)) None
      by (Err fault) faulty rest = absurd (let no = sym (gathered_err (item_at leaves system owners) n names fault faulty) ∙ is in cc)
      by (Ok item) fine rest =
          let parts = prefixed_items (item ∷ []) (gathered (map (item_at leaves system owners) names)) items (sym (gathered_ok (item_at leaves system owners) n names item fine) ∙ is) in
          ap (λ is. entry is name) parts.2
          ∙ ap (λ q. option_map (λ (i : Item). i.kind) (cond (is_name name q) (Some item) (find (λ (i : Item). is_name name i.place) parts.0))) (placed n item fine)
          ∙ first (is_name name n) refl parts.0 (rest parts.0 parts.1 name)
        where
          first : (b : Bool) → is_name name n ≡ b → (others : List Item) → entry others name ≡ cond (has names name) (kind_in (item_at leaves system owners name)) None →
              option_map (λ (i : Item). i.kind) (cond b (Some item) (find (λ (i : Item). is_name name i.place) others)) ≡ cond (b || has names name) (kind_in (item_at leaves system owners name)) None
          first true same others known = sym (ap kind_in (ap (item_at leaves system owners) (name_exact name n same) ∙ fine))
          first false same others known = known

  -- and say what is wanted at each place
  pub entry_is : (items : List Item) → manifest_of leaves system owners ≡ Ok items → (name : List ℕ) → entry items name ≡ wanted_at leaves system owners name
  entry_is items is name = entry_gathered (entries_of leaves system) items is name
