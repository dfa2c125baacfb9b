-- The places of the boot menu of generations.
use Rattle.std.proofs.Common.{◌≡◌, ℕ, ◌+◌, ◌<◌, ◌||◌, Bool, false, true, cond, List, [], ◌∷◌, ◌++◌, get_or, length, map, take, Option, None, Some, is_some, refl, sym, ap, subst, ◌∙◌, inl, inr}
use Rattle.std.proofs.lemmas.Bool.{both_ways}
use Rattle.std.proofs.lemmas.List.{append_assoc, take_more}
use Rattle.std.proofs.lemmas.List.Elements.{filter_map-append}
use Rattle.std.proofs.lemmas.List.Folds.{list_any-append}
use Rattle.std.proofs.lemmas.Map.Lookups.{btree_set_from_contains, exact_bytes}
use Rattle.std.specs.FinMap.{contains_key-keys, from_entries, get-from_entries}
use Rattle.std.specs.FinMap.Entries.{is_some-find}
use Rattle.std.specs.List.{AllByRecursion, cons_option, filter_map}
use Rattle.std.specs.List.Sorted.{IsStrictlySortedBy}
use Rattle.std.specs.Option.{option_map, option_to_list}
use Rattle.host_trait.specs.World.{bytes_cmp, is_in_line, stage}
use Rattle.host_trait.proofs.KeyOrder.{keys_sorted}
use Rattle.host_trait.proofs.Places.{bytes_total, same_or_other}
use Rattle.host_trait.proofs.UnitSets.{has_added}
use Rattle.host_trait.proofs.NameOrder.{all_named}
use Rattle.switch_names.specs.Names.{Name, has, is_name}
use Rattle.tree_put.specs.declared.written_place.WrittenPlace.{WrittenPlace}
use Rattle.tree_put.specs.WrittenPlace.{AreApartFromStage, written}
use Rattle.generations.specs.declared.gens.Gen.{Gen}
use Rattle.boot_entries.specs.BootDefault.{menu_places}
use Rattle.boot_entries.specs.BootPart.{entry_places, place_if}
use Rattle.boot_entries.specs.Places.{entry_path, loader_path}
use Rattle.boot_entries.proofs.PutLemmas.{entry_under, stage_apart}

-- ---- the places of generations, one by one

one_place : (o : Option Name) (gen : Gen) → o ≡ place_if gen → option_to_list o ≡ filter_map place_if (gen ∷ [])
one_place o gen is = ap option_to_list is ∙ by (place_if gen)
  where
    by : (p : Option Name) → option_to_list p ≡ cons_option p []
    by None = refl
    by (Some at) = refl

-- a place is added to a set
pub place_added : (old new : List Name) (at : Name) (o : Option Name) (q : Name) → o ≡ Some at → has new q ≡ cond (is_name at q) true (has old q) → has new q ≡ (has old q || has (option_to_list o) q)
place_added old new at o q is added =
    has_added old new at q added
    ∙ either (has old q) (is_name q at) ∙ ap (λ p. has old q || has (option_to_list p) q) (sym is)
  where
    either : (h b : Bool) → (h || b) ≡ (h || (b || false))
    either true b = refl
    either false true = refl
    either false false = refl

-- the places so far, and that of one generation more
pub places_more :
    (list : List Gen) (i : ℕ) (gen : Gen) (at : Option Name) (old new : List Name) (q : Name) → i < length list → gen ≡ get_or list i gen → at ≡ place_if gen →
    has old q ≡ has (filter_map place_if (take i list)) q → has new q ≡ (has old q || has (option_to_list at) q) → has new q ≡ has (filter_map place_if (take (i + 1) list)) q
places_more list i gen at old new q inside is place before added =
    added
    ∙ ap (λ b. b || has (option_to_list at) q) before
    ∙ ap (λ (l : List Name). has (filter_map place_if (take i list)) q || has l q) (one_place at gen place)
    ∙ sym (list_any-append (is_name q) (filter_map place_if (take i list)) (filter_map place_if (gen ∷ [])))
    ∙ ap (λ (l : List Name). has l q) (sym (filter_map-append place_if (take i list) (gen ∷ []))
    ∙ ap (filter_map place_if) (ap (λ g. take i list ++ g ∷ []) is ∙ sym (take_more list i gen inside)))

-- ---- in byte order

abbrev keyed : List Name → List (Name × Bool)
keyed names = map (λ (at : Name). (at, true)) names

keys_keyed : (names : List Name) → map (λ (e : Name × Bool). e.0) (keyed names) ≡ names
keys_keyed [] = refl
keys_keyed (name ∷ names) = ap (λ rest. name ∷ rest) (keys_keyed names)

pub entry_places_have : (list : List Gen) (q : Name) → has (entry_places list) q ≡ has (filter_map place_if list) q
entry_places_have list q =
    let names = filter_map place_if list in
    sym (contains_key-keys (from_entries {R = bytes_cmp} (keyed names)) q) ∙ ap is_some (get-from_entries bytes_total (keyed names) q)
    ∙ is_some-find bytes_cmp q (keyed names) ∙ ap (λ (ns : List Name). has ns q) (keys_keyed names)

-- places in order that are those of generations are their places in order
in_order : (entries : List Name) (list : List Gen) → IsStrictlySortedBy bytes_cmp entries → ((q : Name) → has entries q ≡ has (filter_map place_if list) q) → entries ≡ entry_places list
in_order entries list sorted same =
    btree_set_from_contains bytes_total (record { keys = entries }) (record { keys = entry_places list }) sorted (keys_sorted (from_entries (keyed (filter_map place_if list))))
    (λ q. same q ∙ sym (entry_places_have list q)) exact_bytes

-- the places before, those of the entries and that of the loader
pub menu_added :
    (before between after : List WrittenPlace) (entries : List Name) (list : List Gen) → IsStrictlySortedBy bytes_cmp entries → ((q : Name) → has entries q ≡ has (filter_map place_if list) q) →
    between ≡ before ++ map (written false) entries → after ≡ between ++ written false loader_path ∷ [] → after ≡ before ++ menu_places list
menu_added before between after entries list sorted same first last =
    last
    ∙ ap (λ l. l ++ written false loader_path ∷ []) (first ∙ ap (λ (ns : List Name). before ++ map (written false) ns) (in_order entries list sorted same))
    ∙ append_assoc before (map (written false) (entry_places list)) (written false loader_path ∷ [])

-- ---- the stage is apart from each

pub each_of : (P : Name → Type 0) (names : List Name) → AllByRecursion P names → (q : Name) → has names q ≡ true → P q
each_of P [] all q is = absurd (both_ways _ refl is)
each_of P (name ∷ names) all q is = elim (same_or_other q name) [
  | inl same ↦ subst P (sym same) all.0
  | inr other ↦ each_of P names all.1 q (sym (ap (λ b. b || has names q) other) ∙ is)
]

place_under : (list : List Gen) → AllByRecursion (λ at. is_in_line stage at ≡ false) (filter_map place_if list)
place_under [] = tt
place_under (gen ∷ list) = by gen.target (place_under list)
  where
    by : (o : Option Name) → AllByRecursion (λ at. is_in_line stage at ≡ false) (filter_map place_if list) →
        AllByRecursion (λ at. is_in_line stage at ≡ false) (cons_option (option_map (λ (system : Name). entry_path gen.number) o) (filter_map place_if list))
    by None rest = rest
    by (Some system) rest = (entry_under gen.number, rest)

with_loader : (names : List Name) → AllByRecursion (λ at. is_in_line stage at ≡ false) names → AreApartFromStage (map (written false) names ++ written false loader_path ∷ [])
with_loader [] all = (stage_apart loader_path (inl refl), tt)
with_loader (name ∷ names) all = (all.0, with_loader names all.1)

-- the stage is apart from the places of each menu
pub menu_apart : (list : List Gen) → AreApartFromStage (menu_places list)
menu_apart list = with_loader (entry_places list) (all_named (λ at. is_in_line stage at ≡ false) (entry_places list)
    (λ q is. each_of (λ at. is_in_line stage at ≡ false) (filter_map place_if list) (place_under list) q (sym (entry_places_have list q) ∙ is)))
