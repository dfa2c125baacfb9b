-- What a farm's clean lists have to be.
use Rattle.std.proofs.Common.{◌≡◌, ◌||◌, ◌==◌, ℕ, true, false, List, [], ◌∷◌, Option, None, Some, refl, sym, ap, subst, ◌∙◌}
use Rattle.std.proofs.lemmas.Bool.{and_parts, both_ways, or_left, or_right}
use Rattle.std.specs.List.{AllByRecursion, slice_split}
use Rattle.std.specs.List.Sorted.{IsStrictlySortedBy}
use Rattle.switch_names.specs.Names.{Name, has, is_name}
use Rattle.host_trait.specs.World.{Leaves, bytes_cmp}
use Rattle.host_trait.proofs.NameOrder.{has_filter}
use Rattle.host_trait.proofs.Places.{itself}
use Rattle.etc_manifest.specs.declared.item.Item.{Item}
use Rattle.etc_manifest.specs.Manifest.{IsManifest}
use Rattle.etc_manifest.specs.Place.{is_reserved}
use Rattle.etc_clean.specs.declared.sorting.Sorted.{Sorted}
use Rattle.etc_clean.specs.CleanList.{AreCleanNames, clean_names, clean_text, is_clean_name, names_in}
use Rattle.etc_clean.specs.Etc.{Farm}
use Rattle.etc_clean.specs.Farm.{placed}
use Rattle.etc_clean.specs.Obsolete.{IsSortedOf}
use Rattle.etc_farm.specs.Steps.{IsFirstNames, placed_but}
use Rattle.etc_farm.proofs.StageLemmas.{first_free, first_names, placed_is}

-- ---- names that are read as they are written

clean_in : (content : Option (List ℕ)) (q : Name) → has (names_in content) q ≡ true → is_clean_name q ≡ true
clean_in None q there = absurd (both_ways false refl there)
clean_in (Some bytes) q there =
    (and_parts (is_clean_name q) (has (slice_split (λ byte. byte == 10) bytes) q) (sym (has_filter is_clean_name (slice_split (λ byte. byte == 10) bytes) q) ∙ there)).0

pub all_clean : (names : List Name) → ((q : Name) → has names q ≡ true → is_clean_name q ≡ true) → AreCleanNames names
all_clean [] are = tt
all_clean (x ∷ names) are = (are x (or_left (is_name x x) (has names x) (itself x)), all_clean names (λ q there. are q (or_right (is_name q x) (has names q) there)))

clean_read : (names : List Name) → clean_names (clean_text names) ≡ names → AreCleanNames names
clean_read names read = all_clean names (λ q there. clean_in (Some (clean_text names)) q (ap (λ (ns : List Name). has ns q) read ∙ there))

-- ---- the names of the first list and of the last are those that they have to be

pub record AreLists (farm : Farm) (found : Sorted) (first last : List Name) : Type 0 where
  pub names_are : (leaves : Leaves) → IsSortedOf farm.items leaves found → IsFirstNames farm.items leaves first
  pub last_are : (leaves : Leaves) → IsSortedOf farm.items leaves found → last ≡ placed farm.items leaves

pub lists_of :
    (farm : Farm) (manifest : IsManifest farm.items) (found : Sorted) (items : List Item) (blocked clean more first last : List Name) → items ≡ farm.items → blocked ≡ found.blocked →
    clean ≡ found.clean → more ≡ last → (IsStrictlySortedBy bytes_cmp blocked → last ≡ placed_but blocked items) → ((q : Name) → has first q ≡ (has clean q || has more q)) → IsStrictlySortedBy bytes_cmp first →
    (AllByRecursion (λ name. is_reserved name ≡ false) first → clean_names (clean_text first) ≡ first) → AreLists farm found first last
lists_of farm manifest found items blocked clean more first last is_items is_blocked is_clean is_more last_by joined_by in_order read =
    let open_are = λ (leaves : Leaves) (sorted : IsSortedOf farm.items leaves found).
    last_by (subst (IsStrictlySortedBy bytes_cmp) (sym is_blocked) sorted.blocked.sorted)
    ∙ ap (λ (names : List Name). placed_but names items) is_blocked ∙ ap (placed_but found.blocked) is_items in
    let joined = λ (leaves : Leaves) (sorted : IsSortedOf farm.items leaves found) (q : Name).
    joined_by q ∙ ap (λ (names : List Name). has names q || has more q) is_clean ∙ ap (λ (names : List Name). has found.clean q || has names q) (is_more ∙ open_are leaves sorted) in
    record {
      names_are = λ leaves sorted.
          first_names farm manifest found leaves sorted first (joined leaves sorted) in_order (clean_read first (read (first_free farm manifest found leaves sorted first (joined leaves sorted))));
      last_are = λ leaves sorted. open_are leaves sorted ∙ placed_is farm manifest found leaves sorted;
    }
