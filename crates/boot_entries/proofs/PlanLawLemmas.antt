-- A plan of the boot menu stays one where nothing has changed that the part looks at.
use Rattle.std.proofs.Common.{◌≡◌, ℕ, ◌&&◌, not, Bool, true, false, List, [], ◌∷◌, Option, None, Some, IfSome, is_some, option_map, refl, sym, ap, ◌∙◌}
use Rattle.std.proofs.lemmas.Bool.{both_ways, or_right}
use Rattle.std.proofs.lemmas.List.Kept.{IsStrictlySortedBy-filter}
use Rattle.std.proofs.lemmas.Map.Lookups.{btree_set_from_contains, exact_bytes}
use Rattle.std.specs.FinMap.{get, keys}
use Rattle.std.specs.List.{AllByRecursion, cons_option, list_any}
use Rattle.std.specs.List.Sorted.{IsStrictlySortedBy}
use Rattle.std.specs.Option.{option_map_or}
use Rattle.generations.specs.declared.gens.Gen.{Gen}
use Rattle.generations.specs.declared.gens.Gens.{Gens}
use Rattle.host_trait.specs.World.{Leaves, bytes_cmp, is_listed, is_path, listed}
use Rattle.host_trait.proofs.KeyOrder.{keys_sorted}
use Rattle.host_trait.proofs.Places.{bytes_total}
use Rattle.switch_names.specs.Names.{Name}
use Rattle.switch_names.specs.SystemName.{IsSystemPath}
use Rattle.boot_entries.specs.declared.boot_texts.BootFile.{BootFile}
use Rattle.switch_parts.specs.Store.{is_in_store}
use Rattle.boot_entries.specs.Entries.{loader_text}
use Rattle.boot_entries.specs.Laws.{BootPlanLaw, IsBootGens}
use Rattle.boot_entries.specs.Places.{entries_folder, loader_path, numbered, owns_boot}
use Rattle.boot_entries.specs.Texts.{entries_of, entry_of, gone_of, has_target, is_gone_by}
use Rattle.boot_entries.proofs.EndLemmas.{eqb, in_gone}
use Rattle.boot_entries.proofs.OwnLemmas.{owned_read, store_read}
use Rattle.boot_entries.proofs.PartLemmas.{entry_kept}

-- ---- sorted names are the same where the same are among them

same_names : (names others : List Name) → IsStrictlySortedBy bytes_cmp names → IsStrictlySortedBy bytes_cmp others → ((q : Name) → list_any (eqb q) names ≡ list_any (eqb q) others) → names ≡ others
same_names names others sorted also same = btree_set_from_contains bytes_total (record { keys = names }) (record { keys = others }) sorted also same exact_bytes

-- ---- what goes

gone_sorted : (leaves : Leaves) (list : List Gen) → IsStrictlySortedBy bytes_cmp (gone_of leaves list)
gone_sorted leaves list =
    IsStrictlySortedBy-filter bytes_cmp (is_gone_by (has_target list)) (listed entries_folder leaves) (IsStrictlySortedBy-filter bytes_cmp (is_listed entries_folder) (keys leaves) (keys_sorted leaves))

pub gone_owned : (among : ℕ → Bool) (q : Name) → is_gone_by among q ≡ true → owns_boot q ≡ true
gone_owned among q gone = or_right (is_path q loader_path) (is_some (numbered q)) (by (numbered q) gone)
  where
    by : (o : Option ℕ) → not (option_map_or among o true) ≡ true → is_some o ≡ true
    by None gone = absurd (both_ways false refl gone)
    by (Some n) gone = refl

gone_same : (w u : Leaves) (list : List Gen) → ((q : Name) → owns_boot q ≡ true → get u q ≡ get w q) → gone_of u list ≡ gone_of w list
gone_same w u list same = same_names (gone_of u list) (gone_of w list) (gone_sorted u list) (gone_sorted w list) (λ q.
    in_gone u list q ∙ by q (is_gone_by (has_target list) q) (λ gone. same q (gone_owned (has_target list) q gone)) ∙ sym (in_gone w list q))
  where
    by : (q : Name) (b : Bool) → (b ≡ true → get u q ≡ get w q) → (b && (is_listed entries_folder q && is_some (get u q))) ≡ (b && (is_listed entries_folder q && is_some (get w q)))
    by q true same = ap (λ o. is_listed entries_folder q && is_some o) (same refl)
    by q false same = refl

-- ---- the entries

entries_same : (gens : Gens) → IsBootGens gens → (w u : Leaves) → ((q : Name) → is_in_store q ≡ true → get u q ≡ get w q) → (list : List Gen) →
    AllByRecursion (λ (gen : Gen). IfSome gen.target IsSystemPath) list → entries_of u list ≡ entries_of w list
entries_same gens is w u store [] systems = refl
entries_same gens is w u store (gen ∷ list) systems = by gen.target systems.0 (entries_same gens is w u store list systems.1)
  where
    by : (target : Option Name) → IfSome target IsSystemPath → entries_of u list ≡ entries_of w list →
        cons_option (option_map (entry_of u gen.number) target) (entries_of u list) ≡ cons_option (option_map (entry_of w gen.number) target) (entries_of w list)
    by None named rest = rest
    by (Some system) named rest =
        ap (λ (file : BootFile). file ∷ entries_of u list) (entry_kept gens is w u store gen.number system named)
        ∙ ap (λ (files : List BootFile). entry_of w gen.number system ∷ files) rest

pub plan_law : BootPlanLaw
plan_law gens texts w u is same planned =
    planned
    ∙ (λ i. record {
      gone = gone_same u.leaves w.leaves gens.list (λ q own. sym (same.leaves q (owned_read q own))) i;
      entries = entries_same gens is u.leaves w.leaves (λ q stored. sym (same.leaves q (store_read q stored))) gens.list is.systems i;
      loader = option_map loader_text gens.current;
    })
