-- What stands after the boot menu is made: each of its places at its end, and elsewhere what stood.
use Rattle.std.proofs.Common.{◌≡◌, ℕ, zero, suc, ◌<◌, ◌^◌, ◌&&◌, ◌||◌, not, Bool, true, false, cond, List, [], ◌∷◌, map, take, Option, None, Some, is_some, option_map, refl, sym, ap, subst, ◌∙◌, inl, inr, ⊎_elim}
use Rattle.std.proofs.lemmas.Bool.{both_ways, or_left, or_parts, or_right}
use Rattle.std.proofs.lemmas.Map.Views.{any-filter_same}
use Rattle.std.specs.FinMap.{contains_key-keys, get, keys}
use Rattle.std.specs.List.{AllByRecursion, list_any}
use Rattle.std.specs.Option.{option_map_or}
use Rattle.std.specs.Ordering.{eq_by_cmp}
use Rattle.std.specs.Prelude.{option_to_list}
use Rattle.generations.specs.declared.gens.Gen.{Gen}
use Rattle.generations.specs.declared.gens.Gens.{Gens}
use Rattle.host_trait.specs.declared.leaf.LeafKind.{LeafKind}
use Rattle.host_trait.specs.World.{Leaves, WorldState, bytes_cmp, is_listed, is_path, listed, seen}
use Rattle.host_trait.proofs.Places.{same_or_other}
use Rattle.host_trait.proofs.Seen.{seen_at}
use Rattle.switch_names.specs.Names.{Name}
use Rattle.switch_names.proofs.Outcomes.{none_there}
use Rattle.switch_parts.specs.Part.{IsOnly}
use Rattle.tree_put.proofs.LeftLemmas.{gone_at, left_at, left_by, left_elsewhere}
use Rattle.tree_put.proofs.SequenceLemmas.{all_take, places_manager, puts_manager}
use Rattle.boot_entries.specs.declared.boot_texts.BootFile.{BootFile}
use Rattle.boot_entries.specs.declared.boot_texts.BootTexts.{BootTexts}
use Rattle.boot_entries.specs.BootPart.{boot_part}
use Rattle.boot_entries.specs.Laws.{BootOnlyLaw}
use Rattle.boot_entries.specs.Places.{entries_folder, entry_path, loader_path, numbered, owns_boot}
use Rattle.tree_put.specs.Sequence.{without_places}
use Rattle.boot_entries.specs.Steps.{AreEntries, IsBootMoment, IsBootSet, boot_files, boot_put}
use Rattle.boot_entries.proofs.PutLemmas.{IsBootPlace, with_files}
use Rattle.boot_entries.specs.Texts.{boot_file, gone_of, has_target, is_gone_by, menu_of}
use Rattle.boot_entries.proofs.ApplyLemmas.{entries_places, loader_places}
use Rattle.boot_entries.proofs.NumberLemmas.{bears_numbered}
use Rattle.boot_entries.proofs.PutLemmas.{AreBootPlaces, both_all, each_place, itself, puts_all, putting_world}

-- whether two paths are equal
abbrev pub eqb : Name → Name → Bool
eqb q p = eq_by_cmp bytes_cmp q p

-- ---- what stands after puts

-- what stands at a place after files are put, where this stood
abbrev pub left_files : List BootFile → Name → Option LeafKind → Option LeafKind
left_files files q old = left_by (map boot_put files) q old

abbrev pub AreOthers : Name → List BootFile → Type 0
AreOthers q files = AllByRecursion (λ (file : BootFile). eqb q file.at ≡ false) files

pub left_others : (files : List BootFile) (q : Name) (old : Option LeafKind) → AreOthers q files → left_files files q old ≡ old
left_others files q old others = left_elsewhere (map boot_put files) q old (puts_all (λ at. eqb q at ≡ false) files others)

-- ---- what is owned

pub numbered_entry : (n : ℕ) → n < 2 ^ 32 → numbered (entry_path n) ≡ Some n
numbered_entry n small = sym (bears_numbered (entry_path n) (Some n) (refl, small))

pub boot_owned : (p : Name) → IsBootPlace p → owns_boot p ≡ true
boot_owned = each_place (λ p. owns_boot p ≡ true)
    (or_left (is_path loader_path loader_path) (is_some (numbered loader_path)) (itself loader_path))
    (λ n small. or_right (is_path (entry_path n) loader_path) (is_some (numbered (entry_path n))) (ap is_some (numbered_entry n small)))

other_of : (q p : Name) → owns_boot q ≡ false → IsBootPlace p → eqb q p ≡ false
other_of q p none place = elim (same_or_other q p) [
  | inl same ↦ absurd (both_ways _ none (subst (λ x. owns_boot x ≡ true) (sym same) (boot_owned p place)))
  | inr other ↦ other
]

elsewhere : (q : Name) (files : List BootFile) → owns_boot q ≡ false → AreBootPlaces files → AreOthers q files
elsewhere q [] none places = tt
elsewhere q (file ∷ files) none places = (other_of q file.at none places.0, elsewhere q files none places.1)

-- ---- what goes

-- a test of a path that holds of one equal to it
same_test : (test : Name → Bool) (q k : Name) → eqb q k ≡ true → test k ≡ test q
same_test test q k is = elim (same_or_other q k) [
  | inl same ↦ ap test (sym same)
  | inr other ↦ absurd (both_ways _ other is)
]

pub in_gone : (leaves : Leaves) (list : List Gen) (q : Name) → list_any (eqb q) (gone_of leaves list) ≡ (is_gone_by (has_target list) q && (is_listed entries_folder q && is_some (get leaves q)))
in_gone leaves list q =
    any-filter_same (eqb q) (is_gone_by (has_target list)) (is_gone_by (has_target list) q) (λ k is. same_test (is_gone_by (has_target list)) q k is) (listed entries_folder leaves)
    ∙ ap (λ b. is_gone_by (has_target list) q && b)
    (any-filter_same (eqb q) (is_listed entries_folder) (is_listed entries_folder q) (λ k is. same_test (is_listed entries_folder) q k is) (keys leaves)
    ∙ ap (λ b. is_listed entries_folder q && b) (sym (contains_key-keys leaves q)))

pub none_gone : (leaves : Leaves) (list : List Gen) (q : Name) → numbered q ≡ None → list_any (eqb q) (gone_of leaves list) ≡ false
none_gone leaves list q is = in_gone leaves list q ∙ ap (λ o. not (option_map_or (has_target list) o true) && (is_listed entries_folder q && is_some (get leaves q))) is

pub any_take : (test : Name → Bool) (names : List Name) (n : ℕ) → list_any test names ≡ false → list_any test (take n names) ≡ false
any_take test [] zero none = refl
any_take test [] (suc n) none = refl
any_take test (name ∷ names) zero none = refl
any_take test (name ∷ names) (suc n) none =
    let parts = or_parts (test name) (list_any test names) none in
    ap (λ b. b || list_any test (take n names)) parts.0 ∙ any_take test names n parts.1

-- ---- nothing else changes

only_of : (gens : Gens) (files : List BootFile) (places : List Name) (w m : WorldState) → AreBootPlaces files → ((q : Name) → owns_boot q ≡ false → list_any (eqb q) places ≡ false) →
    seen m ≡ seen (without_places places (with_files files w)) → IsOnly (boot_part gens) w m
only_of gens files places w m at others is = record {
  leaves = λ q none ne.
      seen_at m (without_places places (with_files files w)) is q ne ∙ gone_at places (with_files files w) q
      ∙ ap (λ b. cond b None (get (with_files files w).leaves q)) (others q none) ∙ left_at (map boot_put files) w q ∙ left_others files q (get w.leaves q) (elsewhere q files none at);
  manager = λ calls. ap (λ (x : WorldState). x.manager) is ∙ places_manager places (with_files files w) ∙ puts_manager (map boot_put files) w;
}

module _ (gens : Gens) (texts : BootTexts) (w : WorldState) (are : AreEntries texts.entries) (planned : texts ≡ menu_of gens w.leaves) where
  pub at_places : AreBootPlaces (boot_files texts)
  at_places = both_all (λ (file : BootFile). IsBootPlace file.at) texts.entries (option_to_list (option_map (boot_file loader_path) texts.loader)) (entries_places texts.entries are) (loader_places texts.loader)

  others_stay : (q : Name) → owns_boot q ≡ false → list_any (eqb q) texts.gone ≡ false
  others_stay q none =
      ap (λ (names : List Name). list_any (eqb q) names) (ap (λ (t : BootTexts). t.gone) planned)
      ∙ none_gone w.leaves gens.list q (none_there (numbered q) (or_parts (is_path q loader_path) (is_some (numbered q)) none).1)

  pub only_moment : (m : WorldState) → IsBootMoment texts w m → IsOnly (boot_part gens) w m
  only_moment m moment = ⊎_elim
      (λ put. only_of gens (take put.count (boot_files texts)) [] w m (all_take (λ (file : BootFile). IsBootPlace file.at) (boot_files texts) put.count at_places) (λ q none. refl) (putting_world texts w m put))
      (λ gone. only_of gens (boot_files texts) (take gone.count texts.gone) w m at_places (λ q none. any_take (eqb q) texts.gone gone.count (others_stay q none)) gone.world)
      moment

  pub only_end : (v : WorldState) → IsBootSet texts w v → IsOnly (boot_part gens) w v
  only_end v is = only_of gens (boot_files texts) texts.gone w v at_places others_stay is

pub only_law : BootOnlyLaw
only_law gens texts w m are planned moment = only_moment gens texts w are planned m moment
