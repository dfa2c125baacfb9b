-- Making the boot menu that is planned: first the entries, then what the boot loader reads first, then what goes.
use Rattle.std.proofs.Common.{◌≡◌, ℕ, ◌||◌, true, false, List, [], ◌∷◌, ◌++◌, map, take, Option, None, Some, option_map, refl, sym, ap, subst, ◌∙◌, inl, inr}
use Rattle.std.proofs.lemmas.Bool.{both_ways, or_left, or_right}
use Rattle.std.specs.List.{AllByRecursion, cons_option, filter_map, list_any}
use Rattle.std.specs.Ordering.{eq_by_cmp}
use Rattle.generations.specs.declared.gens.Gen.{Gen}
use Rattle.host_trait.specs.Host.{HostState, Leads, Passes}
use Rattle.host_trait.specs.World.{IsClear, Leaves, WorldState, bytes_cmp, seen, stage}
use Rattle.host_trait.proofs.Moments.{goes_on, leads_then, passes_as}
use Rattle.host_trait.proofs.Places.{itself, same_or_other}
use Rattle.host_trait.proofs.Seen.{clear_seen, stage_clear_seen}
use Rattle.switch_names.specs.Names.{Name}
use Rattle.tree_put.specs.declared.written_place.WrittenPlace.{WrittenPlace}
use Rattle.tree_put.specs.WrittenPlace.{written}
use Rattle.tree_put.proofs.WayLemmas.{all_clear}
use Rattle.boot_entries.specs.declared.boot_texts.BootFile.{BootFile}
use Rattle.boot_entries.specs.declared.boot_texts.BootTexts.{BootTexts}
use Rattle.boot_entries.specs.BootPart.{boot_places, entry_places, place_if}
use Rattle.boot_entries.specs.Places.{entry_path, loader_path}
use Rattle.tree_put.specs.Sequence.{ArePutsApart, CanPutAll, IsPutting, IsRemoving, with_puts, without_places}
use Rattle.tree_put.proofs.SequenceLemmas.{seen_without_places}
use Rattle.boot_entries.specs.Steps.{AreEntries, CanApplyBoot, IsBootMoment, IsBootSet, IsClearing, boot_put, boot_puts, loader_files}
use Rattle.boot_entries.specs.Texts.{entries_of, entry_of}
use Rattle.boot_entries.proofs.MenuPlacesLemmas.{entry_places_have}
use Rattle.boot_entries.proofs.PutLemmas.{AreBootPlaces, IsBootPlace, files_apart, files_clear, files_stage, puts_all, stage_apart, with_files}

-- ---- where a plan can be carried out, nothing is in the way of what is put

front_clear : (leaves : Leaves) (names : List Name) (rest : List WrittenPlace) → AllByRecursion (λ place. IsClear leaves place.at) (map (written false) names ++ rest) →
    (q : Name) → list_any (eq_by_cmp bytes_cmp q) names ≡ true → IsClear leaves q
front_clear leaves [] rest all q among = absurd (both_ways _ refl among)
front_clear leaves (name ∷ names) rest all q among = elim (same_or_other q name) [
  | inl same ↦ subst (IsClear leaves) (sym same) all.0
  | inr other ↦ front_clear leaves names rest all.1 q (sym (ap (λ b. b || list_any (eq_by_cmp bytes_cmp q) names) other) ∙ among)
]

rest_clear : (leaves : Leaves) (names : List Name) (rest : List WrittenPlace) → AllByRecursion (λ place. IsClear leaves place.at) (map (written false) names ++ rest) → AllByRecursion (λ place. IsClear leaves place.at) rest
rest_clear leaves [] rest all = all
rest_clear leaves (name ∷ names) rest all = rest_clear leaves names rest all.1

entries_clear : (leaves others : Leaves) (list : List Gen) → ((q : Name) → list_any (eq_by_cmp bytes_cmp q) (filter_map place_if list) ≡ true → IsClear leaves q) →
    AllByRecursion (λ (file : BootFile). IsClear leaves file.at) (entries_of others list)
entries_clear leaves others [] clear = tt
entries_clear leaves others (gen ∷ list) clear = by gen.target clear (entries_clear leaves others list)
  where
    by : (target : Option Name) → ((q : Name) → list_any (eq_by_cmp bytes_cmp q) (cons_option (option_map (λ (system : Name). entry_path gen.number) target) (filter_map place_if list)) ≡ true → IsClear leaves q) →
        (((q : Name) → list_any (eq_by_cmp bytes_cmp q) (filter_map place_if list) ≡ true → IsClear leaves q) → AllByRecursion (λ (file : BootFile). IsClear leaves file.at) (entries_of others list)) →
        AllByRecursion (λ (file : BootFile). IsClear leaves file.at) (cons_option (option_map (entry_of others gen.number) target) (entries_of others list))
    by None clear rest = rest clear
    by (Some system) clear rest = (
      clear (entry_path gen.number) (or_left (eq_by_cmp bytes_cmp (entry_path gen.number) (entry_path gen.number)) (list_any (eq_by_cmp bytes_cmp (entry_path gen.number)) (filter_map place_if list)) (itself (entry_path gen.number))),
      rest (λ q among. clear q (or_right (eq_by_cmp bytes_cmp q (entry_path gen.number)) (list_any (eq_by_cmp bytes_cmp q) (filter_map place_if list)) among)),
    )

pub entries_places : (files : List BootFile) → AreEntries files → AreBootPlaces files
entries_places [] are = tt
entries_places (file ∷ files) are = (inr are.0, entries_places files are.1)

-- what holds of the place of what the boot loader reads first
loader_all : (P : Name → Type 0) (loader : Option (List ℕ)) → P loader_path → AllByRecursion (λ (file : BootFile). P file.at) (loader_files loader)
loader_all P None is = tt
loader_all P (Some text) is = (is, tt)

pub loader_places : (loader : Option (List ℕ)) → AreBootPlaces (loader_files loader)
loader_places loader = loader_all IsBootPlace loader (inl refl)

pub entry_puts_apart : (files : List BootFile) → AreEntries files → ArePutsApart (map boot_put files)
entry_puts_apart files are = files_apart files (entries_places files are)

pub loader_puts_apart : (loader : Option (List ℕ)) → ArePutsApart (map boot_put (loader_files loader))
loader_puts_apart loader = files_apart (loader_files loader) (loader_places loader)

module _ (texts : BootTexts) (w : WorldState) (can : CanApplyBoot texts w) where
  clear : AllByRecursion (λ (place : WrittenPlace). IsClear w.leaves place.at) (boot_places can.gens.list)
  clear = all_clear w.leaves (boot_places can.gens.list) can.free.way

  last_clear : AllByRecursion (λ (place : WrittenPlace). IsClear w.leaves place.at) (written false loader_path ∷ written false stage ∷ [])
  last_clear = rest_clear w.leaves (entry_places can.gens.list) (written false loader_path ∷ written false stage ∷ []) clear

  entries_are_clear : AllByRecursion (λ (file : BootFile). IsClear w.leaves file.at) texts.entries
  entries_are_clear = subst (λ (files : List BootFile). AllByRecursion (λ (file : BootFile). IsClear w.leaves file.at) files) (sym (ap (λ (t : BootTexts). t.entries) can.planned))
      (entries_clear w.leaves w.leaves can.gens.list (λ q among.
      front_clear w.leaves (entry_places can.gens.list) (written false loader_path ∷ written false stage ∷ []) clear q (entry_places_have can.gens.list q ∙ among)))

  -- the entries can be put
  pub can_entries : CanPutAll (map boot_put texts.entries) w
  can_entries = record { stage = last_clear.1.0; places = puts_all (IsClear w.leaves) texts.entries entries_are_clear }

  -- once the entries stand, what the boot loader reads first can be put
  pub can_loader : AreEntries texts.entries → (v : WorldState) → seen v ≡ seen (with_puts (map boot_put texts.entries) w) → CanPutAll (map boot_put (loader_files texts.loader)) v
  can_loader are v came =
      let places = entries_places texts.entries are in
      record {
        stage = stage_clear_seen v (with_files texts.entries w) came (files_stage texts.entries w places last_clear.1.0);
        places = puts_all (IsClear v.leaves) (loader_files texts.loader)
            (loader_all (IsClear v.leaves) texts.loader
            (clear_seen v (with_files texts.entries w) loader_path (stage_apart loader_path (inl refl)) came (files_clear texts.entries loader_path w places (inl refl) last_clear.0)));
      }

-- ---- the puts, and then the removals

clearing : (texts : BootTexts) (w v m : WorldState) → seen v ≡ seen (with_puts (boot_puts texts) w) → IsRemoving texts.gone v m → IsClearing texts w m
clearing texts w v m before moment = record {
  count = moment.count;
  some = moment.some;
  world = ap seen moment.world ∙ seen_without_places (take moment.count texts.gone) v (with_puts (boot_puts texts) w) before;
}

module _ (texts : BootTexts) {a b : HostState} (first : Passes a b (IsPutting (boot_puts texts))) where
  pub first_way : Passes a b (IsBootMoment texts)
  first_way = passes_as first (IsBootMoment texts) (λ w m is moment. inl moment)

  module _ (led : Leads a b (λ w v. seen v ≡ seen (with_puts (boot_puts texts) w))) {c : HostState} where
    pub second_way : Passes b c (IsRemoving texts.gone) → Passes a c (IsBootMoment texts)
    second_way second = goes_on first_way led second (IsBootMoment texts) (λ w m is moment. moment) (λ w v m is_w is_v before moment. inr (clearing texts w v m before moment))

    pub all_led : Leads b c (λ w v. v ≡ without_places texts.gone w) → Leads a c (IsBootSet texts)
    all_led gone = leads_then led gone (IsBootSet texts) (λ w v u is_w is_v before now. ap seen now ∙ seen_without_places texts.gone v (with_puts (boot_puts texts) w) before)
