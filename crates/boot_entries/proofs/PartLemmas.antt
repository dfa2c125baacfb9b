-- Making the boot menu is a part of a switch.
use Rattle.std.proofs.Common.{◌≡◌, ◌⊎◌, ℕ, ◌==◌, ◌&&◌, ◌||◌, Bool, true, false, cond, List, [], ◌∷◌, ◌++◌, map, take, Option, None, Some, IfSome, is_some, option_and_then, option_map, refl, sym, ap, ap₂, subst, ◌∙◌, inl, inr, ⊎_elim}
use Rattle.std.proofs.lemmas.Bool.{both_ways, cases_Bool, or_from}
use Rattle.std.specs.FinMap.{get}
use Rattle.std.specs.List.{AllByRecursion, cons_option, filter_map, find, flat_map, list_any}
use Rattle.std.specs.Option.{option_map_or, unwrap_or}
use Rattle.generations.proofs.Numbers.{below_bound}
use Rattle.generations.specs.declared.gens.Gen.{Gen}
use Rattle.generations.specs.declared.gens.Gens.{Gens}
use Rattle.generations.specs.Places.{is_number}
use Rattle.host_trait.specs.Leaf.{open_file}
use Rattle.host_trait.specs.World.{IsClear, Leaves, WorldState, content_of, is_in_line, is_path, seen, stage}
use Rattle.host_trait.proofs.Seen.{clear_seen, seen_at, stage_clear_seen}
use Rattle.host_trait.proofs.NameOrder.{all_named}
use Rattle.leaf_limits.specs.Limits.{long_past}
use Rattle.leaf_limits.proofs.PastLemmas.{still_none_past}
use Rattle.switch_names.specs.Names.{Name, has}
use Rattle.switch_names.proofs.Outcomes.{none_mapped}
use Rattle.switch_parts.specs.declared.refusal.Refusal.TheVariants.{TooMany}
use Rattle.switch_parts.specs.declared.refusal.What.TheVariants.{LeafBytes}
use Rattle.switch_names.specs.SystemName.{IsSystemPath}
use Rattle.switch_parts.specs.Leaves.{EndsSame}
use Rattle.switch_parts.specs.Part.{IsOnly, IsSameFor}
use Rattle.switch_parts.proofs.LeafLemmas.{leaf_is_part}
use Rattle.switch_parts.specs.Store.{is_in_store}
use Rattle.switch_parts.proofs.StoreLemmas.{store_content_kept, store_not_stage}
use Rattle.tree_put.specs.declared.written_place.WrittenPlace.{WrittenPlace}
use Rattle.tree_put.specs.Put.{is_blocked}
use Rattle.tree_put.specs.WrittenPlace.{in_the_way, is_in_the_way, lacks_content, written}
use Rattle.tree_put.proofs.BlockedLemmas.{free_of_clear}
use Rattle.tree_put.proofs.PutLemmas.{apart_ne}
use Rattle.tree_put.proofs.WayLemmas.{clear_first}
use Rattle.boot_entries.specs.declared.boot_texts.BootFile.{BootFile}
use Rattle.boot_entries.specs.declared.boot_texts.BootTexts.{BootTexts}
use Rattle.boot_entries.specs.BootPart.{boot_end, boot_part, boot_places, entry_end, entry_places, loader_end, place_if, reads_boot, system_at}
use Rattle.boot_entries.specs.Entries.{entry_text, first_line, line_at, loader_text, params_path, version_path}
use Rattle.boot_entries.specs.Laws.{BootMomentLaw, BootPartLaw, IsBootGens}
use Rattle.boot_entries.specs.Places.{entry_path, loader_path, numbered, owns_boot}
use Rattle.tree_put.specs.Sequence.{without_places}
use Rattle.boot_entries.specs.Steps.{AreEntries, IsBootMoment, IsEntryPlace, boot_files, boot_put}
use Rattle.boot_entries.proofs.PutLemmas.{IsBootPlace, with_files}
use Rattle.boot_entries.specs.Sources.{files_of, menu_too_long, sources_of, taken_of}
use Rattle.boot_entries.specs.Texts.{boot_file, entry_of, menu_of}
use Rattle.boot_entries.proofs.AtEndLemmas.{entries_elsewhere, last_file, loader_unnumbered}
use Rattle.tree_put.proofs.LeftLemmas.{gone_at, left_at}
use Rattle.boot_entries.proofs.EndLemmas.{AreOthers, any_take, at_places, boot_owned, eqb, left_others, none_gone, only_moment}
use Rattle.boot_entries.proofs.MenuPlacesLemmas.{each_of, entry_places_have}
use Rattle.boot_entries.proofs.OwnLemmas.{entry_line_read, loader_line_read, owned_read, params_stored, stage_line_read, stage_unread, store_read, store_unowned, version_stored}
use Rattle.boot_entries.proofs.PutLemmas.{AreBootPlaces, both_all, files_clear, files_stage, place_apart, putting_world, stage_apart}
use Rattle.tree_put.proofs.SequenceLemmas.{all_take, removed_clear}

-- ---- the places that are written

place_among : (list : List Gen) → AllByRecursion (λ (gen : Gen). is_number gen.number ≡ true) list → AllByRecursion IsEntryPlace (filter_map place_if list)
place_among [] numbers = tt
place_among (gen ∷ list) numbers = by gen.target (place_among list numbers.1)
  where
    by : (target : Option Name) → AllByRecursion IsEntryPlace (filter_map place_if list) → AllByRecursion IsEntryPlace (cons_option (option_map (λ (system : Name). entry_path gen.number) target) (filter_map place_if list))
    by None rest = rest
    by (Some system) rest = ((gen.number, below_bound gen.number numbers.0, refl), rest)

entry_places_are : (list : List Gen) → AllByRecursion (λ (gen : Gen). is_number gen.number ≡ true) list → AllByRecursion IsEntryPlace (entry_places list)
entry_places_are list numbers = all_named IsEntryPlace (entry_places list)
    (λ q is. each_of IsEntryPlace (filter_map place_if list) (place_among list numbers) q (sym (entry_places_have list q) ∙ is))

-- a place of the menu, or the stage
abbrev IsWay : Name → Type 0
IsWay p = IsBootPlace p ⊎ (p ≡ stage)

-- a place that is written unread, and is such
abbrev IsUnread : WrittenPlace → Type 0
IsUnread place = (place.is_read ≡ false) × IsWay place.at

places_are : (names : List Name) → AllByRecursion IsEntryPlace names → AllByRecursion IsUnread (map (written false) names ++ written false loader_path ∷ written false stage ∷ [])
places_are [] are = ((refl, inl (inl refl)), ((refl, inr refl), tt))
places_are (name ∷ names) are = ((refl, inl (inr are.0)), places_are names are.1)

free_kept : (w m : Leaves) (places : List WrittenPlace) → AllByRecursion IsUnread places → ((p : Name) → IsWay p → IsClear w p → IsClear m p) → in_the_way places w ≡ None → in_the_way places m ≡ None
free_kept w m [] are kept none = refl
free_kept w m (place ∷ places) are kept none =
    let first = clear_first w place places none in
    ap (λ b. option_map (λ (p : WrittenPlace). p.at) (cond b (Some place) (find (is_in_the_way m) places)))
    (or_from (is_blocked m place.at) (place.is_read && lacks_content m place.at) (free_of_clear m place.at (kept place.at are.0.1 first.0)) (ap (λ b. b && lacks_content m place.at) are.0.0))
    ∙ free_kept w m places are.1 kept first.1

-- ---- the end is the same where the store is

system_is : (list : List Gen) → AllByRecursion (λ (gen : Gen). IfSome gen.target IsSystemPath) list → (n : ℕ) → IfSome (system_at list n) IsSystemPath
system_is [] systems n = tt
system_is (gen ∷ list) systems n = by (gen.number == n) (system_is list systems.1 n)
  where
    by : (b : Bool) → IfSome (system_at list n) IsSystemPath → IfSome (option_and_then (λ (target : Option Name). target) (option_map (λ (g : Gen). g.target) (cond b (Some gen) (find (λ (g : Gen). g.number == n) list)))) IsSystemPath
    by true rest = systems.0
    by false rest = rest

-- the files that a boot menu is made of lie in the store
all_stored : (list : List Gen) → AllByRecursion (λ (gen : Gen). IfSome gen.target IsSystemPath) list → AllByRecursion (λ p. is_in_store p ≡ true) (flat_map sources_of list)
all_stored [] systems = tt
all_stored (gen ∷ list) systems = by gen.target systems.0 (all_stored list systems.1)
  where
    by : (target : Option Name) → IfSome target IsSystemPath → AllByRecursion (λ p. is_in_store p ≡ true) (flat_map sources_of list) →
        AllByRecursion (λ p. is_in_store p ≡ true) (option_map_or files_of target [] ++ flat_map sources_of list)
    by None named rest = rest
    by (Some system) named rest = (version_stored system named, (params_stored system named, rest))

module _ (gens : Gens) (is : IsBootGens gens) (w m : Leaves) (store : (q : Name) → is_in_store q ≡ true → get m q ≡ get w q) where
  line_kept : (at : Name) → is_in_store at ≡ true → line_at m at ≡ line_at w at
  line_kept at stored = ap (λ (o : Option (List ℕ)). first_line (unwrap_or o [])) (store_content_kept w m store at (store at stored))

  pub entry_kept : (n : ℕ) (system : Name) → IsSystemPath system → entry_of m n system ≡ entry_of w n system
  entry_kept n system named =
      ap₂ (λ (version params : List ℕ). boot_file (entry_path n) (entry_text n system version params))
      (line_kept (version_path system) (version_stored system named)) (line_kept (params_path system) (params_stored system named))

  end_kept : (n : ℕ) (o : Option Name) → IfSome o IsSystemPath → option_map (λ (system : Name). open_file (entry_of m n system).bytes) o ≡ option_map (λ (system : Name). open_file (entry_of w n system).bytes) o
  end_kept n None named = refl
  end_kept n (Some system) named = ap (λ (file : BootFile). Some (open_file file.bytes)) (entry_kept n system named)

  numbered_kept : (q : Name) (o : Option ℕ) → is_some o ≡ true → option_map_or (entry_end gens.list m) o (get m q) ≡ option_map_or (entry_end gens.list w) o (get w q)
  numbered_kept q None some = absurd (both_ways _ refl some)
  numbered_kept q (Some n) some = end_kept n (system_at gens.list n) (system_is gens.list is.systems n)

  loader_kept : (current : Option ℕ) → (current ≡ None → get m loader_path ≡ get w loader_path) → loader_end current m ≡ loader_end current w
  loader_kept None same = same refl
  loader_kept (Some n) same = refl

  boot_kept : (gens.current ≡ None → get m loader_path ≡ get w loader_path) → (q : Name) → owns_boot q ≡ true → boot_end gens m q ≡ boot_end gens w q
  boot_kept same q own = elim (cases_Bool (is_path q loader_path)) [
    | inl here ↦
        ap (λ b. cond b (loader_end gens.current m) (option_map_or (entry_end gens.list m) (numbered q) (get m q))) here ∙ loader_kept gens.current same
        ∙ sym (ap (λ b. cond b (loader_end gens.current w) (option_map_or (entry_end gens.list w) (numbered q) (get w q))) here)
    | inr away ↦
        ap (λ b. cond b (loader_end gens.current m) (option_map_or (entry_end gens.list m) (numbered q) (get m q))) away
        ∙ numbered_kept q (numbered q) (sym (ap (λ b. b || is_some (numbered q)) away) ∙ own)
        ∙ sym (ap (λ b. cond b (loader_end gens.current w) (option_map_or (entry_end gens.list w) (numbered q) (get w q))) away)
  ]

  -- the files that it is made of are as long
  source_kept : (q : Name) → has (taken_of gens) q ≡ true → content_of m q ≡ content_of w q
  source_kept q taken =
      let stored = each_of (λ p. is_in_store p ≡ true) (taken_of gens) (all_stored gens.list is.systems) q taken in store_content_kept w m store q (store q stored)

  pub short_kept : menu_too_long gens w ≡ None → menu_too_long gens m ≡ None
  short_kept none =
      ap (option_map (TooMany LeafBytes)) (still_none_past (has (taken_of gens)) w m source_kept (none_mapped (TooMany LeafBytes) (long_past (has (taken_of gens)) w) none))

abbrev KeepsBoot : Gens → WorldState → WorldState → Type 0
KeepsBoot gens w m = EndsSame owns_boot (λ leaves. boot_places gens.list) (menu_too_long gens) (boot_end gens) w m

keeps_boot : (gens : Gens) → IsBootGens gens → (w m : WorldState) → ((q : Name) → is_in_store q ≡ true → get m.leaves q ≡ get w.leaves q) →
    (gens.current ≡ None → get m.leaves loader_path ≡ get w.leaves loader_path) → ((p : Name) → IsWay p → IsClear w.leaves p → IsClear m.leaves p) → KeepsBoot gens w m
keeps_boot gens is w m store loader kept = record {
  ends = boot_kept gens is w.leaves m.leaves store loader;
  free = λ way refusal. (free_kept w.leaves m.leaves (boot_places gens.list) (places_are (entry_places gens.list) (entry_places_are gens.list is.list.numbers)) kept way, short_kept gens is w.leaves m.leaves store refusal);
}

-- ---- the part

way_line : (p q : Name) → IsWay p → is_in_line q p ≡ true → reads_boot q ≡ true
way_line p q way line = ⊎_elim
    (λ place. ⊎_elim
    (λ loader. loader_line_read q (subst (λ x. is_in_line q x ≡ true) loader line))
    (λ entry. entry_line_read entry.0 entry.1 q (subst (λ x. is_in_line q x ≡ true) entry.2 line))
    place)
    (λ staged. stage_line_read q (subst (λ x. is_in_line q x ≡ true) staged line))
    way

frame : (gens : Gens) → IsBootGens gens → (w m : WorldState) → IsSameFor (boot_part gens) w m → KeepsBoot gens w m
frame gens is w m same = keeps_boot gens is w m
    (λ q stored. same.leaves q (store_read q stored))
    (λ none. same.leaves loader_path (owned_read loader_path (boot_owned loader_path (inl refl))))
    (λ p way clear q line. same.leaves q (way_line p q way line) ∙ clear q line)

pub part_law : BootPartLaw
part_law gens is = leaf_is_part owns_boot (λ leaves. boot_places gens.list) (menu_too_long gens) (boot_end gens) reads_boot (frame gens is) owned_read stage_unread

-- ---- each moment

no_last : (current : Option ℕ) → current ≡ None → AreOthers loader_path (last_file (option_map loader_text current))
no_last None none = tt
no_last (Some n) none = absurd (cc)

module _ (gens : Gens) (texts : BootTexts) (w : WorldState) (is : IsBootGens gens) (are : AreEntries texts.entries) (planned : texts ≡ menu_of gens w.leaves) where
  moment_of : (files : List BootFile) (places : List Name) (m : WorldState) → AreBootPlaces files → (gens.current ≡ None → AreOthers loader_path files) → list_any (eqb loader_path) places ≡ false →
      seen m ≡ seen (without_places places (with_files files w)) → IsOnly (boot_part gens) w m → KeepsBoot gens w m
  moment_of files places m at elsewhere gone now only =
      let u = without_places places (with_files files w) in
      keeps_boot gens is w m
      (λ q stored. only.leaves q (store_unowned q stored) (store_not_stage q stored))
      (λ none.
      seen_at m u now loader_path (apart_ne loader_path stage (place_apart loader_path (inl refl))) ∙ gone_at places (with_files files w) loader_path
      ∙ ap (λ b. cond b None (get (with_files files w).leaves loader_path)) gone ∙ left_at (map boot_put files) w loader_path
      ∙ left_others files loader_path (get w.leaves loader_path) (elsewhere none))
      (λ p way clear. ⊎_elim
      (λ place. clear_seen m u p (stage_apart p place) now (removed_clear places (with_files files w) p (files_clear files p w at place clear)))
      (λ staged. subst (λ x. IsClear m.leaves x) (sym staged) (stage_clear_seen m u now (removed_clear places (with_files files w) stage (files_stage files w at (subst (λ x. IsClear w.leaves x) staged clear)))))
      way)

  all_elsewhere : gens.current ≡ None → AreOthers loader_path (boot_files texts)
  all_elsewhere none = both_all (λ (file : BootFile). eqb loader_path file.at ≡ false) texts.entries (last_file texts.loader) (entries_elsewhere texts.entries are)
      (subst (λ (loader : Option (List ℕ)). AreOthers loader_path (last_file loader)) (sym (ap (λ (t : BootTexts). t.loader) planned)) (no_last gens.current none))

  loader_stays : list_any (eqb loader_path) texts.gone ≡ false
  loader_stays = ap (λ (names : List Name). list_any (eqb loader_path) names) (ap (λ (t : BootTexts). t.gone) planned) ∙ none_gone w.leaves gens.list loader_path loader_unnumbered

  places : AreBootPlaces (boot_files texts)
  places = at_places gens texts w are planned

  pub moment_keeps : (m : WorldState) → IsBootMoment texts w m → KeepsBoot gens w m
  moment_keeps m moment =
      let only = only_moment gens texts w are planned m moment in
      ⊎_elim
      (λ put. moment_of (take put.count (boot_files texts)) [] m (all_take (λ (file : BootFile). IsBootPlace file.at) (boot_files texts) put.count places)
      (λ none. all_take (λ (file : BootFile). eqb loader_path file.at ≡ false) (boot_files texts) put.count (all_elsewhere none)) refl (putting_world texts w m put) only)
      (λ gone. moment_of (boot_files texts) (take gone.count texts.gone) m places all_elsewhere (any_take (eqb loader_path) texts.gone gone.count loader_stays) gone.world only)
      moment

pub moment_law : BootMomentLaw
moment_law gens texts w m is are planned moment = record { keeps = moment_keeps gens texts w is are planned m moment; only = only_moment gens texts w are planned m moment }
