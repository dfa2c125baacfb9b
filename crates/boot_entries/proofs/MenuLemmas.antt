-- What a firmware finds in the boot menu at any moment.
use Rattle.std.proofs.Common.{◌≡◌, ◌⊎◌, ℕ, ◌<◌, ◌^◌, ◌&&◌, not, true, false, cond, List, [], ◌∷◌, ◌++◌, length, take, Option, None, Some, IfSome, IsSome, is_some, option_and_then, option_map, refl, sym, ap, subst, ◌∙◌, inl, inr, ⊎_elim, arith, map}
use Rattle.std.proofs.lemmas.List.{take_all}
use Rattle.std.proofs.lemmas.Option.{none-some, same_Some}
use Rattle.std.specs.FinMap.{get}
use Rattle.std.specs.List.{AllByRecursion, list_any}
use Rattle.std.specs.List.Sorted.{IsStrictlySortedBy}
use Rattle.std.specs.Option.{option_map_or, option_or}
use Rattle.generations.proofs.AfterLemmas.{named_at}
use Rattle.generations.proofs.MoveLemmas.{gens_of_move, move_current, number_named}
use Rattle.generations.proofs.Numbers.{below_bound, stands_at_number}
use Rattle.generations.specs.declared.gens.Gen.{Gen}
use Rattle.generations.specs.declared.gens.Gens.{Gens}
use Rattle.generations.specs.Gens.{IsGensOf, listed_at}
use Rattle.generations.specs.declared.moving.Move.{Move}
use Rattle.generations.specs.Move.{IsMoveTo, gens_moved, move_part, move_world, number_moved}
use Rattle.generations.specs.Places.{IsCurrent, generation_at}
use Rattle.host_trait.proofs.Places.{itself}
use Rattle.host_trait.proofs.Seen.{seen_at}
use Rattle.host_trait.specs.Leaf.{open_file}
use Rattle.host_trait.specs.declared.leaf.LeafKind.{LeafKind}
use Rattle.host_trait.specs.World.{Leaves, WorldState, is_listed, seen, stage}
use Rattle.switch_names.specs.Names.{Name}
use Rattle.tree_put.proofs.PutLemmas.{apart_ne}
use Rattle.boot_entries.specs.declared.boot_texts.BootFile.{BootFile}
use Rattle.boot_entries.specs.declared.boot_texts.BootTexts.{BootTexts}
use Rattle.boot_entries.specs.BootPart.{system_at, boot_part, entry_end, loader_end}
use Rattle.boot_entries.specs.DefaultLaws.{IsSameMenu, IsSameProfile, IsSameStore, MenuBeginsLaw, MenuStaysLaw, MenuLaw, MenuEndLaw, MenuSinceLaw}
use Rattle.boot_entries.specs.Entries.{loader_text}
use Rattle.boot_entries.specs.Laws.{IsBootGens}
use Rattle.boot_entries.specs.Menu.{IsEntryOf, IsLoaderOf, IsMenuBetween, IsMenuWhole}
use Rattle.boot_entries.specs.Places.{entries_folder, entry_path, loader_path, numbered, owns_boot}
use Rattle.tree_put.specs.Sequence.{without_places}
use Rattle.boot_entries.specs.Steps.{AreEntries, boot_files, IsBootMoment, boot_put}
use Rattle.boot_entries.specs.Texts.{entry_of, has_target, menu_of}
use Rattle.boot_entries.proofs.AtEndLemmas.{entries_elsewhere, entries_left, last_elsewhere, last_file, left_on, loader_not_entry, loader_unnumbered, end_law, entry_not_loader}
use Rattle.boot_entries.proofs.DefaultLemmas.{menu_entries, listed, menu_still, moved_is, moved_is_seen, moving_moment, planned_still, profile_free}
use Rattle.tree_put.proofs.LeftLemmas.{gone_at, left_at, left_by}
use Rattle.boot_entries.proofs.EndLemmas.{AreOthers, any_take, boot_owned, eqb, in_gone, left_files, left_others, none_gone, numbered_entry}
use Rattle.boot_entries.proofs.KeptLemmas.{current_kept, generation_kept, menu_kept, profile_kept}
use Rattle.tree_put.proofs.SequenceLemmas.{all_take}
use Rattle.boot_entries.proofs.PutLemmas.{IsBootPlace, both_all, place_apart, putting_world, with_files}
use Rattle.switch_names.specs.SystemName.{IsSystemPath}
use Rattle.switch_parts.proofs.Parts.{first_free}
use Rattle.switch_parts.specs.Part.{IsAtEnd, IsFree, IsOnly}
use Rattle.boot_entries.specs.BootDefault.{boot_default_in, boot_default_part, menu_end}
use Rattle.boot_entries.specs.BootDefault.IsMakingDefault.{Listing, Moving}
use Rattle.boot_entries.proofs.GensLemmas.{gens_after_law}
use Rattle.boot_entries.proofs.PartLemmas.{entry_kept, part_law}
use Rattle.boot_entries.proofs.ListedLemmas.{IsFileOf, IsListedEntry, files_listed, left_is, not_gone, same_path, take_one, take_parts}

-- a generation that stands has a number that an entry can have
small_of : (leaves : Leaves) (n : ℕ) → IsSome (generation_at leaves n) → n < 2 ^ 32
small_of leaves n stands = below_bound n (stands_at_number leaves n stands)

entry_owned : (n : ℕ) → n < 2 ^ 32 → owns_boot (entry_path n) ≡ true
entry_owned n small = boot_owned (entry_path n) (inr (n, small, refl))

loader_owned : owns_boot loader_path ≡ true
loader_owned = boot_owned loader_path (inl refl)

-- ---- where no entry has changed the boot menu is such

pub menu_begins_law : MenuBeginsLaw
menu_begins_law first now same = record {
  entries = λ n leaf small stands. inl (sym (same (entry_path n) (entry_owned n small)) ∙ stands);
  kept = λ n system stands stood. subst (λ o. IsSome o) (sym (same (entry_path n) (entry_owned n (small_of now n (ap is_some stands))))) stood;
  loader = inl (same loader_path loader_owned);
}

-- ---- it stays so where neither it nor the profile changes

module _ (first now later : Leaves) (profile : IsSameProfile now later) where
  entry_stays : (n : ℕ) (leaf : LeafKind) → IsEntryOf first now n leaf → IsEntryOf first later n leaf
  entry_stays n leaf is = record { system = is.system; stands = generation_kept now later profile n ∙ is.stands; text = is.text }

  module _ (menu : IsSameMenu now later) where
    loader_stays : IsLoaderOf first now → IsLoaderOf first later
    loader_stays is = record {
      number = is.number;
      current = current_kept now later profile is.number is.current;
      named = menu loader_path loader_owned ∙ is.named;
      entry = is.entry;
      stands = menu (entry_path is.number) (entry_owned is.number (small_of now is.number is.current.stands)) ∙ is.stands;
      is_entry = entry_stays is.number is.entry is.is_entry;
    }

    menu_stays : IsMenuBetween first now → IsMenuBetween first later
    menu_stays between = record {
      entries = λ n leaf small stands. ⊎_elim
          (λ stood. inl stood) (λ is. inr (entry_stays n leaf is))
          (between.entries n leaf small (sym (menu (entry_path n) (entry_owned n small)) ∙ stands));
      kept = λ n system stands stood.
          let now_stands = sym (generation_kept now later profile n) ∙ stands in
          subst (λ o. IsSome o) (sym (menu (entry_path n) (entry_owned n (small_of now n (ap is_some now_stands))))) (between.kept n system now_stands stood);
      loader = ⊎_elim (λ same. inl (menu loader_path loader_owned ∙ same)) (λ is. inr (loader_stays is)) between.loader;
    }

pub menu_stays_law : MenuStaysLaw
menu_stays_law first now later between menu profile = menu_stays first now later profile menu between

-- ---- it is such since another first world too that has the same boot menu and the same store

abbrev no_gens : Gens
no_gens = record { list = []; current = None }

no_gens_are : IsBootGens no_gens
unfolding IsStrictlySortedBy
no_gens_are = record { list = record { rising = tt; numbers = tt }; systems = tt }

module _ (first other now : Leaves) (menu : IsSameMenu first other) (store : IsSameStore first other) where
  entry_since : (n : ℕ) (leaf : LeafKind) → IsEntryOf first now n leaf → IsEntryOf other now n leaf
  entry_since n leaf is = record {
    system = is.system;
    stands = is.stands;
    text = is.text ∙ ap (λ (file : BootFile). open_file file.bytes) (sym (entry_kept no_gens no_gens_are first other store n is.system (named_at now n (Some is.system) is.stands)));
  }

  loader_since : IsLoaderOf first now → IsLoaderOf other now
  loader_since is = record {
    number = is.number;
    current = is.current;
    named = is.named;
    entry = is.entry;
    stands = is.stands;
    is_entry = entry_since is.number is.entry is.is_entry;
  }

  menu_since : IsMenuBetween first now → IsMenuBetween other now
  menu_since between = record {
    entries = λ n leaf small stands. ⊎_elim
        (λ stood. inl (menu (entry_path n) (entry_owned n small) ∙ stood)) (λ is. inr (entry_since n leaf is))
        (between.entries n leaf small stands);
    kept = λ n system stands stood. between.kept n system stands (subst (λ o. IsSome o) (menu (entry_path n) (entry_owned n (small_of now n (ap is_some stands)))) stood);
    loader = ⊎_elim (λ same. inl (same ∙ sym (menu loader_path loader_owned))) (λ is. inr (loader_since is)) between.loader;
  }

pub menu_since_law : MenuSinceLaw
menu_since_law first other now menu store between = menu_since first other now menu store between

-- ---- while the boot menu of some generations is made

module _ (gens : Gens) (is : IsBootGens gens) (first : Leaves) (u : WorldState) (menu : IsSameMenu first u.leaves) (stand : IsGensOf u.leaves gens) where
  abbrev texts : BootTexts
  texts = menu_of gens first

  are : AreEntries texts.entries
  are = menu_entries gens first is

  -- the entry of a generation that names a system doesn't go
  stays : (n : ℕ) (system : Name) → n < 2 ^ 32 → listed_at gens.list n ≡ Some (Some system) → list_any (eqb (entry_path n)) texts.gone ≡ false
  stays n system small listed =
      let target : has_target gens.list n ≡ true =
      (entries_left first n small gens.list is.list.rising is.list.numbers).target ∙ ap (λ o. is_some (option_and_then (λ (target : Option Name). target) o)) listed in
      in_gone first gens.list (entry_path n)
      ∙ ap (λ o. not (option_map_or (has_target gens.list) o true) && (is_listed entries_folder (entry_path n) && is_some (get first (entry_path n)))) (numbered_entry n small)
      ∙ ap (λ b. not b && (is_listed entries_folder (entry_path n) && is_some (get first (entry_path n)))) target

  loader_stands : list_any (eqb loader_path) texts.gone ≡ false
  loader_stands = none_gone first gens.list loader_path loader_unnumbered

  last_none : (loader : Option (List ℕ)) (n : ℕ) → AllByRecursion (IsFileOf first gens.list n) (last_file loader)
  last_none None n = tt
  last_none (Some text) n = (λ here. absurd (loader_not_entry n (sym (same_path (entry_path n) loader_path here))), tt)

  module _ (m : WorldState) (profile : IsSameProfile u.leaves m.leaves) (k j : ℕ) (world : seen m ≡ seen (without_places (take j texts.gone) (with_files (take k (boot_files texts)) u))) where
    abbrev put : List BootFile
    put = take k (boot_files texts)

    stands_at : (q : Name) → IsBootPlace q → get m.leaves q ≡ cond (list_any (eqb q) (take j texts.gone)) None (left_files put q (get first q))
    stands_at q place =
        seen_at m (without_places (take j texts.gone) (with_files put u)) world q (apart_ne q stage (place_apart q place))
        ∙ gone_at (take j texts.gone) (with_files put u) q
        ∙ ap (λ o. cond (list_any (eqb q) (take j texts.gone)) None o) (left_at (map boot_put put) u q ∙ ap (left_files put q) (menu q (boot_owned q place)))

    stands_left : (q : Name) → IsBootPlace q → list_any (eqb q) texts.gone ≡ false → get m.leaves q ≡ left_files put q (get first q)
    stands_left q place none = stands_at q place ∙ ap (λ b. cond b None (left_files put q (get first q))) (any_take (eqb q) texts.gone j none)

    entry_left : (n : ℕ) → n < 2 ^ 32 →
        (left_files put (entry_path n) (get first (entry_path n)) ≡ get first (entry_path n))
        ⊎ ((leaf : LeafKind) × (left_files put (entry_path n) (get first (entry_path n)) ≡ Some leaf) × IsListedEntry first gens.list n leaf)
    entry_left n small = left_is (IsListedEntry first gens.list n) put (entry_path n) (get first (entry_path n))
        (all_take (IsFileOf first gens.list n) (boot_files texts) k
        (both_all (IsFileOf first gens.list n) texts.entries (last_file texts.loader) (files_listed first n small gens.list is.list.rising is.list.numbers) (last_none texts.loader n)))

    entry_is : (n : ℕ) (leaf : LeafKind) → IsListedEntry first gens.list n leaf → IsEntryOf first m.leaves n leaf
    entry_is n leaf entry = record { system = entry.system; stands = generation_kept u.leaves m.leaves profile n ∙ sym (stand.exact n) ∙ entry.listed; text = entry.text }

    entries_between : (n : ℕ) (leaf : LeafKind) → n < 2 ^ 32 → get m.leaves (entry_path n) ≡ Some leaf → (get first (entry_path n) ≡ Some leaf) ⊎ IsEntryOf first m.leaves n leaf
    entries_between n leaf small stands =
        let left = not_gone (list_any (eqb (entry_path n)) (take j texts.gone)) (left_files put (entry_path n) (get first (entry_path n))) leaf (sym (stands_at (entry_path n) (inr (n, small, refl))) ∙ stands) in
        ⊎_elim
        (λ kept. inl (sym kept ∙ left))
        (λ made. inr (entry_is n leaf (subst (IsListedEntry first gens.list n) (same_Some made.0 leaf (sym made.1 ∙ left)) made.2)))
        (entry_left n small)

    entries_kept : (n : ℕ) (system : Name) → generation_at m.leaves n ≡ Some (Some system) → IsSome (get first (entry_path n)) → IsSome (get m.leaves (entry_path n))
    entries_kept n system named stood =
        let small = small_of m.leaves n (ap is_some named) in
        let listed = stand.exact n ∙ sym (generation_kept u.leaves m.leaves profile n) ∙ named in
        let left = stands_left (entry_path n) (inr (n, small, refl)) (stays n system small listed) in
        ⊎_elim
        (λ kept. subst (λ o. IsSome o) (sym (left ∙ kept)) stood)
        (λ made. ap is_some (left ∙ made.1))
        (entry_left n small)

    -- where the loader's file isn't put yet it is as it was
    loader_before : (files : List BootFile) → put ≡ files → AreOthers loader_path files → get m.leaves loader_path ≡ get first loader_path
    loader_before files before elsewhere =
        stands_left loader_path (inl refl) loader_stands ∙ ap (λ (fs : List BootFile). left_files fs loader_path (get first loader_path)) before
        ∙ left_others files loader_path (get first loader_path) elsewhere

    before_last : AreOthers loader_path (texts.entries ++ [])
    before_last = both_all (λ (file : BootFile). eqb loader_path file.at ≡ false) texts.entries [] (entries_elsewhere texts.entries are) tt

    module _ (number : ℕ) (current : IsCurrent u.leaves number) (system : Name) (named : generation_at u.leaves number ≡ Some (Some system)) where
      abbrev last : List BootFile
      last = last_file (Some (loader_text number))

      number_small : number < 2 ^ 32
      number_small = small_of u.leaves number current.stands

      listed_current : listed_at gens.list number ≡ Some (Some system)
      listed_current = stand.exact number ∙ named

      -- where it is put it names the current generation, whose entry stands
      loader_after : put ≡ texts.entries ++ last → IsLoaderOf first m.leaves
      unfolding left_by
      loader_after all = record {
        number = number;
        current = current_kept u.leaves m.leaves profile number current;
        named =
            stands_left loader_path (inl refl) loader_stands ∙ ap (λ (fs : List BootFile). left_files fs loader_path (get first loader_path)) all
            ∙ left_on texts.entries last loader_path (get first loader_path)
            ∙ ap (λ b. cond b (Some (open_file (loader_text number))) (left_files texts.entries loader_path (get first loader_path))) (itself loader_path);
        entry = open_file (entry_of first number system).bytes;
        stands =
            stands_left (entry_path number) (inr (number, number_small, refl)) (stays number system number_small listed_current)
            ∙ ap (λ (fs : List BootFile). left_files fs (entry_path number) (get first (entry_path number))) all
            ∙ left_on texts.entries last (entry_path number) (get first (entry_path number))
            ∙ left_others last (entry_path number) (left_files texts.entries (entry_path number) (get first (entry_path number))) (last_elsewhere (Some (loader_text number)) number)
            ∙ (entries_left first number number_small gens.list is.list.rising is.list.numbers).left (get first (entry_path number))
            ∙ ap (λ o. option_or (option_map (λ (s : Name). open_file (entry_of first number s).bytes) (option_and_then (λ (target : Option Name). target) o)) (get first (entry_path number))) listed_current;
        is_entry = record { system = system; stands = generation_kept u.leaves m.leaves profile number ∙ named; text = refl };
      }

      loader_between : gens.current ≡ Some number → (get m.leaves loader_path ≡ get first loader_path) ⊎ IsLoaderOf first m.leaves
      loader_between is_current = ⊎_elim
          (λ some. inl (loader_before (take k texts.entries) some (all_take (λ (file : BootFile). eqb loader_path file.at ≡ false) texts.entries k (entries_elsewhere texts.entries are))))
          (λ all. let put_is = all.1 ∙ ap (λ (o : Option ℕ). texts.entries ++ take all.0 (last_file (option_map loader_text o))) is_current in ⊎_elim
          (λ none. inl (loader_before (texts.entries ++ []) (put_is ∙ ap (λ (fs : List BootFile). texts.entries ++ fs) none) before_last))
          (λ one. inr (loader_after (put_is ∙ ap (λ (fs : List BootFile). texts.entries ++ fs) one)))
          (take_one (record { at = loader_path; bytes = loader_text number }) all.0))
          (take_parts texts.entries (last_file texts.loader) k)

      pub menu_between : gens.current ≡ Some number → IsMenuBetween first m.leaves
      menu_between is_current = record { entries = entries_between; kept = entries_kept; loader = loader_between is_current }

-- ---- the boot menu after a move of the profile

take_none : (places : List Name) → take 0 places ≡ []
take_none [] = refl
take_none (at ∷ places) = refl

-- the generation of a number that is left names this system
system_listed : (list : List Gen) (n : ℕ) (system : Name) → system_at list n ≡ Some system → listed_at list n ≡ Some (Some system)
system_listed list n system is = by (listed_at list n) is
  where
    by : (o : Option (Option Name)) → option_and_then (λ (target : Option Name). target) o ≡ Some system → o ≡ Some (Some system)
    by None is = absurd (none-some system is)
    by (Some target) is = ap (λ (t : Option Name). Some t) is

module _ (move : Move) (system : Name) (named : IsSystemPath system) (w : WorldState) (to : IsMoveTo move system w.leaves) (gens : Gens) (is : IsBootGens gens) (free : IsFree (boot_default_part move system gens) w.leaves) (u : WorldState)
    (moved : seen u ≡ move_world move system w) (stand : IsGensOf u.leaves gens) where
  abbrev number : ℕ
  number = number_moved move system w.leaves

  -- the generation that is current then names the system
  system_named : generation_at u.leaves number ≡ Some (Some system)
  system_named = number_named move system w u named to (profile_free move system named gens is w free) moved

  same_menu : IsSameMenu w.leaves u.leaves
  same_menu = menu_kept move system gens (part_law gens is) w u (moved_is move system named gens is w free u moved).only

  between_at : gens.current ≡ Some number → (m : WorldState) → IsBootMoment (menu_of gens w.leaves) u m → IsMenuBetween w.leaves m.leaves
  between_at current m moment =
      let texts = menu_of gens w.leaves in
      let profile = profile_kept move system gens u m (listed move system named gens is w free u moved m moment).only in
      let is_current = subst (λ o. IfSome o (IsCurrent u.leaves)) current stand.current in
      ⊎_elim
      (λ putting. menu_between gens is w.leaves u same_menu stand m profile putting.count 0
      (putting_world texts u m putting ∙ ap (λ (places : List Name). seen (without_places places (with_files (take putting.count (boot_files texts)) u))) (sym (take_none texts.gone)))
      number is_current system system_named current)
      (λ removing. menu_between gens is w.leaves u same_menu stand m profile (length (boot_files texts)) removing.count
      (removing.world ∙ ap (λ (files : List BootFile). seen (without_places (take removing.count texts.gone) (with_files files u))) (sym (take_all (length (boot_files texts)) (boot_files texts) (omega arith))))
      number is_current system system_named current)
      moment

  module _ (v : WorldState) (made : seen v ≡ menu_end (menu_of gens w.leaves) u) where
    end_is : IsAtEnd (boot_part gens) u v × IsOnly (boot_part gens) u v
    end_is = end_law gens (menu_of gens w.leaves) u v is.list (menu_entries gens w.leaves is) (planned_still move system named gens is w free u moved) made

    entry_at_end : (n : ℕ) → n < 2 ^ 32 → get v.leaves (entry_path n) ≡ entry_end gens.list w.leaves n
    entry_at_end n small =
        let own = entry_owned n small in
        end_is.0 (entry_path n) own
        ∙ (part_law gens is).same_end w u ((part_law gens is).frame w u (menu_still move system named gens is w free u moved)) (entry_path n) own
        ∙ ap (λ b. cond b (loader_end gens.current w.leaves) (option_map_or (entry_end gens.list w.leaves) (numbered (entry_path n)) (get w.leaves (entry_path n)))) (entry_not_loader n)
        ∙ ap (λ o. option_map_or (entry_end gens.list w.leaves) o (get w.leaves (entry_path n))) (numbered_entry n small)

    whole_at : (n : ℕ) (leaf : LeafKind) (system_of_n : Option Name) → system_at gens.list n ≡ system_of_n →
        option_map (λ (s : Name). open_file (entry_of w.leaves n s).bytes) system_of_n ≡ Some leaf → IsEntryOf w.leaves v.leaves n leaf
    whole_at n leaf None at stands = absurd (none-some leaf stands)
    whole_at n leaf (Some s) at stands = record {
      system = s;
      stands = generation_kept u.leaves v.leaves (profile_kept move system gens u v end_is.1) n ∙ sym (stand.exact n) ∙ system_listed gens.list n s at;
      text = sym (same_Some (open_file (entry_of w.leaves n s).bytes) leaf stands);
    }

    menu_whole : IsMenuWhole w.leaves v.leaves
    menu_whole n leaf small stands = whole_at n leaf (system_at gens.list n) refl (sym (entry_at_end n small) ∙ stands)

-- what stands after a move of the profile are these generations
stand_after : (move : Move) (system : Name) (w u : WorldState) → IsSystemPath system → IsMoveTo move system w.leaves → IsFree (boot_default_in move system w.leaves) w.leaves → seen u ≡ move_world move system w →
    IsGensOf u.leaves (gens_moved move system w.leaves)
stand_after move system w u named to free moved =
    gens_of_move move system w u named to (first_free (move_part move system) (boot_part (gens_moved move system w.leaves)) w.leaves free) moved

pub menu_law : MenuLaw
menu_law move system w m named to free (Moving moment) =
    let gens = gens_moved move system w.leaves in let is = gens_after_law move system w.leaves named in
    menu_begins_law w.leaves m.leaves (menu_kept move system gens (part_law gens is) w m (moving_moment move system named gens is w free m moment).only)
menu_law move system w m named to free (Listing u moved moment) =
    let gens = gens_moved move system w.leaves in let is = gens_after_law move system w.leaves named in
    between_at move system named w to gens is free u moved (stand_after move system w u named to free moved)
    (move_current move system w.leaves (first_free (move_part move system) (boot_part gens) w.leaves free)) m moment

pub menu_end_law : MenuEndLaw
menu_end_law move system w v named to free made =
    let gens = gens_moved move system w.leaves in let is = gens_after_law move system w.leaves named in
    let u = move_world move system w in let moved = moved_is_seen move system w in
    menu_whole move system named w to gens is free u moved (stand_after move system w u named to free moved) v made
