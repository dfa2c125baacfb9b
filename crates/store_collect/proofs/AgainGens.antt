-- The generations that stand at a moment of a collection: the same of them are kept.
use Rattle.std.proofs.Common.{◌≡◌, ℕ, ◌==◌, Bool, true, false, cond, List, [], ◌∷◌, filter, Option, None, Some, IfSome, IsSome, is_some, option_map, refl, sym, ap, subst, ◌∙◌, inl, inr, append-nil}
use Rattle.std.proofs.lemmas.Bool.{and_from, both_ways, cases_Bool, or_left, or_right}
use Rattle.std.proofs.lemmas.List.Folds.{list_any-append}
use Rattle.std.specs.FinMap.{get}
use Rattle.std.specs.List.{AllByRecursion}
use Rattle.std.specs.List.Sorted.{IsStrictlySortedBy}
use Rattle.std.specs.Option.{option_map_or}
use Rattle.std.specs.Ordering.{nat_cmp}
use Rattle.generations.specs.declared.gens.Gen.{Gen}
use Rattle.generations.specs.declared.gens.Gens.{Gens}
use Rattle.generations.specs.Gens.{IsGensOf}
use Rattle.generations.specs.Places.{IsCurrent, generation_at, is_number, link_path, target_of}
use Rattle.generations.proofs.Numbers.{small_number, stands_at_number}
use Rattle.host_trait.specs.declared.leaf.LeafKind.{LeafKind}
use Rattle.host_trait.specs.World.{WorldState}
use Rattle.switch_names.specs.Names.{Name, has}
use Rattle.tree_put.proofs.SequenceLemmas.{all_take}
use Rattle.boot_entries.specs.Steps.{AreEntries}
use Rattle.store_collect.specs.declared.collection.Collection.{Collection}
use Rattle.store_collect.specs.Collection.{IsCollectionOf}
use Rattle.store_collect.specs.Kept.{gens_kept, is_current_of, links_gone, older}
use Rattle.store_collect.specs.Steps.{IsCollecting}
use Rattle.store_collect.proofs.BootSystemLemmas.{at_same, current_stays, link_either, profile_stays, stood}
use Rattle.store_collect.proofs.EntryLemmas.{are_entries}
use Rattle.store_collect.proofs.FewerGens.{all_among, among_found, kept_same, link_still, link_was, listed_passing}
use Rattle.store_collect.proofs.GenLists.{among_kept, among_passing, is_among, kept_stays, last_of, numbers_of, rising_kept}
use Rattle.store_collect.proofs.OneLemmas.{of_numbers, one_gens}

chosen : {X : Type 0} (b : Bool) (o p : Option X) → is_some o ≡ b → (IsSome o → o ≡ p) → cond b p None ≡ o
chosen true o p is same = sym (same is)
chosen false None p is same = refl
chosen false (Some x) p is same = absurd (both_ways _ is refl)

module _ (keep : ℕ) (one : Collection) (w m : WorldState) (is : IsCollectionOf keep w one) (moment : IsCollecting one w m) where
  entries : AreEntries one.texts.entries
  entries = are_entries keep w one is

  abbrev gens : Gens
  gens = is.gens

  -- whether the generation of a number stands now
  abbrev stays_at : ℕ → Bool
  stays_at n = is_some (generation_at m.leaves n)

  abbrev stays : Gen → Bool
  stays gen = stays_at gen.number

  abbrev is_current : ℕ → Bool
  is_current n = option_map_or (λ c. n == c) gens.current false

  stood_at : (n : ℕ) → is_among n gens.list ≡ true → IsSome (generation_at w.leaves n)
  stood_at n among = subst IsSome (is.stand.exact n) (among_found gens.list n among)

  -- a generation that is kept stands, and its link doesn't go
  pub kept_stands : (n : ℕ) → is_among n (gens_kept keep gens).list ≡ true → (has one.links (link_path n) ≡ false) × (generation_at m.leaves n ≡ generation_at w.leaves n) × IsSome (generation_at m.leaves n)
  kept_stands n kept =
      let some = stood_at n (among_kept keep gens n kept) in
      let small = small_number n (stands_at_number w.leaves n some) in
      let apart : has one.links (link_path n) ≡ false = elim (cases_Bool (has one.links (link_path n))) [
        | inl gone ↦ absurd (kept_stays keep gens is.stand.rising n small (of_numbers w.leaves gens is.stand) kept (subst (λ l. has l (link_path n) ≡ true) is.planned.links gone))
        | inr apart ↦ apart
      ] in
      let same : generation_at m.leaves n ≡ generation_at w.leaves n = elim (link_either keep one w m entries is moment n) [
        | inl same ↦ at_same keep one w m entries is moment n same
        | inr both ↦ absurd (both_ways _ apart both.0)
      ] in
      (apart, same, subst IsSome (sym same) some)

  last_stays : AllByRecursion (λ (gen : Gen). stays gen ≡ true) (last_of keep gens)
  last_stays = all_among (λ n. stays_at n ≡ true) (last_of keep gens) (λ n among. (kept_stands n (
      list_any-append (λ (g : Gen). g.number == n) (filter (is_current_of gens) (older keep gens)) (last_of keep gens)
      ∙ or_right (is_among n (filter (is_current_of gens) (older keep gens))) (is_among n (last_of keep gens)) among)).2)

  current_kept : AllByRecursion (λ (gen : Gen). is_current_of gens gen ≡ true → stays gen ≡ true) (older keep gens)
  current_kept = all_among (λ n. is_current n ≡ true → stays_at n ≡ true) (older keep gens) (λ n among current. (kept_stands n (
      list_any-append (λ (g : Gen). g.number == n) (filter (is_current_of gens) (older keep gens)) (last_of keep gens)
      ∙ or_left (is_among n (filter (is_current_of gens) (older keep gens))) (is_among n (last_of keep gens))
      (among_passing is_current n (older keep gens) ∙ and_from (is_current n) (is_among n (older keep gens)) current among))).2)

  abbrev now : Gens
  now = record { list = filter stays gens.list; current = gens.current }

  now_rising : IsStrictlySortedBy nat_cmp (numbers_of (filter stays gens.list))
  now_rising =
      subst (λ list. IsStrictlySortedBy nat_cmp (numbers_of list)) (append-nil (filter stays gens.list))
      (rising_kept stays gens.list [] (subst (λ list. IsStrictlySortedBy nat_cmp (numbers_of list)) (sym (append-nil gens.list)) is.stand.rising))

  now_current : (c : Option ℕ) → IfSome c (IsCurrent w.leaves) → IfSome c (IsCurrent m.leaves)
  now_current None current = current
  now_current (Some n) current = record {
    linked = profile_stays keep one w m entries is moment ∙ current.linked;
    stands = subst IsSome (sym (current_stays keep one w m entries is moment n current)) current.stands;
  }

  now_stand : IsGensOf m.leaves now
  now_stand = record {
    rising = now_rising;
    exact = λ n. listed_passing stays_at gens.list n ∙ ap (λ o. cond (stays_at n) o None) (is.stand.exact n)
        ∙ chosen (stays_at n) (generation_at m.leaves n) (generation_at w.leaves n) refl (λ stands. stood keep one w m entries is moment n stands);
    current = now_current gens.current is.stand.current;
    only_current = λ n current. is.stand.only_current n record {
      linked = sym (profile_stays keep one w m entries is moment) ∙ current.linked;
      stands = subst IsSome (stood keep one w m entries is moment n current.stands) current.stands;
    };
  }

  -- a link that stands is that of a generation that does
  link_stays : (at : Name) → IsSome (get m.leaves at) → (list : List Gen) → AllByRecursion (λ (gen : Gen). is_number gen.number ≡ true) list → AllByRecursion (λ (gen : Gen). at ≡ link_path gen.number → stays gen ≡ true) list
  link_stays at stands [] numbers = tt
  link_stays at stands (gen ∷ list) numbers = (λ path. by (is_number gen.number) numbers.0 (get m.leaves (link_path gen.number)) (subst (λ p. IsSome (get m.leaves p)) path stands), link_stays at stands list numbers.1)
    where
      by : (b : Bool) → b ≡ true → (o : Option LeafKind) → IsSome o → is_some (cond b (option_map target_of o) None) ≡ true
      by true number (Some leaf) some = refl
      by true number None some = some
      by false number o some = absurd (both_ways _ refl number)

  -- of the generations that stand now the same are kept
  pub kept_now : (others : Gens) → IsGensOf m.leaves others → gens_kept keep others ≡ gens_kept keep gens
  kept_now others stand = ap (gens_kept keep) (one_gens m.leaves others now stand now_stand) ∙ kept_same keep gens stays last_stays current_kept

  module _ (again : Collection) (also : IsCollectionOf keep m again) where
    same_gens : also.gens ≡ now
    same_gens = one_gens m.leaves also.gens now also.stand now_stand

    -- a collection of this moment keeps the same generations
    pub kept_again : gens_kept keep also.gens ≡ gens_kept keep gens
    kept_again = kept_now also.gens also.stand

    links_of : again.links ≡ links_gone keep now
    links_of = also.planned.links ∙ ap (links_gone keep) same_gens

    -- and removes the links that are left
    pub again_was : (at : Name) → has again.links at ≡ true → has one.links at ≡ true
    again_was at there = subst (λ l. has l at ≡ true) (sym is.planned.links) (link_was keep gens stays last_stays current_kept at (subst (λ l. has l at ≡ true) links_of there))

    pub again_still : (at : Name) → IsSome (get m.leaves at) → has one.links at ≡ true → has again.links at ≡ true
    again_still at stands there =
        let numbers = all_take (λ (gen : Gen). is_number gen.number ≡ true) gens.list _ (of_numbers w.leaves gens is.stand) in
        subst (λ l. has l at ≡ true) (sym links_of) (link_still keep gens stays last_stays current_kept at (link_stays at stands (older keep gens) numbers) (subst (λ l. has l at ≡ true) is.planned.links there))
