-- The profile names the same system at each moment of a collection.
use Rattle.std.proofs.Common.{◌≡◌, ◌≢◌, ◌⊎◌, ◌↔◌, ℕ, ◌==◌, not, Bool, true, false, cond, List, [], ◌∷◌, take, filter, map, Option, None, Some, IsSome, option_map, refl, sym, ap, subst, ◌∙◌, inl, inr}
use Rattle.std.proofs.lemmas.Bool.{both_ways, cases_Bool, eq-eqb, or_cases}
use Rattle.std.specs.FinMap.{get}
use Rattle.std.specs.List.{AllByRecursion}
use Rattle.std.specs.Option.{option_map_or}
use Rattle.generations.specs.declared.gens.Gen.{Gen}
use Rattle.generations.specs.declared.gens.Gens.{Gens}
use Rattle.generations.specs.Places.{IsCurrent, Names, generation_at, is_number, link_path, profile, target_of}
use Rattle.generations.proofs.Apart.{link_apart, link_profile, one_link_path, profile_apart}
use Rattle.generations.proofs.Numbers.{small_number, stands_at_number}
use Rattle.generations.proofs.ProfileApart.{profile_owned}
use Rattle.host_trait.specs.declared.leaf.LeafKind.{LeafKind}
use Rattle.host_trait.specs.World.{WorldState, listed, stage}
use Rattle.host_trait.proofs.Fronts.{begins}
use Rattle.host_trait.proofs.NameOrder.{name_exact}
use Rattle.host_trait.proofs.Seen.{seen_at}
use Rattle.switch_names.specs.Names.{Name, has, is_name}
use Rattle.switch_names.specs.SystemName.{store_folder}
use Rattle.tree_put.specs.Sequence.{without_places}
use Rattle.tree_put.proofs.LeftLemmas.{gone_at}
use Rattle.tree_put.proofs.PutLemmas.{apart_ne}
use Rattle.tree_put.proofs.SequenceLemmas.{all_take}
use Rattle.boot_entries.specs.Entries.{version_path}
use Rattle.boot_entries.specs.Places.{owns_boot}
use Rattle.boot_entries.specs.Steps.{AreEntries, IsBootMoment, with_menu}
use Rattle.boot_entries.proofs.EndLemmas.{only_law}
use Rattle.boot_entries.proofs.OwnLemmas.{owned_read}
use Rattle.boot_entries.proofs.PartedLemmas.{profile_unread}
use Rattle.store_live.proofs.PathLemmas.{inside_begins, listed_is}
use Rattle.store_collect.specs.declared.collection.Collection.{Collection}
use Rattle.store_collect.specs.Collection.{IsCollectionOf, first_of}
use Rattle.store_collect.specs.Kept.{gens_kept, is_current_of}
use Rattle.store_collect.specs.Laws.{NamesLaw}
use Rattle.store_collect.specs.Steps.{IsCollecting, removals}
use Rattle.store_collect.proofs.LawLemmas.{among_first, in_both, in_first_of, in_flat, link_outside, menu_made}
use Rattle.store_collect.proofs.OneLemmas.{of_numbers}
use Rattle.store_collect.proofs.WholeLemmas.{link_unowned}

profile_outside : begins store_folder profile ≡ false
unfolding profile
profile_outside = refl

profile_unowned : owns_boot profile ≡ false
profile_unowned = elim (cases_Bool (owns_boot profile)) [
  | inl own ↦ absurd (both_ways _ (profile_unread profile profile_owned) (owned_read profile own))
  | inr other ↦ other
]

-- the link of the current generation isn't among those that go
no_current : (gens : Gens) (n : ℕ) (list : List Gen) → gens.current ≡ Some n → is_number n ≡ true → AllByRecursion (λ (gen : Gen). is_number gen.number ≡ true) list →
    has (map (λ (gen : Gen). link_path gen.number) (filter (λ (gen : Gen). not (is_current_of gens gen)) list)) (link_path n) ≡ true → ⊥
no_current gens n [] current number all there = absurd cc
no_current gens n (gen ∷ list) current number all there = by (is_current_of gens gen) refl there (no_current gens n list current number all.1)
  where
    same : link_path n ≡ link_path gen.number → is_current_of gens gen ≡ true
    same path =
        let equal = one_link_path n gen.number (small_number n number) (small_number gen.number all.0) path in
        ap (λ c. option_map_or (λ k. gen.number == k) c false) current ∙ eq-eqb gen.number n (sym equal)

    by : (b : Bool) → is_current_of gens gen ≡ b →
        has (map (λ (g : Gen). link_path g.number) (cond (not b) (gen ∷ filter (λ (g : Gen). not (is_current_of gens g)) list) (filter (λ (g : Gen). not (is_current_of gens g)) list))) (link_path n) ≡ true →
        (has (map (λ (g : Gen). link_path g.number) (filter (λ (g : Gen). not (is_current_of gens g)) list)) (link_path n) ≡ true → ⊥) → ⊥
    by true is there rest = rest there
    by false is there rest = elim (or_cases (is_name (link_path n) (link_path gen.number)) _ there) [
      | inl path ↦ both_ways _ is (same (name_exact (link_path n) (link_path gen.number) path))
      | inr later ↦ rest later
    ]

module _ (keep : ℕ) (collection : Collection) (w m : WorldState) (entries : AreEntries collection.texts.entries) (is : IsCollectionOf keep w collection) (moment : IsCollecting collection w m) where
  -- outside the store and the boot menu a place stays, or is that of a link that goes
  pub outside : (p : Name) → owns_boot p ≡ false → p ≢ stage → begins store_folder p ≡ false → (get m.leaves p ≡ get w.leaves p) ⊎ ((has collection.links p ≡ true) × (get m.leaves p ≡ None))
  outside p free other away = by_moment moment
    where
      kept : (v : WorldState) → IsBootMoment collection.texts w v → get v.leaves p ≡ get w.leaves p
      kept v boot = (only_law (gens_kept keep is.gens) collection.texts w v entries is.planned.texts boot).leaves p free other

      to_link : has (removals collection) p ≡ true → has collection.links p ≡ true
      to_link there = elim (in_both collection.links collection.leaves p there) [
        | inl found ↦ found
        | inr leaf ↦
            let found = in_flat (λ y. first_of (version_path y) (listed y w.leaves)) collection.names p (subst (λ l. has l p ≡ true) is.planned.leaves leaf) in
            let dead = (is.planned.names.exact found.0).0 found.1 in
            let at = (listed_is found.0 w.leaves p (in_first_of (version_path found.0) (listed found.0 w.leaves) p found.2)).0 in
            absurd (both_ways _ away (inside_begins found.0 p dead.stored.path at))
      ]

      by_moment : IsCollecting collection w m → (get m.leaves p ≡ get w.leaves p) ⊎ ((has collection.links p ≡ true) × (get m.leaves p ≡ None))
      by_moment (IsCollecting.Listing boot) = inl (kept m boot)
      by_moment (IsCollecting.Dropping drop) =
          let gone = take drop.count (removals collection) in
          let u = with_menu collection.texts w in
          let after = seen_at m (without_places gone u) drop.world p other ∙ gone_at gone u p in
          elim (cases_Bool (has gone p)) [
            | inl there ↦ inr (to_link (among_first (removals collection) drop.count p there), after ∙ ap (λ b. cond b None (get u.leaves p)) there)
            | inr apart ↦ inl (after ∙ ap (λ b. cond b None (get u.leaves p)) apart ∙ kept u (menu_made collection.texts w))
          ]

  pub profile_stays : get m.leaves profile ≡ get w.leaves profile
  profile_stays = elim (outside profile profile_unowned (apart_ne profile stage profile_apart) profile_outside) [
    | inl same ↦ same
    | inr both ↦ absurd (no_profile _ (subst (λ l. has l profile ≡ true) is.planned.links both.0))
  ]
    where
      no_profile : (list : List Gen) → has (map (λ (gen : Gen). link_path gen.number) list) profile ≡ true → ⊥
      no_profile [] there = absurd cc
      no_profile (gen ∷ list) there = elim (or_cases (is_name profile (link_path gen.number)) _ there) [
        | inl path ↦ apart_ne (link_path gen.number) profile (link_profile gen.number) (sym (name_exact profile (link_path gen.number) path))
        | inr later ↦ no_profile list later
      ]

  numbers : AllByRecursion (λ (gen : Gen). is_number gen.number ≡ true) is.gens.list
  numbers = of_numbers w.leaves is.gens is.stand

  pub link_either : (n : ℕ) → (get m.leaves (link_path n) ≡ get w.leaves (link_path n)) ⊎ ((has collection.links (link_path n) ≡ true) × (get m.leaves (link_path n) ≡ None))
  link_either n = outside (link_path n) (link_unowned n) (apart_ne (link_path n) stage (link_apart n)) (link_outside n)

  pub at_same : (n : ℕ) → get m.leaves (link_path n) ≡ get w.leaves (link_path n) → generation_at m.leaves n ≡ generation_at w.leaves n
  at_same n same = ap (λ o. cond (is_number n) (option_map target_of o) None) same

  -- a generation that stands now stood before
  pub stood : (n : ℕ) → IsSome (generation_at m.leaves n) → generation_at m.leaves n ≡ generation_at w.leaves n
  stood n stands = elim (link_either n) [
    | inl same ↦ at_same n same
    | inr both ↦ absurd (none_some (is_number n) (get m.leaves (link_path n)) both.1 stands)
  ]
    where
      none_some : (b : Bool) (o : Option LeafKind) → o ≡ None → IsSome (cond b (option_map target_of o) None) → ⊥
      none_some true None none some = absurd cc
      none_some true (Some x) none some = absurd cc
      none_some false o none some = absurd cc

  pub current_stays : (n : ℕ) → IsCurrent w.leaves n → generation_at m.leaves n ≡ generation_at w.leaves n
  current_stays n current = elim (link_either n) [
    | inl same ↦ at_same n same
    | inr both ↦ absurd (no_current is.gens n _ (is.stand.only_current n current) (stands_at_number w.leaves n current.stands)
        (all_take (λ (gen : Gen). is_number gen.number ≡ true) is.gens.list _ numbers) (subst (λ l. has l (link_path n) ≡ true) is.planned.links both.0))
  ]

  pub names_stay : (system : Name) → Names m.leaves system ↔ Names w.leaves system
  names_stay system = (
    λ names.
        let same = stood names.number names.current.stands in
        record {
          number = names.number;
          current = record { linked = sym profile_stays ∙ names.current.linked; stands = subst IsSome same names.current.stands };
          named = sym same ∙ names.named;
        },
    λ names.
        let same = current_stays names.number names.current in
        record {
          number = names.number;
          current = record { linked = profile_stays ∙ names.current.linked; stands = subst IsSome (sym same) names.current.stands };
          named = same ∙ names.named;
        },
  )

pub names_law : NamesLaw
names_law keep collection w m system entries is moment = names_stay keep collection w m entries is moment system
