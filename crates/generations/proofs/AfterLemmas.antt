-- The generations that stand after a set of the profile.
use Rattle.std.proofs.Common.{◌≡◌, ◌⊎◌, ◌≢◌, ◌&&◌, ℕ, zero, suc, ◌+◌, ◌^◌, ◌<◌, ◌≤◌, nat_lt, Bool, true, false, cond, not, List, [], ◌∷◌, ◌++◌, map, Option, None, Some, IfSome, is_none, is_some, option_map, refl, sym, ap, subst, ◌∙◌, inl, inr, arith}
use Rattle.std.proofs.lemmas.Bool.{both_ways, cases_Bool, cases_eq, cases_lt, eq-eqb, lt-ltb, ne_eqb}
use Rattle.std.specs.Cmp.Lexicographic.{texts_ties}
use Rattle.std.specs.FinMap.{get}
use Rattle.std.specs.List.{AllByRecursion}
use Rattle.std.specs.List.Sorted.{IsStrictlySortedBy}
use Rattle.std.specs.Option.{option_or}
use Rattle.std.specs.Ordering.{nat_cmp}
use Rattle.switch_names.specs.Names.{Name}
use Rattle.switch_names.specs.declared.name_fault.NameFault.{NameFault}
use Rattle.switch_names.specs.Path.{slash}
use Rattle.switch_names.specs.SystemName.{IsSystemPath, NamesSystem, system_fault, system_path}
use Rattle.switch_names.proofs.StorePaths.{IsSystemPath-from_named, NamesSystem-with_slash}
use Rattle.host_trait.specs.declared.leaf.LeafKind.{LeafKind}
use Rattle.host_trait.specs.declared.leaf.LeafKind.TheVariants.{File, Link}
use Rattle.host_trait.specs.World.{Leaves, WorldState, is_path, seen}
use Rattle.host_trait.proofs.Places.{at_same}
use Rattle.host_trait.proofs.Seen.{other_of, seen_at}
use Rattle.tree_put.proofs.PutLemmas.{apart_ne}
use Rattle.generations.specs.declared.gens.Gen.{Gen}
use Rattle.generations.specs.declared.gens.Gens.{Gens}
use Rattle.generations.specs.After.{generation_after, gens_after, gens_below}
use Rattle.generations.specs.Gens.{IsGensOf, is_highest_of, listed_at, number_for_in}
use Rattle.generations.specs.Places.{IsCurrent, generation_at, greatest_below, highest, is_number, link_name, link_path, link_target, number_after, profile, set_end, target_of, with_generation, with_profile}
use Rattle.generations.specs.ProfilePart.{has_number, is_kept, profile_end, profile_part}
use Rattle.generations.proofs.Apart.{link_profile, one_link, one_link_path, profile_apart}
use Rattle.generations.proofs.BelowLemmas.{all_below, below_at, below_rising, below_same, beyond_at, all_lower, gen_of, list_is_below, listed_elsewhere, listed_here, listed_joined, none_after, rising_more}
use Rattle.generations.proofs.NamesLaws.{link_text, of_system}
use Rattle.generations.proofs.Numbers.{below_bound, highest_of_world, number_for_world, small_number, stands_at_number}
use Rattle.generations.proofs.ProfileApart.{link_owned, profile_owned}
use Rattle.generations.proofs.SetLaws.{above_highest, generation_of, generation_seen, named_there, next_of, number_is, others_there, profile_keeps, top_of}
use Rattle.generations.proofs.SetLemmas.{kept_generation, new_generation}

-- the number that a set gives

greatest_small : (test : ℕ → Bool) (bound : ℕ) → greatest_below test bound ≤ bound
unfolding greatest_below
greatest_small test zero = omega arith
greatest_small test (suc n) = either (test n) (greatest_small test n)
  where
    either : (b : Bool) → greatest_below test n ≤ n → cond b n (greatest_below test n) ≤ suc n
    either true small = omega arith
    either false small = omega arith

highest_small : (leaves : Leaves) → highest leaves ≤ 2 ^ 32
unfolding highest
highest_small leaves = greatest_small (λ n. is_some (generation_at leaves n)) (2 ^ 32)

number_small : (leaves : Leaves) (system : Name) → number_after leaves system < 2 ^ 64
number_small leaves system = either (is_kept leaves system) (highest leaves) (highest_small leaves)
  where
    either : (b : Bool) (top : ℕ) → top ≤ 2 ^ 32 → cond b top (top + 1) < 2 ^ 64
    either true top small = grind arith
    either false top small = grind arith

-- the generation at the number that a set gives, and at another

at_number : (system : Name) (leaves : Leaves) (n : ℕ) → n ≡ number_after leaves system → generation_after system leaves n ≡ Some (Some system)
at_number system leaves n is = ap (λ b. cond b (Some (Some system)) (generation_at leaves n)) (eq-eqb n (number_after leaves system) is)

at_other : (system : Name) (leaves : Leaves) (n : ℕ) → (n ≡ number_after leaves system → ⊥) → generation_after system leaves n ≡ generation_at leaves n
at_other system leaves n other = ap (λ b. cond b (Some (Some system)) (generation_at leaves n)) (ne_eqb n (number_after leaves system) other)

pub no_number : (leaves : Leaves) (n : ℕ) → 2 ^ 32 ≤ n → generation_at leaves n ≡ None
no_number leaves n beyond = elim (cases_Bool (is_number n)) [
  | inl is ↦ let below = below_bound n is in absurd (omega arith)
  | inr is ↦ ap (λ b. cond b (option_map target_of (get leaves (link_path n))) None) is
]

-- Wherever a set is cut, it leaves the same generations.

pub other_path : (p q : Name) → p ≢ q → is_path p q ≡ false
other_path p q ne = texts_ties p q ∙ other_of p q ne

profile_itself : is_path profile profile ≡ true
unfolding profile
profile_itself = refl

module _ (system : Name) (leaves : Leaves) where
  end_at_profile : profile_end system leaves profile ≡ Some (Link (link_name (number_after leaves system)))
  end_at_profile =
      ap (λ b. cond b (Some (Link (link_name (number_after leaves system))))
      (cond (not (is_kept leaves system) && is_path profile (link_path (number_after leaves system))) (Some (Link (link_target system))) (get leaves profile))) profile_itself

  end_at_link : (n : ℕ) → is_number n ≡ true → (n ≡ number_after leaves system → ⊥) → profile_end system leaves (link_path n) ≡ get leaves (link_path n)
  end_at_link n is other =
      ap (λ b. cond b (Some (Link (link_name (number_after leaves system))))
      (cond (not (is_kept leaves system) && is_path (link_path n) (link_path (number_after leaves system))) (Some (Link (link_target system))) (get leaves (link_path n))))
      (other_path (link_path n) profile (apart_ne _ _ (link_profile n)))
      ∙ ap (λ b. cond (not (is_kept leaves system) && b) (Some (Link (link_target system))) (get leaves (link_path n)))
      (other_path (link_path n) (link_path (number_after leaves system))
      (λ same. other (one_link_path n (number_after leaves system) (small_number n is) (number_small leaves system) same)))
      ∙ kept (is_kept leaves system)
    where
      kept : (b : Bool) → cond (not b && false) (Some (Link (link_target system))) (get leaves (link_path n)) ≡ get leaves (link_path n)
      kept true = refl
      kept false = refl

module _ (system : Name) (w m : WorldState) (keeps : (profile_part system).Keeps w m) where
  number_stays : number_after m.leaves system ≡ number_after w.leaves system
  number_stays =
      one_link (number_after m.leaves system) (number_after w.leaves system) (number_small m.leaves system) (number_small w.leaves system)
      (link_text _ _ (sym (end_at_profile system m.leaves) ∙ keeps.ends profile profile_owned ∙ end_at_profile system w.leaves))

  generation_stays : (n : ℕ) → (n ≡ number_after w.leaves system → ⊥) → generation_at m.leaves n ≡ generation_at w.leaves n
  generation_stays n other = elim (cases_Bool (is_number n)) [
    | inl is ↦ generation_of m.leaves w.leaves n
        (sym (end_at_link system m.leaves n is (λ same. other (same ∙ number_stays))) ∙ keeps.ends (link_path n) (link_owned n) ∙ end_at_link system w.leaves n is other)
    | inr is ↦ ap (λ b. cond b (option_map target_of (get m.leaves (link_path n))) None) is
        ∙ sym (ap (λ b. cond b (option_map target_of (get w.leaves (link_path n))) None) is)
  ]

  after_stays : (n : ℕ) → generation_after system m.leaves n ≡ generation_after system w.leaves n
  after_stays n = elim (cases_eq n (number_after w.leaves system)) [
    | inl is ↦ at_number system m.leaves n (is ∙ sym number_stays) ∙ sym (at_number system w.leaves n is)
    | inr other ↦ at_other system m.leaves n (λ same. other (same ∙ number_stays)) ∙ generation_stays n other ∙ sym (at_other system w.leaves n other)
  ]

abbrev gens_with : List Gen → Option ℕ → Gens
gens_with list current = record { list = list; current = current }

abbrev current_for : ℕ → Option ℕ
current_for n = cond (nat_lt n (2 ^ 32)) (Some n) None

gens_after_is : (system : Name) (leaves : Leaves) → gens_after system leaves ≡ gens_with (gens_below (generation_after system leaves) (2 ^ 32)) (current_for (number_after leaves system))
unfolding gens_after
gens_after_is system leaves = refl

list_after_is : (system : Name) (leaves : Leaves) → (gens_after system leaves).list ≡ gens_below (generation_after system leaves) (2 ^ 32)
unfolding gens_after
list_after_is system leaves = refl

pub gens_after_stay : (system : Name) (w m : WorldState) → (profile_part system).Keeps w m → gens_after system m.leaves ≡ gens_after system w.leaves
gens_after_stay system w m keeps =
    gens_after_is system m.leaves
    ∙ ap (λ l. gens_with l (current_for (number_after m.leaves system))) (below_same (generation_after system m.leaves) (generation_after system w.leaves) (2 ^ 32) (after_stays system w m keeps))
    ∙ ap (λ n. gens_with (gens_below (generation_after system w.leaves) (2 ^ 32)) (current_for n)) (number_stays system w m keeps)
    ∙ sym (gens_after_is system w.leaves)

-- What stands after a set.

module _ (system : Name) (w : WorldState) (named : NamesSystem (slash ∷ system) system) (number : is_number (number_after w.leaves system) ≡ true) where
  abbrev linked : WorldState
  linked = with_generation system (number_after w.leaves system) w

  abbrev ended : WorldState
  ended = with_profile (number_after w.leaves system) linked

  linked_at : (n : ℕ) → generation_at linked.leaves n ≡ generation_after system w.leaves n
  linked_at n = elim (cases_Bool (is_kept w.leaves system)) [
    | inl kept ↦ ap (λ (x : WorldState). generation_at x.leaves n) (kept_generation system (number_after w.leaves system) w kept) ∙ elim (cases_eq n (number_after w.leaves system)) [
      | inl is ↦ ap (generation_at w.leaves) (is ∙ top_of w.leaves system kept) ∙ of_system _ system kept ∙ sym (at_number system w.leaves n is)
      | inr other ↦ sym (at_other system w.leaves n other)
    ]
    | inr new ↦ ap (λ (x : WorldState). generation_at x.leaves n) (new_generation system (number_after w.leaves system) w new) ∙ elim (cases_eq n (number_after w.leaves system)) [
      | inl is ↦ ap (generation_at (Rattle.generations.proofs.SetLaws.u system w).leaves) is ∙ named_there system w number named ∙ sym (at_number system w.leaves n is)
      | inr other ↦ others_there system w number n other ∙ sym (at_other system w.leaves n other)
    ]
  ]

  ended_at : (u : WorldState) → seen u ≡ seen ended → (n : ℕ) → generation_at u.leaves n ≡ generation_after system w.leaves n
  ended_at u is n = generation_seen u ended n is ∙ profile_keeps n (number_after w.leaves system) linked ∙ linked_at n

  linked_profile : (u : WorldState) → seen u ≡ seen ended → get u.leaves profile ≡ Some (Link (link_name (number_after w.leaves system)))
  linked_profile u is = seen_at u ended is profile (apart_ne _ _ profile_apart) ∙ at_same linked.leaves profile (Link (link_name (number_after w.leaves system)))

current_of : (n : ℕ) → is_number n ≡ true → current_for n ≡ Some n
current_of n is = ap (λ b. cond b (Some n) None) (lt-ltb n (2 ^ 32) (below_bound n is))

pub same_number : (u : Leaves) (n k : ℕ) → n < 2 ^ 64 → get u profile ≡ Some (Link (link_name n)) → IsCurrent u k → k ≡ n
same_number u n k small linked is =
    one_link k n (small_number k (stands_at_number u k is.stands)) small (link_text _ _ (sym is.linked ∙ linked))

pub gens_after_set : (system : Name) (w u : WorldState) → IsSystemPath system → has_number w.leaves system ≡ true → seen u ≡ set_end system w → IsGensOf u.leaves (gens_after system w.leaves)
gens_after_set system w u names further is =
    let named = NamesSystem-with_slash system names in
    let n = number_after w.leaves system in
    let number = number_is w.leaves system further in
    let at = generation_after system w.leaves in
    let there = ended_at system w named number u is in
    let link = linked_profile system w named number u is in
    let here : IsCurrent u.leaves n = record { linked = link; stands = ap is_some (there n ∙ at_number system w.leaves n refl) } in
    subst (IsGensOf u.leaves) (sym (gens_after_is system w.leaves)) (record {
      rising = below_rising at (2 ^ 32);
      exact = λ k. elim (cases_lt k (2 ^ 32)) [
        | inl below ↦ below_at at (2 ^ 32) k below ∙ sym (there k)
        | inr beyond ↦ beyond_at at (2 ^ 32) k beyond ∙ sym (no_number u.leaves k beyond)
      ];
      current = subst (λ o. IfSome o (IsCurrent u.leaves)) (sym (current_of n number)) here;
      only_current = λ k current. current_of n number ∙ ap Some (sym (same_number u.leaves n k (number_small w.leaves system) link current));
    })

-- The generations after a set are such as a boot menu has.

pub gens_after_rising : (system : Name) (leaves : Leaves) → IsStrictlySortedBy nat_cmp (map (λ (gen : Gen). gen.number) (gens_after system leaves).list)
gens_after_rising system leaves =
    subst (λ l. IsStrictlySortedBy nat_cmp (map (λ (gen : Gen). gen.number) l)) (sym (list_after_is system leaves)) (below_rising (generation_after system leaves) (2 ^ 32))

pub gens_after_numbers : (system : Name) (leaves : Leaves) → AllByRecursion (λ (gen : Gen). is_number gen.number ≡ true) (gens_after system leaves).list
gens_after_numbers system leaves =
    subst (AllByRecursion (λ (gen : Gen). is_number gen.number ≡ true)) (sym (list_after_is system leaves))
    (all_below (λ (gen : Gen). is_number gen.number ≡ true) (generation_after system leaves) (2 ^ 32) each)
  where
    each : (n : ℕ) (target : Option Name) → n < 2 ^ 32 → generation_after system leaves n ≡ Some target → is_number n ≡ true
    each n target below is = elim (cases_eq n (number_after leaves system)) [
      | inl same ↦ subst (λ k. is_number k ≡ true) (sym same) (number_is leaves system (subst (λ k. nat_lt k (2 ^ 32) ≡ true) same (lt-ltb n (2 ^ 32) below)))
      | inr other ↦ stands_at_number leaves n (ap is_some (sym (at_other system leaves n other) ∙ is))
    ]

-- a target that is read names a system
named_target : (leaf : LeafKind) → IfSome (target_of leaf) IsSystemPath
named_target (File bytes mode uid gid) = tt
named_target (Link text) = either (system_fault text) refl
  where
    either : (o : Option NameFault) → system_fault text ≡ o → IfSome (cond (is_none o) (Some (system_path text)) None) IsSystemPath
    either None is = IsSystemPath-from_named text is
    either (Some fault) is = tt

pub named_at : (leaves : Leaves) (n : ℕ) (target : Option Name) → generation_at leaves n ≡ Some target → IfSome target IsSystemPath
named_at leaves n target is = either (is_number n) (get leaves (link_path n)) is
  where
    either : (b : Bool) (o : Option LeafKind) → cond b (option_map target_of o) None ≡ Some target → IfSome target IsSystemPath
    either true (Some leaf) is = subst (λ t. IfSome t IsSystemPath) (let e : target_of leaf ≡ target = cc in e) (named_target leaf)
    either true None is = absurd (cc)
    either false o is = absurd (cc)

pub gens_after_systems : (system : Name) (leaves : Leaves) → IsSystemPath system → AllByRecursion (λ (gen : Gen). IfSome gen.target IsSystemPath) (gens_after system leaves).list
gens_after_systems system leaves names =
    subst (AllByRecursion (λ (gen : Gen). IfSome gen.target IsSystemPath)) (sym (list_after_is system leaves))
    (all_below (λ (gen : Gen). IfSome gen.target IsSystemPath) (generation_after system leaves) (2 ^ 32) each)
  where
    own : (target : Option Name) → Some (Some system) ≡ Some target → Some system ≡ target
    own target e = cc

    each : (n : ℕ) (target : Option Name) → n < 2 ^ 32 → generation_after system leaves n ≡ Some target → IfSome target IsSystemPath
    each n target below is = elim (cases_eq n (number_after leaves system)) [
      | inl same ↦ subst (λ t. IfSome t IsSystemPath) (let e : Some system ≡ target = own target (sym (at_number system leaves n same) ∙ is) in e) names
      | inr other ↦ named_at leaves n target (sym (at_other system leaves n other) ∙ is)
    ]

-- The list of the generations of a world after a set.

pub listed_small : (leaves : Leaves) (gens : Gens) → IsGensOf leaves gens → (n : ℕ) → 2 ^ 32 ≤ n → listed_at gens.list n ≡ None
listed_small leaves gens is n beyond = is.exact n ∙ no_number leaves n beyond

-- where the highest generation names the system, the list stays
after_kept : (leaves : Leaves) (gens : Gens) (system : Name) → IsGensOf leaves gens → is_kept leaves system ≡ true → gens.list ≡ gens_below (generation_after system leaves) (2 ^ 32)
after_kept leaves gens system is kept =
    list_is_below gens.list (generation_after system leaves) (2 ^ 32) is.rising (λ n below. is.exact n ∙ at n) (listed_small leaves gens is)
  where
    at : (n : ℕ) → generation_at leaves n ≡ generation_after system leaves n
    at n = elim (cases_eq n (number_after leaves system)) [
      | inl same ↦ ap (generation_at leaves) (same ∙ top_of leaves system kept) ∙ of_system _ system kept ∙ sym (at_number system leaves n same)
      | inr other ↦ sym (at_other system leaves n other)
    ]

-- where no further number is left, it stays too
after_full : (leaves : Leaves) (gens : Gens) (system : Name) → IsGensOf leaves gens → has_number leaves system ≡ false → gens.list ≡ gens_below (generation_after system leaves) (2 ^ 32)
after_full leaves gens system is full =
    list_is_below gens.list (generation_after system leaves) (2 ^ 32) is.rising
    (λ n below. is.exact n ∙ sym (at_other system leaves n (λ same. both_ways _ full (lt-ltb (number_after leaves system) (2 ^ 32) (subst (λ k. k < 2 ^ 32) same below)))))
    (listed_small leaves gens is)

-- else the list has one generation more, above the others
module _ (leaves : Leaves) (gens : Gens) (system : Name) (is : IsGensOf leaves gens) (new : is_kept leaves system ≡ false) (further : has_number leaves system ≡ true) where
  none_from : (k : ℕ) → number_after leaves system ≤ k → listed_at gens.list k ≡ None
  none_from k from = let next = next_of leaves system new in is.exact k ∙ above_highest leaves k (omega arith)

  more_at : (n : ℕ) → option_or (listed_at gens.list n) (listed_at (gen_of (number_after leaves system) (Some system) ∷ []) n) ≡ generation_after system leaves n
  more_at n = elim (cases_eq n (number_after leaves system)) [
    | inl same ↦
        ap (λ o. option_or o (listed_at (gen_of (number_after leaves system) (Some system) ∷ []) n)) (none_from n (omega arith))
        ∙ ap (listed_at (gen_of (number_after leaves system) (Some system) ∷ [])) same
        ∙ listed_here (number_after leaves system) (Some (Some system)) ∙ sym (at_number system leaves n same)
    | inr other ↦
        ap (option_or (listed_at gens.list n)) (listed_elsewhere (number_after leaves system) n (Some (Some system)) (λ same. other (sym same)))
        ∙ none_after (listed_at gens.list n) ∙ is.exact n ∙ sym (at_other system leaves n other)
  ]

  small : number_after leaves system < 2 ^ 32
  small = below_bound (number_after leaves system) (number_is leaves system further)

  after_new : gens.list ++ gen_of (number_after leaves system) (Some system) ∷ [] ≡ gens_below (generation_after system leaves) (2 ^ 32)
  after_new =
      list_is_below (gens.list ++ gen_of (number_after leaves system) (Some system) ∷ []) (generation_after system leaves) (2 ^ 32)
      (rising_more gens.list (number_after leaves system) (Some system) (all_lower (number_after leaves system) gens.list none_from) is.rising)
      (λ n below. listed_joined gens.list (gen_of (number_after leaves system) (Some system) ∷ []) n ∙ more_at n)
      (λ n beyond. listed_joined gens.list (gen_of (number_after leaves system) (Some system) ∷ []) n ∙ more_at n
      ∙ at_other system leaves n (λ same. absurd (let least = small in omega arith)) ∙ no_number leaves n beyond)

given_none : (b : Bool) (n : ℕ) → None ≡ cond b (Some n) None → b ≡ false
given_none true n e = absurd (cc)
given_none false n e = refl

given_some : (b : Bool) (n k : ℕ) → Some k ≡ cond b (Some n) None → (b ≡ true) × (k ≡ n)
given_some true n k e = (refl, cc)
given_some false n k e = absurd (cc)

-- the generations after a set that finds no number
pub after_of_none : (leaves : Leaves) (gens : Gens) (system : Name) → IsGensOf leaves gens → number_for_in gens.list system ≡ None → gens_with gens.list None ≡ gens_after system leaves
after_of_none leaves gens system is none =
    let full = given_none (has_number leaves system) (number_after leaves system) (sym none ∙ number_for_world leaves gens system is) in
    ap (λ l. gens_with l None) (after_full leaves gens system is full)
    ∙ sym (ap (λ b. gens_with (gens_below (generation_after system leaves) (2 ^ 32)) (cond b (Some (number_after leaves system)) None)) full)
    ∙ sym (gens_after_is system leaves)

-- and after one that finds this
pub after_of_some : (leaves : Leaves) (gens : Gens) (system : Name) (n : ℕ) (list : List Gen) → IsGensOf leaves gens → number_for_in gens.list system ≡ Some n → list ≡ cond (is_highest_of gens.list system) gens.list (gens.list ++ gen_of n (Some system) ∷ []) →
    gens_with list (Some n) ≡ gens_after system leaves
after_of_some leaves gens system n list is given made =
    let found = given_some (has_number leaves system) (number_after leaves system) n (sym given ∙ number_for_world leaves gens system is) in
    ap (λ l. gens_with l (Some n)) (made ∙ ap (λ b. cond b gens.list (gens.list ++ gen_of n (Some system) ∷ [])) (highest_of_world leaves gens system is)
    ∙ ap (λ k. cond (is_kept leaves system) gens.list (gens.list ++ gen_of k (Some system) ∷ [])) found.1 ∙ either found.0 (cases_Bool (is_kept leaves system)))
    ∙ ap (λ o. gens_with (gens_below (generation_after system leaves) (2 ^ 32)) o) (ap Some found.1 ∙ sym (ap (λ b. cond b (Some (number_after leaves system)) None) found.0))
    ∙ sym (gens_after_is system leaves)
  where
    either : has_number leaves system ≡ true → (is_kept leaves system ≡ true) ⊎ (is_kept leaves system ≡ false) →
        cond (is_kept leaves system) gens.list (gens.list ++ gen_of (number_after leaves system) (Some system) ∷ []) ≡ gens_below (generation_after system leaves) (2 ^ 32)
    either further (inl kept) = ap (λ b. cond b gens.list (gens.list ++ gen_of (number_after leaves system) (Some system) ∷ [])) kept ∙ after_kept leaves gens system is kept
    either further (inr new) = ap (λ b. cond b gens.list (gens.list ++ gen_of (number_after leaves system) (Some system) ∷ [])) new ∙ after_new leaves gens system is new further
