-- A set that was cut and is made again ends as one that wasn't cut.
use Rattle.std.proofs.Common.{◌≡◌, ◌≢◌, ◌⊎◌, ◌↔◌, ℕ, zero, suc, ◌+◌, ◌^◌, ◌<◌, ◌≤◌, Bool, true, false, cond, ◌&&◌, nat_lt, nat_eq, List, ◌∷◌, Option, None, Some, IsSome, is_some, option_map, refl, sym, ap, subst, ◌∙◌, inl, inr, ⊎_elim, arith, rules}
use Rattle.std.proofs.lemmas.Bool.{cases_Bool, cases_order, both_ways}
use Rattle.std.specs.Cmp.Lexicographic.{nat_list_eq_equiv}
use Rattle.std.specs.FinMap.{get}
use Rattle.switch_names.specs.Path.{slash}
use Rattle.switch_names.specs.SystemName.{NamesSystem, system_path}
use Rattle.host_trait.specs.declared.leaf.LeafKind.{LeafKind}
use Rattle.host_trait.specs.declared.leaf.LeafKind.TheVariants.{Link}
use Rattle.host_trait.specs.World.{Leaves, WorldState, seen, with_leaf}
use Rattle.host_trait.proofs.Places.{at_same}
use Rattle.host_trait.proofs.Seen.{seen_at, seen_with_leaf, same_leaf, other_of}
use Rattle.host_trait.proofs.Sound.{get_other}
use Rattle.tree_put.proofs.PutLemmas.{apart_ne}
use Rattle.generations.specs.Places.{generation_at, greatest_below, highest, is_number, is_of, link_name, link_path, link_target, number_after, profile, set_end, target_of, with_generation, with_profile}
use Rattle.generations.specs.Set.{IsSetMoment}
use Rattle.generations.proofs.Apart.{link_apart, link_profile, one_link_path}
use Rattle.generations.proofs.Numbers.{highest_is, highest_same, stands_at_number, below_bound, small_number}
use Rattle.generations.proofs.SetLemmas.{kept_generation, new_generation}

stands : (n : ℕ) (o : Option LeafKind) → Option (Option (List ℕ))
stands n o = cond (is_number n) (option_map target_of o) None

pub generation_of : (m n : Leaves) (k : ℕ) → get m (link_path k) ≡ get n (link_path k) → generation_at m k ≡ generation_at n k
generation_of m n k same = ap (λ o. cond (is_number k) (option_map target_of o) None) same

-- worlds that are equal but for the stage have the same generations
pub generation_seen : (m w : WorldState) (k : ℕ) → seen m ≡ seen w → generation_at m.leaves k ≡ generation_at w.leaves k
generation_seen m w k is = generation_of m.leaves w.leaves k (seen_at m w is (link_path k) (apart_ne _ _ (link_apart k)))

pub number_same : (m n : Leaves) (system : List ℕ) → ((k : ℕ) → generation_at m k ≡ generation_at n k) → number_after m system ≡ number_after n system
number_same m n system same =
    let top = highest_same m n same in
    ap (λ o. cond (is_of o system) (highest m) (highest m + 1)) (same (highest m))
    ∙ ap (λ h. cond (is_of (generation_at n h) system) h (h + 1)) top

pub highest_of_same : (m n : Leaves) (system : List ℕ) → ((k : ℕ) → generation_at m k ≡ generation_at n k) → is_of (generation_at m (highest m)) system ≡ is_of (generation_at n (highest n)) system
highest_of_same m n system same = ap (λ o. is_of o system) (same (highest m) ∙ ap (generation_at n) (highest_same m n same))

pub number_seen : (system : List ℕ) (m w : WorldState) → seen m ≡ seen w → number_after m.leaves system ≡ number_after w.leaves system
number_seen system m w is = number_same m.leaves w.leaves system (λ k. generation_seen m w k is)

link_seen : (system : List ℕ) (n : ℕ) (m w : WorldState) → seen m ≡ seen w → seen (with_generation system n m) ≡ seen (with_generation system n w)
link_seen system n m w is =
    ap (λ b. seen (cond b m (with_leaf (link_path n) (Link (link_target system)) m))) (highest_of_same m.leaves w.leaves system (λ k. generation_seen m w k is))
    ∙ either (is_of (generation_at w.leaves (highest w.leaves)) system)
  where
    either : (b : Bool) → seen (cond b m (with_leaf (link_path n) (Link (link_target system)) m)) ≡ seen (cond b w (with_leaf (link_path n) (Link (link_target system)) w))
    either true = is
    either false = seen_with_leaf (link_path n) (Link (link_target system)) m w is

-- worlds that are equal but for the stage have the same end
pub end_seen : (system : List ℕ) (m w : WorldState) → seen m ≡ seen w → set_end system m ≡ set_end system w
end_seen system m w is =
    let n = number_after m.leaves system in
    seen_with_leaf profile (Link (link_name n)) (with_generation system n m) (with_generation system n w) (link_seen system n m w is)
    ∙ ap (λ k. seen (with_profile k (with_generation system k w))) (number_seen system m w is)

greatest_above : (test : ℕ → Bool) (bound m : ℕ) → greatest_below test bound < m → m < bound → test m ≡ false
unfolding greatest_below
greatest_above test zero m above below = absurd (omega arith)
greatest_above test (suc n) m above below =
    elim (test n) as (λ b. test n ≡ b → cond b n (greatest_below test n) < m → test m ≡ false) [
      | true ↦ λ is higher. absurd (omega arith)
      | false ↦ λ is higher. elim (cases_order m n) [
        | inl same ↦ ap test same ∙ is
        | inr (inl less) ↦ greatest_above test n m higher less
        | inr (inr more) ↦ absurd (omega arith)
      ]
    ] refl above

none_of : (o : Option (Option (List ℕ))) → is_some o ≡ false → o ≡ None
none_of None is = refl
none_of (Some x) is = absurd (both_ways true is refl)

-- no generation stands above the highest
pub above_highest : (leaves : Leaves) (m : ℕ) → highest leaves < m → generation_at leaves m ≡ None
unfolding highest
above_highest leaves m above = elim (cases_Bool (is_number m)) [
  | inl is ↦ none_of _ (greatest_above (λ n. is_some (generation_at leaves n)) (2 ^ 32) m above (below_bound m is))
  | inr is ↦ ap (λ b. cond b (option_map target_of (get leaves (link_path m))) None) is
]

itself : (system : List ℕ) → is_of (Some (Some system)) system ≡ true
itself system = nat_list_eq_equiv.refl system

-- where the generation's link is new, it is the highest one's, and names the system
module _ (system : List ℕ) (w : WorldState) where
  abbrev pub u : WorldState
  u = with_leaf (link_path (number_after w.leaves system)) (Link (link_target system)) w

  pub named_there : is_number (number_after w.leaves system) ≡ true → NamesSystem (slash ∷ system) system → generation_at u.leaves (number_after w.leaves system) ≡ Some (Some system)
  named_there number names =
      ap (λ b. cond b (option_map target_of (get u.leaves (link_path (number_after w.leaves system)))) None) number
      ∙ ap (option_map target_of) (at_same w.leaves (link_path (number_after w.leaves system)) (Link (link_target system)))
      ∙ ap (λ o. Some (cond (Rattle.std.proofs.Common.is_none o) (Some (system_path (slash ∷ system))) None)) names.no_fault
      ∙ ap (λ p. Some (Some p)) names.same

  pub others_there : is_number (number_after w.leaves system) ≡ true → (k : ℕ) → k ≢ number_after w.leaves system → generation_at u.leaves k ≡ generation_at w.leaves k
  others_there number k ne = elim (cases_Bool (is_number k)) [
    | inl is ↦ generation_of u.leaves w.leaves k
        (get_other w.leaves (link_path (number_after w.leaves system)) (link_path k) (Link (link_target system))
        (other_of _ _ (λ same. ne (one_link_path k (number_after w.leaves system) (small_number k is) (small_number _ number) same))))
    | inr is ↦ ap (λ b. cond b (option_map target_of (get u.leaves (link_path k))) None) is
        ∙ sym (ap (λ b. cond b (option_map target_of (get w.leaves (link_path k))) None) is)
  ]

-- the world with the generation's link, new or kept
linked : List ℕ → WorldState → WorldState
linked system w = with_generation system (number_after w.leaves system) w

-- what the worlds in which the generation's link is put have of it
pub record IsLinked (system : List ℕ) (w v : WorldState) : Type 0 where
  pub number : number_after v.leaves system ≡ number_after w.leaves system
  pub highest_of : is_of (generation_at v.leaves (highest v.leaves)) system ≡ true

pub next_of : (leaves : Leaves) (system : List ℕ) → is_of (generation_at leaves (highest leaves)) system ≡ false → number_after leaves system ≡ highest leaves + 1
next_of leaves system is = ap (λ b. cond b (highest leaves) (highest leaves + 1)) is

pub top_of : (leaves : Leaves) (system : List ℕ) → is_of (generation_at leaves (highest leaves)) system ≡ true → number_after leaves system ≡ highest leaves
top_of leaves system is = ap (λ b. cond b (highest leaves) (highest leaves + 1)) is

new_is_linked : (system : List ℕ) (w : WorldState) → is_of (generation_at w.leaves (highest w.leaves)) system ≡ false →
    is_number (number_after w.leaves system) ≡ true → NamesSystem (slash ∷ system) system →
    IsLinked system w (with_leaf (link_path (number_after w.leaves system)) (Link (link_target system)) w)
new_is_linked system w other number names =
    let after = u system w in
    let next = next_of w.leaves system other in
    let there = named_there system w number names in
    let top : highest after.leaves ≡ number_after w.leaves system =
    highest_is after.leaves (number_after w.leaves system) (ap is_some there)
    (λ m more. others_there system w number m (λ same. omega (arith, ap suc same)) ∙ above_highest w.leaves m (omega arith)) in
    let is : is_of (generation_at after.leaves (highest after.leaves)) system ≡ true =
    ap (λ k. is_of (generation_at after.leaves k) system) top ∙ ap (λ o. is_of o system) there ∙ itself system in
    record { number = top_of after.leaves system is ∙ top; highest_of = is }

pub linked_is : (system : List ℕ) (w : WorldState) → is_number (number_after w.leaves system) ≡ true → NamesSystem (slash ∷ system) system → IsLinked system w (with_generation system (number_after w.leaves system) w)
linked_is system w number names = elim (cases_Bool (is_of (generation_at w.leaves (highest w.leaves)) system)) [
  | inl is ↦ subst (IsLinked system w) (sym (kept_generation system (number_after w.leaves system) w is)) (record { number = refl; highest_of = is })
  | inr other ↦ subst (IsLinked system w) (sym (new_generation system (number_after w.leaves system) w other)) (new_is_linked system w other number names)
]

-- the profile's link is no generation's
pub profile_keeps : (k n : ℕ) (w : WorldState) → generation_at (with_profile n w).leaves k ≡ generation_at w.leaves k
profile_keeps k n w = generation_of (with_profile n w).leaves w.leaves k
    (get_other w.leaves profile (link_path k) (Link (link_name n)) (other_of _ _ (apart_ne _ _ (link_profile k))))

-- a world with its link put ends as it does with the profile's link put too
linked_end : (system : List ℕ) (w v : WorldState) → IsLinked system w v → set_end system v ≡ seen (with_profile (number_after w.leaves system) v)
linked_end system w v is =
    ap (λ k. seen (with_profile k (with_generation system k v))) is.number
    ∙ ap (λ x. seen (with_profile (number_after w.leaves system) x)) (kept_generation system (number_after w.leaves system) v is.highest_of)

profile_is_linked : (system : List ℕ) (w v : WorldState) (n : ℕ) → IsLinked system w v → IsLinked system w (with_profile n v)
profile_is_linked system w v n is = record {
  number = number_same (with_profile n v).leaves v.leaves system (λ k. profile_keeps k n v) ∙ is.number;
  highest_of = highest_of_same (with_profile n v).leaves v.leaves system (λ k. profile_keeps k n v) ∙ is.highest_of;
}

-- at each moment of a set the number and the end are those of its beginning
pub record KeepsSet (system : List ℕ) (w m : WorldState) : Type 0 where
  pub number : number_after m.leaves system ≡ number_after w.leaves system
  pub same_end : set_end system m ≡ set_end system w
  pub only_new : is_of (generation_at m.leaves (highest m.leaves)) system ≡ false → seen m ≡ seen w

keeps_linked : (system : List ℕ) (w m v : WorldState) → IsLinked system w v → set_end system v ≡ set_end system w → seen m ≡ seen v → KeepsSet system w m
keeps_linked system w m v is same_end same = record {
  number = number_seen system m v same ∙ is.number;
  same_end = end_seen system m v same ∙ same_end;
  only_new = λ other. absurd (both_ways _ other (highest_of_same m.leaves v.leaves system (λ k. generation_seen m v k same) ∙ is.highest_of));
}

pub moment_keeps : (system : List ℕ) (w m : WorldState) → is_number (number_after w.leaves system) ≡ true → NamesSystem (slash ∷ system) system → IsSetMoment system w m → KeepsSet system w m
moment_keeps system w m number names moment =
    let n = number_after w.leaves system in
    let v = with_generation system n w in
    let is = linked_is system w number names in
    let is_set = profile_is_linked system w v n is in
    ⊎_elim
    (λ same. record { number = number_seen system m w same; same_end = end_seen system m w same; only_new = λ other. same })
    (λ later. ⊎_elim
    (λ link. keeps_linked system w m v is (linked_end system w v is) link)
    (λ both. keeps_linked system w m (with_profile n v) is_set
    (linked_end system w (with_profile n v) is_set ∙ ap seen (same_leaf profile (Link (link_name n)) (with_profile n v) (at_same v.leaves profile (Link (link_name n))))) both)
    later)
    moment

positive : (n : ℕ) → nat_lt 0 (n + 1) ≡ true
positive n = grind arith

-- the number that a set gives is one
pub number_is : (leaves : Leaves) (system : List ℕ) → nat_lt (number_after leaves system) (2 ^ 32) ≡ true → is_number (number_after leaves system) ≡ true
number_is leaves system further = elim (cases_Bool (is_of (generation_at leaves (highest leaves)) system)) [
  | inl own ↦ subst (λ n. is_number n ≡ true) (sym (top_of leaves system own)) (stands_at_number leaves (highest leaves) (some_of (generation_at leaves (highest leaves)) own))
  | inr other ↦ subst (λ n. is_number n ≡ true) (sym (next_of leaves system other)) (next_is (highest leaves) (subst (λ n. nat_lt n (2 ^ 32) ≡ true) (next_of leaves system other) further))
]
  where
    some_of : (o : Option (Option (List ℕ))) → is_of o system ≡ true → IsSome o
    some_of None own = absurd (both_ways false refl own)
    some_of (Some target) own = refl

    next_is : (n : ℕ) → nat_lt (n + 1) (2 ^ 32) ≡ true → is_number (n + 1) ≡ true
    next_is n is = ap (λ b. b && nat_lt (n + 1) (2 ^ 32)) (positive n) ∙ is
