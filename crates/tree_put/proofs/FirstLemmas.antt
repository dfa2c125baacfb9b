-- The first place in the way, by what is least.
use Rattle.std.proofs.Common.{◌≡◌, ◌↔◌, ◌++◌, ◌<◌, ◌≤◌, ◌-◌, ℕ, suc, arith, drop, get_or, length, true, false, cond, List, [], ◌∷◌, Option, None, Some, option_map, refl, sym, ap, subst, ◌∙◌, inl, inr, ⊎_elim}
use Rattle.std.proofs.lemmas.Bool.{cases_Bool, both_ways}
use Rattle.std.proofs.lemmas.Option.{none-some}
use Rattle.std.proofs.Math.Seq.{drop-cons}
use Rattle.std.proofs.lemmas.List.{drop_all}
use Rattle.std.specs.List.{find}
use Rattle.std.specs.Ordering.{is_lt, ordering_reverse}
use Rattle.std.specs.Cmp.{tied_itself}
use Rattle.std.specs.declared.cmp.Ordering.{Ordering}
use Rattle.std.specs.declared.cmp.Ordering.TheVariants.{Less, Equal, Greater}
use Rattle.host_trait.specs.World.{Leaves, bytes_cmp}
use Rattle.host_trait.proofs.Places.{bytes_exact, bytes_total}
use Rattle.switch_names.specs.Names.{Name}
use Rattle.tree_put.specs.declared.written_place.WrittenPlace.{WrittenPlace}
use Rattle.tree_put.specs.WrittenPlace.{in_the_way, is_in_the_way}
use Rattle.tree_put.specs.First.{AreSamePlaces, AreSorted, IsAmong, first_in_the_way, is_less, lesser}

-- ---- the order

less_is : (one other : Name) → is_less one other ≡ true → bytes_cmp one other ≡ Less
less_is one other is = elim (bytes_cmp one other) as (λ (o : Ordering). is_lt o ≡ true → o ≡ Less) [ Less ↦ λ is. refl | Equal ↦ λ is. absurd cc | Greater ↦ λ is. absurd cc ] is

-- a name is none of those before it
not_itself : (name : Name) → is_less name name ≡ false
not_itself name = ap is_lt (tied_itself bytes_total name)

-- what isn't less than a name isn't less than one before that
not_less : (one mid other : Name) → is_less one mid ≡ true → is_less other mid ≡ false → is_less other one ≡ false
not_less one mid other less not = elim (cases_Bool (is_less other one)) [
  | inl is ↦ absurd (both_ways (is_less other mid) not (ap is_lt (bytes_total.trans other one mid (less_is other one is) (less_is one mid less))))
  | inr none ↦ none
]

-- two names are in one of three ways
back_of : (one other : Name) → bytes_cmp one other ≡ ordering_reverse (bytes_cmp other one)
back_of one other = bytes_total.antisymm one other

level : (one other : Name) → is_less one other ≡ false → is_less other one ≡ false → bytes_cmp one other ≡ Equal
level one other not also = by (bytes_cmp one other) (bytes_cmp other one) (back_of one other) not also
  where
    by : (o p : Ordering) → o ≡ ordering_reverse p → is_lt o ≡ false → is_lt p ≡ false → o ≡ Equal
    by Less p back not also = absurd cc
    by Equal p back not also = refl
    by Greater Less back not also = absurd cc
    by Greater Equal back not also = absurd cc
    by Greater Greater back not also = absurd cc

-- not being less goes on
between : (a b c : Name) → is_less a b ≡ false → is_less b c ≡ false → is_less a c ≡ false
between a b c one two = elim (cases_Bool (is_less a c)) [
  | inl less ↦ elim (cases_Bool (is_less c b)) [
    | inl under ↦ absurd (both_ways (is_less a b) one (ap is_lt (bytes_total.trans a c b (less_is a c less) (less_is c b under))))
    | inr not ↦ let same = bytes_exact b c (level b c two not) in absurd (both_ways (is_less a b) one (subst (λ n. is_less a n ≡ true) (sym same) less))
  ]
  | inr none ↦ none
]

-- ---- the least that is in the way

-- this name is that of a place in the way, and no place in the way stands before it
record IsFirst (leaves : Leaves) (places : List WrittenPlace) (at : Name) : Type 0 where
  place : WrittenPlace
  among : IsAmong place places
  here : is_in_the_way leaves place ≡ true
  named : place.at ≡ at
  least : (other : WrittenPlace) → IsAmong other places → is_in_the_way leaves other ≡ true → is_less other.at at ≡ false

-- no place is in the way
abbrev AreAllFree : Leaves → List WrittenPlace → Type 0
AreAllFree leaves places = (other : WrittenPlace) → IsAmong other places → is_in_the_way leaves other ≡ false

-- what is said of the first place in the way
abbrev IsSaid : Leaves → List WrittenPlace → Option Name → Type 0
IsSaid leaves places None = AreAllFree leaves places
IsSaid leaves places (Some at) = IsFirst leaves places at

said : (leaves : Leaves) (places : List WrittenPlace) → IsSaid leaves places (first_in_the_way places leaves)
said leaves [] = λ other among. absurd among
said leaves (place ∷ places) = elim (cases_Bool (is_in_the_way leaves place)) [
  | inl here ↦ subst (IsSaid leaves (place ∷ places)) (sym (ap (λ b. cond b (Some (lesser place.at (first_in_the_way places leaves))) (first_in_the_way places leaves)) here)) (with here (first_in_the_way places leaves) (said leaves places))
  | inr free ↦ subst (IsSaid leaves (place ∷ places)) (sym (ap (λ b. cond b (Some (lesser place.at (first_in_the_way places leaves))) (first_in_the_way places leaves)) free)) (without free (first_in_the_way places leaves) (said leaves places))
]
  where
    without : is_in_the_way leaves place ≡ false → (o : Option Name) → IsSaid leaves places o → IsSaid leaves (place ∷ places) o
    without free None all = λ other among. ⊎_elim (λ same. subst (λ (p : WrittenPlace). is_in_the_way leaves p ≡ false) (sym same) free) (all other) among
    without free (Some at) is = record {
      place = is.place;
      among = inr is.among;
      here = is.here;
      named = is.named;
      least = λ other among way. ⊎_elim (λ same. absurd (both_ways (is_in_the_way leaves place) free (subst (λ (p : WrittenPlace). is_in_the_way leaves p ≡ true) same way))) (λ later. is.least other later way) among;
    }

    with : is_in_the_way leaves place ≡ true → (o : Option Name) → IsSaid leaves places o → IsFirst leaves (place ∷ places) (lesser place.at o)
    with here None all = record {
      place = place;
      among = inl refl;
      here = here;
      named = refl;
      least = λ other among way. ⊎_elim (λ same. subst (λ (p : WrittenPlace). is_less p.at place.at ≡ false) (sym same) (not_itself place.at)) (λ later. absurd (both_ways (is_in_the_way leaves other) (all other later) way)) among;
    }
    with here (Some at) is = elim (cases_Bool (is_less at place.at)) [
      | inl less ↦ subst (IsFirst leaves (place ∷ places)) (sym (ap (λ b. cond b at place.at) less)) (record {
        place = is.place;
        among = inr is.among;
        here = is.here;
        named = is.named;
        least = λ other among way. ⊎_elim (λ same. subst (λ (p : WrittenPlace). is_less p.at at ≡ false) (sym same) (not_less at place.at place.at less (not_itself place.at))) (λ later. is.least other later way) among;
      })
      | inr not ↦ subst (IsFirst leaves (place ∷ places)) (sym (ap (λ b. cond b at place.at) not)) (record {
        place = place;
        among = inl refl;
        here = here;
        named = refl;
        least = λ other among way. ⊎_elim (λ same. subst (λ (p : WrittenPlace). is_less p.at place.at ≡ false) (sym same) (not_itself place.at)) (λ later. kept other (is.least other later way) not) among;
      })
    ]
      where
        kept : (other : WrittenPlace) → is_less other.at at ≡ false → is_less at place.at ≡ false → is_less other.at place.at ≡ false
        kept other one two = between other.at at place.at one two

-- ---- sorted places

-- of sorted places the first in the way is the first of the list
pub of_sorted : (places : List WrittenPlace) (leaves : Leaves) → AreSorted places → first_in_the_way places leaves ≡ in_the_way places leaves
of_sorted [] leaves sorted = refl
of_sorted (place ∷ places) leaves sorted = elim (cases_Bool (is_in_the_way leaves place)) [
  | inl here ↦
      ap (λ b. cond b (Some (lesser place.at (first_in_the_way places leaves))) (first_in_the_way places leaves)) here
      ∙ ap Some (least (first_in_the_way places leaves) (said leaves places))
      ∙ sym (ap (λ b. option_map (λ (p : WrittenPlace). p.at) (cond b (Some place) (find (is_in_the_way leaves) places))) here)
  | inr free ↦
      ap (λ b. cond b (Some (lesser place.at (first_in_the_way places leaves))) (first_in_the_way places leaves)) free
      ∙ of_sorted places leaves sorted.1
      ∙ sym (ap (λ b. option_map (λ (p : WrittenPlace). p.at) (cond b (Some place) (find (is_in_the_way leaves) places))) free)
]
  where
    least : (o : Option Name) → IsSaid leaves places o → lesser place.at o ≡ place.at
    least None all = refl
    least (Some at) is = ap (λ b. cond b at place.at) (subst (λ n. is_less n place.at ≡ false) is.named (sorted.0 is.place is.among))

-- ---- the same places in another order

-- of two names of which neither is less than the other
one_name : (a b : Name) → is_less a b ≡ false → is_less b a ≡ false → a ≡ b
one_name a b not also = bytes_exact a b (level a b not also)

same_said : (leaves : Leaves) (one other : List WrittenPlace) → AreSamePlaces one other → (o p : Option Name) → IsSaid leaves one o → IsSaid leaves other p → o ≡ p
same_said leaves one other same None None all none = refl
same_said leaves one other same None (Some at) all is = absurd (both_ways (is_in_the_way leaves is.place) (all is.place ((same is.place).1 is.among)) is.here)
same_said leaves one other same (Some at) None is none = absurd (both_ways (is_in_the_way leaves is.place) (none is.place ((same is.place).0 is.among)) is.here)
same_said leaves one other same (Some at) (Some it) is also = ap Some (one_name at it
    (subst (λ n. is_less n it ≡ false) is.named (also.least is.place ((same is.place).0 is.among) is.here))
    (subst (λ n. is_less n at ≡ false) also.named (is.least also.place ((same also.place).1 also.among) also.here)))

pub same_places : (one other : List WrittenPlace) (leaves : Leaves) → AreSamePlaces one other → first_in_the_way one leaves ≡ first_in_the_way other leaves
same_places one other leaves same = same_said leaves one other same (first_in_the_way one leaves) (first_in_the_way other leaves) (said leaves one) (said leaves other)

-- ---- two lists

pub none_of_both : (one other : List WrittenPlace) (leaves : Leaves) → (first_in_the_way (one ++ other) leaves ≡ None) ↔ ((first_in_the_way one leaves ≡ None) × (first_in_the_way other leaves ≡ None))
none_of_both [] other leaves = (λ none. (refl, none), λ both. both.1)
none_of_both (place ∷ places) other leaves = elim (is_in_the_way leaves place) as (λ b.
    (cond b (Some (lesser place.at (first_in_the_way (places ++ other) leaves))) (first_in_the_way (places ++ other) leaves) ≡ None)
    ↔ ((cond b (Some (lesser place.at (first_in_the_way places leaves))) (first_in_the_way places leaves) ≡ None) × (first_in_the_way other leaves ≡ None))) [
      | true ↦ (λ none. absurd (none-some _ (sym none)), λ both. absurd (none-some _ (sym both.0)))
      | false ↦ none_of_both places other leaves
    ]

-- ---- one place more

pub none_after : (places : List WrittenPlace) (leaves : Leaves) → first_in_the_way (drop (length places) places) leaves ≡ None
none_after places leaves = ap (λ (ps : List WrittenPlace). first_in_the_way ps leaves) (drop_all (length places) places (omega arith))

-- the places from one on begin with it
one_at : (places : List WrittenPlace) (leaves : Leaves) (j : ℕ) (place : WrittenPlace) → j < length places → place ≡ get_or places j place →
    first_in_the_way (drop j places) leaves ≡ cond (is_in_the_way leaves place) (Some (lesser place.at (first_in_the_way (drop (suc j) places) leaves))) (first_in_the_way (drop (suc j) places) leaves)
one_at places leaves j place within is = ap (λ (ps : List WrittenPlace). first_in_the_way ps leaves) (drop-cons places j place within ∙ ap (λ p. p ∷ drop (suc j) places) (sym is))

pub one_before : (places : List WrittenPlace) (leaves : Leaves) (k : ℕ) (place : WrittenPlace) → 0 < k → k ≤ length places → place ≡ get_or places (k - 1) place →
    first_in_the_way (drop (k - 1) places) leaves ≡ cond (is_in_the_way leaves place) (Some (lesser place.at (first_in_the_way (drop k places) leaves))) (first_in_the_way (drop k places) leaves)
one_before places leaves k place above inside is =
    let next : suc (k - 1) ≡ k = omega arith in
    subst (λ n. first_in_the_way (drop (k - 1) places) leaves ≡ cond (is_in_the_way leaves place) (Some (lesser place.at (first_in_the_way (drop n places) leaves))) (first_in_the_way (drop n places) leaves)) next
    (one_at places leaves (k - 1) place (omega arith) is)

-- ---- none

pub none_as_listed : (places : List WrittenPlace) (leaves : Leaves) → (first_in_the_way places leaves ≡ None) ↔ (in_the_way places leaves ≡ None)
none_as_listed [] leaves = (λ is. refl, λ is. refl)
none_as_listed (place ∷ places) leaves = elim (is_in_the_way leaves place) as (λ b.
    (cond b (Some (lesser place.at (first_in_the_way places leaves))) (first_in_the_way places leaves) ≡ None)
    ↔ (option_map (λ (p : WrittenPlace). p.at) (cond b (Some place) (find (is_in_the_way leaves) places)) ≡ None)) [
      | true ↦ (λ none. absurd (none-some _ (sym none)), λ none. absurd (none-some _ (sym none)))
      | false ↦ none_as_listed places leaves
    ]
