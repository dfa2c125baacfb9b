-- The last of a list of generations, and lists with one more at their end.
use Rattle.std.proofs.Common.{◌≡◌, ◌+◌, ◌<◌, ℕ, Bool, true, false, cond, ◌&&◌, nat_lt, List, [], ◌∷◌, ◌++◌, length, take, drop, get_or, Some, None, refl, sym, ap, ◌∙◌}
use Rattle.std.proofs.lemmas.List.{append-nil, take-append-drop, take_more}
use Rattle.std.proofs.lemmas.List.Elements.{filter-append}
use Rattle.std.specs.List.{filter}
use Rattle.std.specs.Option.{is_some, option_map, option_or}
use Rattle.std.specs.Prelude.{◌-◌, Option, slice_get, if◌then◌else◌, ◌^◌}
use Rattle.generations.specs.declared.gens.Gen.{Gen}
use Rattle.generations.proofs.BelowLemmas.{first_at, listed_joined, rest_at}
use Rattle.generations.specs.Gens.{is_highest_of, last_number, listed_at, number_for_in, number_from, previous_in}
use Rattle.generations.specs.Places.{is_of}

last_of_more : (list : List Gen) (gen : Gen) → last_number (list ++ gen ∷ []) ≡ Some gen.number
last_of_more [] gen = refl
last_of_more (one ∷ []) gen = refl
last_of_more (one ∷ two ∷ rest) gen = last_of_more (two ∷ rest) gen

-- the last number of a list and a choice of one more
last_and_chosen : (list : List Gen) (gen : Gen) (chosen : Bool) → last_number (list ++ cond chosen (gen ∷ []) []) ≡ cond chosen (Some gen.number) (last_number list)
last_and_chosen list gen true = last_of_more list gen
last_and_chosen list gen false = ap last_number (append-nil list)

last_filtered : (p : Gen → Bool) (list : List Gen) (gen : Gen) → last_number (filter p (list ++ gen ∷ [])) ≡ cond (p gen) (Some gen.number) (last_number (filter p list))
last_filtered p list gen = ap last_number (filter-append p list (gen ∷ [])) ∙ last_and_chosen (filter p list) gen (p gen)

module _ (list : List Gen) (i current : ℕ) (gen : Gen) (within : i < length list) (is : gen ≡ get_or list i gen) where
  previous_more : previous_in (take (i + 1) list) (Some current) ≡ cond (nat_lt gen.number current && is_some gen.target) (Some gen.number) (previous_in (take i list) (Some current))
  previous_more =
      ap (λ l. previous_in l (Some current)) (take_more list i gen within ∙ ap (λ g. take i list ++ g ∷ []) (sym is))
      ∙ last_filtered (λ g. nat_lt g.number current && is_some g.target) (take i list) gen

  -- one generation more is the previous one where it may be
  pub previous_chosen : (nat_lt gen.number current && is_some gen.target) ≡ true → previous_in (take (i + 1) list) (Some current) ≡ Some gen.number
  previous_chosen may = previous_more ∙ ap (λ b. cond b (Some gen.number) (previous_in (take i list) (Some current))) may

  -- and else it leaves the previous one as it is
  pub previous_passed : (nat_lt gen.number current && is_some gen.target) ≡ false → previous_in (take (i + 1) list) (Some current) ≡ previous_in (take i list) (Some current)
  previous_passed may = previous_more ∙ ap (λ b. cond b (Some gen.number) (previous_in (take i list) (Some current))) may

module _ (list slice : List Gen) (last : Option Gen) (system : List ℕ) (is : last ≡ slice_get slice (length slice - 1)) (same : slice ≡ list) where
  last_of_list : last ≡ slice_get list (length list - 1)
  last_of_list = is ∙ ap (λ (l : List Gen). slice_get l (length l - 1)) same

  -- what the last generation of a list says of a system
  pub highest_is : is_of (option_map (λ gen. gen.target) last) system ≡ is_highest_of list system
  highest_is = ap (λ (o : Option Gen). is_of (option_map (λ gen. gen.target) o) system) last_of_list

  pub number_is : number_from last system ≡ number_for_in list system
  number_is = ap (λ o. number_from o system) last_of_list

-- the highest generation keeps its number where it names the system
pub number_kept : (gen : Gen) (system : List ℕ) → is_of (Some gen.target) system ≡ true → Some gen.number ≡ number_from (Some gen) system
number_kept gen system names =
    sym (ap (λ b. if b then Some gen.number else (if nat_lt (gen.number + 1) (2 ^ 32) then Some (gen.number + 1) else None)) names)

-- the generation of a number, where none before it has that
module _ (list : List Gen) (i n : ℕ) (gen : Gen) (within : i < length list) (is : gen ≡ get_or list i gen) (before : listed_at (take i list) n ≡ None) where
  listed_more : listed_at (take (i + 1) list) n ≡ listed_at (gen ∷ []) n
  listed_more =
      ap (λ l. listed_at l n) (take_more list i gen within ∙ ap (λ g. take i list ++ g ∷ []) (sym is))
      ∙ listed_joined (take i list) (gen ∷ []) n ∙ ap (λ o. option_or o (listed_at (gen ∷ []) n)) before

  pub listed_found : gen.number ≡ n → listed_at list n ≡ Some gen.target
  listed_found same =
      ap (λ l. listed_at l n) (sym (take-append-drop (i + 1) list)) ∙ listed_joined (take (i + 1) list) (drop (i + 1) list) n
      ∙ ap (λ o. option_or o (listed_at (drop (i + 1) list) n)) (listed_more ∙ ap (λ k. listed_at (gen ∷ []) k) (sym same) ∙ first_at gen [])

  pub listed_passed : (gen.number ≡ n → ⊥) → listed_at (take (i + 1) list) n ≡ None
  listed_passed other = listed_more ∙ rest_at gen [] n other
