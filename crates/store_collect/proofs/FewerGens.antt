-- Generations of which some that aren't kept are gone: those that are kept, and the links that go, are the same.
use Rattle.std.proofs.Common.{◌≡◌, ℕ, ◌-◌, ◌<◌, ◌≤◌, ◌==◌, ◌||◌, not, Bool, true, false, cond, List, [], ◌∷◌, ◌++◌, length, take, drop, filter, map, Option, None, Some, IsSome, option_map, refl, sym, ap, ap₂, ◌∙◌, inl, inr, arith, length-append}
use Rattle.std.proofs.lemmas.Bool.{both_ways, cases_lt, or_cases, or_left, or_right}
use Rattle.std.proofs.lemmas.List.{length-drop}
use Rattle.std.proofs.lemmas.List.Elements.{filter-append}
use Rattle.std.specs.List.{AllByRecursion, find}
use Rattle.generations.specs.declared.gens.Gen.{Gen}
use Rattle.generations.specs.declared.gens.Gens.{Gens}
use Rattle.generations.specs.Gens.{listed_at}
use Rattle.generations.specs.Places.{link_path}
use Rattle.host_trait.proofs.NameOrder.{name_exact}
use Rattle.switch_names.specs.Names.{Name, has, is_name}
use Rattle.store_collect.specs.Kept.{gens_kept, is_current_of, links_gone, older}
use Rattle.store_collect.proofs.GenLists.{is_among, itself_number, last_of, same_number, whole}

-- ---- lists of generations

pub among_found : (list : List Gen) (n : ℕ) → is_among n list ≡ true → IsSome (listed_at list n)
among_found [] n is = absurd cc
among_found (gen ∷ list) n is = by (gen.number == n) is (among_found list n)
  where
    by : (b : Bool) → (b || is_among n list) ≡ true → (is_among n list ≡ true → IsSome (listed_at list n)) → IsSome (option_map (λ (g : Gen). g.target) (cond b (Some gen) (find (λ (g : Gen). g.number == n) list)))
    by true is rest = refl
    by false is rest = rest is

-- the target of a number in a list, given whether its first generation has it
abbrev target_by : Gen → ℕ → Bool → List Gen → Option (Option Name)
target_by gen n b others = option_map (λ (g : Gen). g.target) (cond b (Some gen) (find (λ (g : Gen). g.number == n) others))

abbrev passing : (ℕ → Bool) → List Gen → List Gen
passing test list = filter (λ (g : Gen). test g.number) list

-- the links of some generations
abbrev link_of : List Gen → List Name
link_of gens = map (λ (g : Gen). link_path g.number) gens

nothing : (b : Bool) → cond {A = Option (Option Name)} b None None ≡ None
nothing true = refl
nothing false = refl

-- where a number passes a test, it has the same target among those whose numbers pass
pub listed_passing : (test : ℕ → Bool) (list : List Gen) (n : ℕ) → listed_at (filter (λ (gen : Gen). test gen.number) list) n ≡ cond (test n) (listed_at list n) None
listed_passing test [] n = sym (nothing (test n))
listed_passing test (gen ∷ list) n = by (test gen.number) refl (gen.number == n) refl (listed_passing test list n)
  where
    by : (b : Bool) → test gen.number ≡ b → (c : Bool) → (gen.number == n) ≡ c → listed_at (passing test list) n ≡ cond (test n) (listed_at list n) None →
        listed_at (cond b (gen ∷ passing test list) (passing test list)) n ≡ cond (test n) (target_by gen n c list) None
    by true is true same more = ap (λ d. target_by gen n d (passing test list)) same ∙ sym (ap (λ d. cond d (Some gen.target) None) (sym (ap test (same_number gen.number n same)) ∙ is))
    by true is false other more = ap (λ d. target_by gen n d (passing test list)) other ∙ more
    by false is true same more =
        let fails : test n ≡ false = sym (ap test (same_number gen.number n same)) ∙ is in
        more ∙ ap (λ d. cond d (listed_at list n) None) fails ∙ sym (ap (λ d. cond d (Some gen.target) None) fails)
    by false is false other more = more

-- what holds of each number of a list holds all along it
pub all_among : (P : ℕ → Type 0) (list : List Gen) → ((n : ℕ) → is_among n list ≡ true → P n) → AllByRecursion (λ (gen : Gen). P gen.number) list
all_among P [] each = tt
all_among P (gen ∷ list) each =
    (each gen.number (or_left (gen.number == gen.number) (is_among gen.number list) (itself_number gen.number)), all_among P list (λ n among. each n (or_right (gen.number == n) (is_among n list) among)))

filter_all : (passes : Gen → Bool) (list : List Gen) → AllByRecursion (λ (gen : Gen). passes gen ≡ true) list → filter passes list ≡ list
filter_all passes [] all = refl
filter_all passes (gen ∷ list) all = ap (λ b. cond b (gen ∷ filter passes list) (filter passes list)) all.0 ∙ ap (λ (l : List Gen). gen ∷ l) (filter_all passes list all.1)

module _ (one other : Gen → Bool) where
  -- those that pass one test, of those that pass another which each of them passes
  filter_both : (list : List Gen) → AllByRecursion (λ (gen : Gen). other gen ≡ true → one gen ≡ true) list → filter other (filter one list) ≡ filter other list
  filter_both [] all = refl
  filter_both (gen ∷ list) all = by (one gen) refl (other gen) refl (filter_both list all.1)
    where
      by : (b : Bool) → one gen ≡ b → (c : Bool) → other gen ≡ c → filter other (filter one list) ≡ filter other list →
          filter other (cond b (gen ∷ filter one list) (filter one list)) ≡ cond c (gen ∷ filter other list) (filter other list)
      by true is c same rest = ap (λ d. cond d (gen ∷ filter other (filter one list)) (filter other (filter one list))) same ∙ ap (λ (l : List Gen). cond c (gen ∷ l) l) rest
      by false is true same rest = absurd (both_ways _ is (all.0 same))
      by false is false same rest = rest

  linked_of : (at : Name) (list : List Gen) → has (map (λ (gen : Gen). link_path gen.number) (filter other (filter one list))) at ≡ true → has (map (λ (gen : Gen). link_path gen.number) (filter other list)) at ≡ true
  linked_of at [] there = there
  linked_of at (gen ∷ list) there = by (one gen) (other gen) refl there (linked_of at list)
    where
      by : (b c : Bool) → other gen ≡ c → has (link_of (filter other (cond b (gen ∷ filter one list) (filter one list)))) at ≡ true →
          (has (link_of (filter other (filter one list))) at ≡ true → has (link_of (filter other list)) at ≡ true) → has (link_of (cond c (gen ∷ filter other list) (filter other list))) at ≡ true
      by true true same there rest = elim (or_cases (is_name at (link_path gen.number)) (has (link_of (filter other (filter one list))) at)
          (sym (ap (λ d. has (link_of (cond d (gen ∷ filter other (filter one list)) (filter other (filter one list)))) at) same) ∙ there)) [
            | inl here ↦ or_left (is_name at (link_path gen.number)) (has (link_of (filter other list)) at) here
            | inr later ↦ or_right (is_name at (link_path gen.number)) (has (link_of (filter other list)) at) (rest later)
          ]
      by true false same there rest = rest (sym (ap (λ d. has (link_of (cond d (gen ∷ filter other (filter one list)) (filter other (filter one list)))) at) same) ∙ there)
      by false true same there rest = or_right (is_name at (link_path gen.number)) (has (link_of (filter other list)) at) (rest there)
      by false false same there rest = rest there

  linked_still : (at : Name) (list : List Gen) → AllByRecursion (λ (gen : Gen). at ≡ link_path gen.number → one gen ≡ true) list →
      has (map (λ (gen : Gen). link_path gen.number) (filter other list)) at ≡ true → has (map (λ (gen : Gen). link_path gen.number) (filter other (filter one list))) at ≡ true
  linked_still at [] all there = there
  linked_still at (gen ∷ list) all there = by (one gen) refl (other gen) refl there (linked_still at list all.1)
    where
      by : (b : Bool) → one gen ≡ b → (c : Bool) → other gen ≡ c → has (link_of (cond c (gen ∷ filter other list) (filter other list))) at ≡ true →
          (has (link_of (filter other list)) at ≡ true → has (link_of (filter other (filter one list))) at ≡ true) → has (link_of (filter other (cond b (gen ∷ filter one list) (filter one list)))) at ≡ true
      by true is true same there rest = ap (λ d. has (link_of (cond d (gen ∷ filter other (filter one list)) (filter other (filter one list)))) at) same
          ∙ elim (or_cases (is_name at (link_path gen.number)) (has (link_of (filter other list)) at) there) [
            | inl here ↦ or_left (is_name at (link_path gen.number)) (has (link_of (filter other (filter one list))) at) here
            | inr later ↦ or_right (is_name at (link_path gen.number)) (has (link_of (filter other (filter one list))) at) (rest later)
          ]
      by true is false same there rest = ap (λ d. has (link_of (cond d (gen ∷ filter other (filter one list)) (filter other (filter one list)))) at) same ∙ rest there
      by false is true same there rest = elim (or_cases (is_name at (link_path gen.number)) (has (link_of (filter other list)) at) there) [
        | inl here ↦ absurd (both_ways _ is (all.0 (name_exact at (link_path gen.number) here)))
        | inr later ↦ rest later
      ]
      by false is false same there rest = rest there

take_front : (one other : List Gen) → take (length one) (one ++ other) ≡ one
take_front [] other = refl
take_front (gen ∷ one) other = ap (λ (l : List Gen). gen ∷ l) (take_front one other)

drop_front : (one other : List Gen) → drop (length one) (one ++ other) ≡ other
drop_front [] other = refl
drop_front (gen ∷ one) other = drop_front one other

-- ---- those that are kept

module _
    (keep : ℕ) (gens : Gens) (stays : Gen → Bool) (last_stays : AllByRecursion (λ (gen : Gen). stays gen ≡ true) (last_of keep gens))
    (current_stays : AllByRecursion (λ (gen : Gen). is_current_of gens gen ≡ true → stays gen ≡ true) (older keep gens)) where
  -- those that stay
  abbrev pub fewer : Gens
  fewer = record { list = filter stays gens.list; current = gens.current }

  abbrev first : List Gen
  first = filter stays (older keep gens)

  split : fewer.list ≡ first ++ last_of keep gens
  split = ap (filter stays) (sym (whole keep gens)) ∙ filter-append stays (older keep gens) (last_of keep gens) ∙ ap (λ (l : List Gen). first ++ l) (filter_all stays (last_of keep gens) last_stays)

  many : keep ≤ length gens.list → length (first ++ last_of keep gens) - keep ≡ length first
  many enough = omega (arith, enough, length-append first (last_of keep gens), length-drop (length gens.list - keep) gens.list)

  few : length gens.list < keep → length (first ++ last_of keep gens) - keep ≡ length first
  few less =
      let none : length gens.list - keep ≡ 0 = omega (arith, less) in
      let nobody : length first ≡ 0 = ap (λ k. length (filter stays (take k gens.list))) none in
      omega (arith, less, nobody, length-append first (last_of keep gens), length-drop (length gens.list - keep) gens.list)

  count : length fewer.list - keep ≡ length first
  count = ap (λ (l : List Gen). length l - keep) split ∙ elim (cases_lt (length gens.list) keep) [
    | inl less ↦ few (omega (arith, less))
    | inr over ↦ many (omega (arith, over))
  ]

  older_now : older keep fewer ≡ first
  older_now = ap₂ (λ k (l : List Gen). take k l) count split ∙ take_front first (last_of keep gens)

  last_now : last_of keep fewer ≡ last_of keep gens
  last_now = ap₂ (λ k (l : List Gen). drop k l) count split ∙ drop_front first (last_of keep gens)

  pub kept_same : gens_kept keep fewer ≡ gens_kept keep gens
  kept_same =
      let list : filter (is_current_of gens) (older keep fewer) ++ last_of keep fewer ≡ filter (is_current_of gens) (older keep gens) ++ last_of keep gens =
      ap₂ (λ (a b : List Gen). filter (is_current_of gens) a ++ b) older_now last_now ∙ ap (λ (a : List Gen). a ++ last_of keep gens) (filter_both stays (is_current_of gens) (older keep gens) current_stays) in
      λ i. record { list = list i; current = gens.current }

  links_now : links_gone keep fewer ≡ map (λ (gen : Gen). link_path gen.number) (filter (λ (gen : Gen). not (is_current_of gens gen)) first)
  links_now = ap (λ (l : List Gen). map (λ (gen : Gen). link_path gen.number) (filter (λ (gen : Gen). not (is_current_of gens gen)) l)) older_now

  pub link_was : (at : Name) → has (links_gone keep fewer) at ≡ true → has (links_gone keep gens) at ≡ true
  link_was at there = linked_of stays (λ gen. not (is_current_of gens gen)) at (older keep gens) (ap (λ l. has l at) (sym links_now) ∙ there)

  pub link_still : (at : Name) → AllByRecursion (λ (gen : Gen). at ≡ link_path gen.number → stays gen ≡ true) (older keep gens) → has (links_gone keep gens) at ≡ true → has (links_gone keep fewer) at ≡ true
  link_still at all there = ap (λ l. has l at) links_now ∙ linked_still stays (λ gen. not (is_current_of gens gen)) at (older keep gens) all there
