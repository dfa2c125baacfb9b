-- A file of the boot menu that is too long at a moment of a collection was so before.
use Rattle.std.proofs.Common.{◌≡◌, ◌==◌, ℕ, true, false, cond, List, [], ◌∷◌, find, Option, None, Some, option_map, sym, ap, subst, ◌∙◌, inl, inr, arith}
use Rattle.std.proofs.lemmas.Bool.{cases_Bool, or_cases}
use Rattle.std.specs.List.{AllByRecursion, flat_map}
use Rattle.std.specs.List.Sorted.{IsStrictlySortedBy}
use Rattle.std.specs.Option.{option_map_or}
use Rattle.std.specs.Ordering.{nat_cmp}
use Rattle.std.specs.declared.cmp.Ordering.TheVariants.{Less}
use Rattle.generations.specs.declared.gens.Gen.{Gen}
use Rattle.generations.specs.declared.gens.Gens.{Gens}
use Rattle.generations.specs.Gens.{IsGensOf, listed_at}
use Rattle.generations.specs.Places.{generation_at}
use Rattle.generations.proofs.BelowLemmas.{first_at}
use Rattle.host_trait.specs.World.{Leaves, WorldState, content_of}
use Rattle.host_trait.proofs.NameOrder.{name_exact}
use Rattle.leaf_limits.specs.Limits.{AreWithin, IsFirstTooLong}
use Rattle.leaf_limits.proofs.LongLemmas.{first_again}
use Rattle.switch_names.specs.Names.{Name, has, is_name}
use Rattle.tree_put.specs.First.{first_in_the_way}
use Rattle.boot_entries.specs.BootPart.{boot_places}
use Rattle.boot_entries.specs.Entries.{params_path, version_path}
use Rattle.boot_entries.specs.Sources.{files_of, sources_of, taken_of}
use Rattle.boot_entries.proofs.AtEndLemmas.{absent}
use Rattle.store_live.specs.StorePaths.{is_at}
use Rattle.store_collect.specs.declared.collection.Collection.{Collection}
use Rattle.store_collect.specs.Collection.{AreShortFor, IsCollectionOf, IsRefusedAt, IsTooLongFor}
use Rattle.store_collect.specs.Kept.{gens_kept}
use Rattle.store_collect.specs.Steps.{IsCollecting}
use Rattle.store_collect.proofs.AgainGens.{kept_now, kept_stands}
use Rattle.store_collect.proofs.FewerGens.{all_among}
use Rattle.store_collect.proofs.GenLists.{is_among, kept_all, numbers_of, same_number}
use Rattle.store_collect.proofs.LawLemmas.{in_both}
use Rattle.store_collect.proofs.MomentLemmas.{kept_live, params_inside, same_content}
use Rattle.store_collect.proofs.OneLemmas.{one_gens}
use Rattle.store_collect.proofs.VersionLemmas.{version_inside}

-- ---- why no collection is refused

-- of no places none is too long
pub none_before : (leaves : Leaves) → AreWithin [] leaves
none_before leaves q there = absurd cc

module _ (keep : ℕ) (leaves : Leaves) (gens : Gens) (stand : IsGensOf leaves gens) where
  pub none_long : AreWithin (taken_of (gens_kept keep gens)) leaves → AreShortFor keep leaves
  none_long within count long =
      let first = subst (λ (g : Gens). IsFirstTooLong (taken_of (gens_kept keep g)) leaves long.long) (one_gens leaves long.gens gens long.stand stand) long.first in
      absurd (omega (arith, first.count, first.past, within long.long.at first.among))

  pub none_blocked : first_in_the_way (boot_places (gens_kept keep gens).list) leaves ≡ None → (at : Name) → IsRefusedAt keep leaves at → ⊥
  none_blocked none at refused = absurd (
      let no : None ≡ Some at = sym none ∙ ap (λ (g : Gens). first_in_the_way (boot_places (gens_kept keep g).list) leaves) (one_gens leaves gens refused.gens stand refused.stand) ∙ refused.first in cc)

-- ---- each generation is listed under its number

-- what is listed behind a lower number is so with it
listed_behind : (gen : Gen) (list : List Gen) (n : ℕ) (target : Option Name) → AllByRecursion (λ m. nat_cmp gen.number m ≡ Less) (numbers_of list) → listed_at list n ≡ Some target → listed_at (gen ∷ list) n ≡ Some target
listed_behind gen list n target higher is = elim (cases_Bool (gen.number == n)) [
  | inl here ↦
      let none = absent list n (subst (λ k. AllByRecursion (λ m. nat_cmp k m ≡ Less) (numbers_of list)) (same_number gen.number n here) higher) in
      absurd (let no : None ≡ Some target = sym none.0 ∙ is in cc)
  | inr away ↦ ap (λ b. option_map (λ (g : Gen). g.target) (cond b (Some gen) (find (λ (g : Gen). g.number == n) list))) away ∙ is
]

all_gens : (P Q : Gen → Type 0) → ((gen : Gen) → P gen → Q gen) → (list : List Gen) → AllByRecursion P list → AllByRecursion Q list
all_gens P Q then [] all = tt
all_gens P Q then (gen ∷ list) all = (then gen all.0, all_gens P Q then list all.1)

each_listed : (list : List Gen) → IsStrictlySortedBy nat_cmp (numbers_of list) → AllByRecursion (λ (gen : Gen). listed_at list gen.number ≡ Some gen.target) list
unfolding IsStrictlySortedBy
each_listed [] rising = tt
each_listed (gen ∷ list) rising = (
  first_at gen list,
  all_gens (λ (other : Gen). listed_at list other.number ≡ Some other.target) (λ (other : Gen). listed_at (gen ∷ list) other.number ≡ Some other.target)
      (λ other. listed_behind gen list other.number other.target rising.0) list (each_listed list rising.1),
)

-- ---- at a moment

module _ (keep : ℕ) (one : Collection) (w m : WorldState) (is : IsCollectionOf keep w one) (moment : IsCollecting one w m) where
  abbrev kept : Gens
  kept = gens_kept keep is.gens

  -- what stands below the system of a generation that is kept has the same content
  same_below : (n : ℕ) → is_among n kept.list ≡ true → (system q : Name) → generation_at w.leaves n ≡ Some (Some system) → is_at system q ≡ true → content_of m.leaves q ≡ content_of w.leaves q
  same_below n among system q stands at =
      let live = kept_live keep one w is n system (kept_stands keep one w m is moment n among).0 stands in
      same_content keep one w m is moment system live.0 live.1 q at

  -- so have the files that its entry is made of
  same_sources : (gen : Gen) → is_among gen.number kept.list ≡ true → generation_at w.leaves gen.number ≡ Some gen.target → (q : Name) → has (sources_of gen) q ≡ true → content_of m.leaves q ≡ content_of w.leaves q
  same_sources gen among stands q there = by gen.target stands there
    where
      by : (target : Option Name) → generation_at w.leaves gen.number ≡ Some target → has (option_map_or files_of target []) q ≡ true → content_of m.leaves q ≡ content_of w.leaves q
      by None stands there = absurd cc
      by (Some system) stands there = elim (or_cases (is_name q (version_path system)) (has (params_path system ∷ []) q) there) [
        | inl version ↦ same_below gen.number among system q stands (subst (λ p. is_at system p ≡ true) (sym (name_exact q (version_path system) version)) (version_inside system))
        | inr more ↦ elim (or_cases (is_name q (params_path system)) false more) [
          | inl params ↦ same_below gen.number among system q stands (subst (λ p. is_at system p ≡ true) (sym (name_exact q (params_path system) params)) (params_inside system))
          | inr none ↦ absurd cc
        ]
      ]

  abbrev Stands : Gen → Type 0
  Stands gen = generation_at w.leaves gen.number ≡ Some gen.target

  stand : AllByRecursion Stands kept.list
  stand = kept_all keep is.gens Stands
      (all_gens (λ (gen : Gen). listed_at is.gens.list gen.number ≡ Some gen.target) Stands (λ gen listed. sym (is.stand.exact gen.number) ∙ listed) is.gens.list (each_listed is.gens.list is.stand.rising))

  same_taken : (list : List Gen) → AllByRecursion (λ (gen : Gen). is_among gen.number kept.list ≡ true) list → AllByRecursion Stands list → (q : Name) → has (flat_map sources_of list) q ≡ true →
      content_of m.leaves q ≡ content_of w.leaves q
  same_taken [] among stand q there = absurd cc
  same_taken (gen ∷ list) among stand q there = elim (in_both (sources_of gen) (flat_map sources_of list) q there) [
    | inl here ↦ same_sources gen among.0 stand.0 q here
    | inr later ↦ same_taken list among.1 stand.1 q later
  ]

  pub long_before : (count : ℕ) → IsTooLongFor keep m.leaves count → IsTooLongFor keep w.leaves count
  long_before count long = record {
    gens = is.gens;
    stand = is.stand;
    long = long.long;
    first = first_again (taken_of kept) m.leaves w.leaves long.long (same_taken kept.list (all_among (λ n. is_among n kept.list ≡ true) kept.list (λ n among. among)) stand)
        (subst (λ (gens : Gens). IsFirstTooLong (taken_of gens) m.leaves long.long) (kept_now keep one w m is moment long.gens long.stand) long.first);
    is_count = long.is_count;
  }
