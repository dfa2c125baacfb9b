-- The last moment of making the boot menu leaves each of its places at its end.
use Rattle.std.proofs.Common.{◌≡◌, ◌≢◌, ℕ, zero, suc, ◌<◌, ◌^◌, ◌&&◌, ◌||◌, ◌==◌, not, Bool, true, false, cond, List, [], ◌∷◌, ◌++◌, map, Option, None, Some, is_some, option_map, refl, sym, ap, subst, ◌∙◌, inl, inr, arith}
use Rattle.std.proofs.lemmas.Bool.{both_ways, cases_Bool}
use Rattle.std.specs.Cmp.Lexicographic.{nat_list_eq_equiv, same_text}
use Rattle.std.specs.FinMap.{get}
use Rattle.std.specs.List.{AllByRecursion, find, list_any}
use Rattle.std.specs.List.Sorted.{IsStrictlySortedBy}
use Rattle.std.specs.Option.{option_map_or, option_or}
use Rattle.std.specs.Ordering.{nat_cmp}
use Rattle.std.specs.Prelude.{option_to_list, option_and_then}
use Rattle.std.specs.declared.cmp.Ordering.TheVariants.{Less}
use Rattle.generations.specs.declared.gens.Gen.{Gen}
use Rattle.generations.specs.declared.gens.Gens.{Gens}
use Rattle.generations.specs.Gens.{listed_at}
use Rattle.host_trait.specs.Leaf.{open_file}
use Rattle.host_trait.specs.declared.leaf.LeafKind.{LeafKind}
use Rattle.host_trait.specs.World.{Leaves, WorldState, is_listed, is_path, stage}
use Rattle.host_trait.proofs.Places.{itself, same_or_other}
use Rattle.host_trait.proofs.Seen.{seen_at}
use Rattle.switch_names.specs.Names.{Name}
use Rattle.boot_entries.specs.declared.boot_texts.BootFile.{BootFile}
use Rattle.boot_entries.specs.declared.boot_texts.BootTexts.{BootTexts}
use Rattle.boot_entries.specs.BootPart.{boot_end, entry_end, loader_end, system_at}
use Rattle.boot_entries.specs.Entries.{loader_text}
use Rattle.boot_entries.specs.Laws.{BootEndLaw, IsGenList}
use Rattle.boot_entries.specs.Places.{entries_folder, entry_path, loader_path, number_below, numbered, owns_boot}
use Rattle.tree_put.specs.Sequence.{without_places}
use Rattle.boot_entries.specs.Steps.{AreEntries, IsBootSet, boot_files, boot_put}
use Rattle.boot_entries.proofs.PutLemmas.{IsBootPlace, with_files}
use Rattle.boot_entries.specs.Texts.{boot_file, entries_of, entry_of, has_target, menu_of}
use Rattle.tree_put.proofs.LeftLemmas.{gone_at, left_at, left_by}
use Rattle.boot_entries.proofs.EndLemmas.{AreOthers, eqb, in_gone, left_files, left_others, none_gone, numbered_entry, only_end}
use Rattle.boot_entries.proofs.NumberLemmas.{bears_numbered, one_entry}
use Rattle.boot_entries.proofs.PutLemmas.{entry_parent, place_apart}
use Rattle.generations.proofs.Numbers.{below_bound}
use Rattle.generations.specs.Places.{is_number}
use Rattle.tree_put.proofs.PutLemmas.{apart_ne}

-- ---- paths and their numbers

number_is : (bound : ℕ) (q : Name) (n : ℕ) → number_below bound q ≡ Some n → (q ≡ entry_path n) × (n < bound)
unfolding number_below
number_is zero q n is = absurd (cc)
number_is (suc k) q n is = elim (cases_Bool (is_path q (entry_path k))) [
  | inl here ↦
      let one : Some k ≡ Some n = sym (ap (λ b. cond b (Some k) (number_below k q)) here) ∙ is in
      let same : k ≡ n = cc in
      (same_text q (entry_path k) (sym here) ∙ ap entry_path same, omega (arith, same))
  | inr away ↦
      let below = number_is k q n (sym (ap (λ b. cond b (Some k) (number_below k q)) away) ∙ is) in (below.0, omega (arith, below.1))
]

pub numbered_is : (q : Name) (n : ℕ) → numbered q ≡ Some n → (q ≡ entry_path n) × (n < 2 ^ 32)
unfolding numbered
numbered_is q n is = number_is (2 ^ 32) q n is

pub loader_not_entry : (n : ℕ) → loader_path ≢ entry_path n
unfolding loader_path entry_path
loader_not_entry n same = both_ways (is_path loader_path (entry_path n)) refl (subst (λ x. is_path loader_path x ≡ true) same (nat_list_eq_equiv.refl loader_path))

pub loader_unnumbered : numbered loader_path ≡ None
loader_unnumbered = sym (bears_numbered loader_path None (λ n small same. loader_not_entry n same))

not_equal : (q p : Name) → q ≢ p → eqb q p ≡ false
not_equal q p ne = elim (same_or_other q p) [
  | inl same ↦ absurd (ne same)
  | inr other ↦ other
]

pub entry_not_loader : (n : ℕ) → is_path (entry_path n) loader_path ≡ false
unfolding loader_path entry_path
entry_not_loader n = refl

entry_not_stage : (n : ℕ) → is_path (entry_path n) stage ≡ false
unfolding stage entry_path
entry_not_stage n = refl

listed_entry : (n : ℕ) → n < 2 ^ 32 → is_listed entries_folder (entry_path n) ≡ true
listed_entry n small =
    ap (λ b. (is_path (entry_path n) entries_folder || b) && not (is_path (entry_path n) stage)) (entry_parent n small).below
    ∙ ap (λ b. (is_path (entry_path n) entries_folder || true) && not b) (entry_not_stage n) ∙ either (is_path (entry_path n) entries_folder)
  where
    either : (b : Bool) → ((b || true) && true) ≡ true
    either true = refl
    either false = refl

-- ---- a list of generations whose numbers rise

pub absent : (list : List Gen) (n : ℕ) → AllByRecursion (λ m. nat_cmp n m ≡ Less) (map (λ (gen : Gen). gen.number) list) → (listed_at list n ≡ None) × (has_target list n ≡ false)
absent [] n higher = (refl, refl)
absent (gen ∷ list) n higher =
    let other : (gen.number == n) ≡ false = different gen.number n higher.0 in
    let rest = absent list n higher.1 in (
      ap (λ b. option_map (λ (g : Gen). g.target) (cond b (Some gen) (find (λ (g : Gen). g.number == n) list))) other ∙ rest.0,
      ap (λ b. (b && is_some gen.target) || has_target list n) other ∙ rest.1,
    )
  where
    different : (m k : ℕ) → nat_cmp k m ≡ Less → (m == k) ≡ false
    different m k less = grind arith

-- what puts of entries leave at a number's entry, and whether a number has a system
pub record IsEntryLeft (leaves : Leaves) (list : List Gen) (n : ℕ) : Type 0 where
  pub left : (old : Option LeafKind) → left_files (entries_of leaves list) (entry_path n) old ≡ option_or (entry_end list leaves n) old
  pub target : has_target list n ≡ is_some (system_at list n)

abbrev gen_of : ℕ → Option Name → Gen
gen_of k target = record { number = k; target = target }

-- what is left, given whether the first generation has the number
abbrev end_by : Leaves → ℕ → Gen → List Gen → Bool → Option LeafKind → Option LeafKind
end_by leaves n gen list b old =
    option_or (option_map (λ (system : Name). open_file (entry_of leaves n system).bytes) (option_and_then (λ (target : Option Name). target) (option_map (λ (g : Gen). g.target) (cond b (Some gen) (find (λ (g : Gen). g.number == n) list))))) old

eq_self : (n : ℕ) → (n == n) ≡ true
eq_self n = grind arith

eq_same : (k n : ℕ) → (k == n) ≡ true → k ≡ n
eq_same k n is = grind arith

ne_other : (k n : ℕ) → (k == n) ≡ false → n ≢ k
ne_other k n is same = both_ways _ is (subst (λ j. (k == j) ≡ true) (sym same) (eq_self k))

module _ (leaves : Leaves) (n : ℕ) (small : n < 2 ^ 32) where
  first_left : (target : Option Name) (list : List Gen) → AllByRecursion (λ m. nat_cmp n m ≡ Less) (map (λ (gen : Gen). gen.number) list) → IsEntryLeft leaves list n → IsEntryLeft leaves (gen_of n target ∷ list) n
  unfolding left_by
  first_left None list higher rest = record {
    left = λ old.
        rest.left old
        ∙ ap (λ o. option_or (option_map (λ (system : Name). open_file (entry_of leaves n system).bytes) (option_and_then (λ (target : Option Name). target) o)) old) (absent list n higher).0
        ∙ sym (ap (λ b. end_by leaves n (gen_of n None) list b old) (eq_self n));
    target =
        ap (λ b. (b && false) || has_target list n) (eq_self n) ∙ (absent list n higher).1
        ∙ sym (ap (λ b. is_some (option_and_then (λ (target : Option Name). target) (option_map (λ (g : Gen). g.target) (cond b (Some (gen_of n None)) (find (λ (g : Gen). g.number == n) list))))) (eq_self n));
  }
  first_left (Some system) list higher rest = record {
    left = λ old.
        ap (λ b. left_files (entries_of leaves list) (entry_path n) (cond b (Some (open_file (entry_of leaves n system).bytes)) old)) (itself (entry_path n))
        ∙ rest.left (Some (open_file (entry_of leaves n system).bytes))
        ∙ ap (λ o. option_or (option_map (λ (s : Name). open_file (entry_of leaves n s).bytes) (option_and_then (λ (target : Option Name). target) o)) (Some (open_file (entry_of leaves n system).bytes))) (absent list n higher).0
        ∙ sym (ap (λ b. end_by leaves n (gen_of n (Some system)) list b old) (eq_self n));
    target =
        ap (λ b. (b && true) || has_target list n) (eq_self n)
        ∙ sym (ap (λ b. is_some (option_and_then (λ (target : Option Name). target) (option_map (λ (g : Gen). g.target) (cond b (Some (gen_of n (Some system))) (find (λ (g : Gen). g.number == n) list))))) (eq_self n));
  }

  other_left : (k : ℕ) (target : Option Name) (list : List Gen) → (k == n) ≡ false → k < 2 ^ 32 → IsEntryLeft leaves list n → IsEntryLeft leaves (gen_of k target ∷ list) n
  unfolding left_by
  other_left k None list other also rest = record {
    left = λ old. rest.left old ∙ sym (ap (λ b. end_by leaves n (gen_of k None) list b old) other);
    target =
        ap (λ b. (b && false) || has_target list n) other ∙ rest.target
        ∙ sym (ap (λ b. is_some (option_and_then (λ (target : Option Name). target) (option_map (λ (g : Gen). g.target) (cond b (Some (gen_of k None)) (find (λ (g : Gen). g.number == n) list))))) other);
  }
  other_left k (Some system) list other also rest = record {
    left = λ old.
        ap (λ b. left_files (entries_of leaves list) (entry_path n) (cond b (Some (open_file (entry_of leaves k system).bytes)) old))
        (not_equal (entry_path n) (entry_path k) (λ same. ne_other k n other (one_entry n k small also same)))
        ∙ rest.left old ∙ sym (ap (λ b. end_by leaves n (gen_of k (Some system)) list b old) other);
    target =
        ap (λ b. (b && true) || has_target list n) other ∙ rest.target
        ∙ sym (ap (λ b. is_some (option_and_then (λ (target : Option Name). target) (option_map (λ (g : Gen). g.target) (cond b (Some (gen_of k (Some system))) (find (λ (g : Gen). g.number == n) list))))) other);
  }

  pub entries_left : (list : List Gen) → IsStrictlySortedBy nat_cmp (map (λ (gen : Gen). gen.number) list) → AllByRecursion (λ (gen : Gen). is_number gen.number ≡ true) list → IsEntryLeft leaves list n
  unfolding left_by IsStrictlySortedBy
  entries_left [] sorted numbers = record { left = λ old. refl; target = refl }
  entries_left (gen ∷ list) sorted numbers = elim (cases_Bool (gen.number == n)) [
    | inl here ↦
        let one : gen.number ≡ n = eq_same gen.number n here in
        subst (λ k. IsEntryLeft leaves (gen_of k gen.target ∷ list) n) (sym one)
        (first_left gen.target list (subst (λ k. AllByRecursion (λ m. nat_cmp k m ≡ Less) (map (λ (g : Gen). g.number) list)) one sorted.0) (entries_left list sorted.1 numbers.1))
    | inr other ↦ other_left gen.number gen.target list other (below_bound gen.number numbers.0) (entries_left list sorted.1 numbers.1)
  ]

-- ---- the end

pub left_on : (xs ys : List BootFile) (q : Name) (old : Option LeafKind) → left_files (xs ++ ys) q old ≡ left_files ys q (left_files xs q old)
unfolding left_by
left_on [] ys q old = refl
left_on (x ∷ xs) ys q old = left_on xs ys q (cond (eqb q x.at) (Some (open_file x.bytes)) old)

abbrev pub last_file : Option (List ℕ) → List BootFile
last_file loader = option_to_list (option_map (boot_file loader_path) loader)

pub last_elsewhere : (loader : Option (List ℕ)) (n : ℕ) → AreOthers (entry_path n) (last_file loader)
last_elsewhere None n = tt
last_elsewhere (Some text) n = (not_equal (entry_path n) loader_path (λ same. loader_not_entry n (sym same)), tt)

pub entries_elsewhere : (files : List BootFile) → AreEntries files → AreOthers loader_path files
entries_elsewhere [] are = tt
entries_elsewhere (file ∷ files) are = (not_equal loader_path file.at (λ same. loader_not_entry are.0.0 (same ∙ are.0.2)), entries_elsewhere files are.1)

last_left : (current : Option ℕ) (leaves : Leaves) → left_files (last_file (option_map loader_text current)) loader_path (get leaves loader_path) ≡ loader_end current leaves
unfolding left_by
last_left None leaves = refl
last_left (Some n) leaves = ap (λ b. cond b (Some (open_file (loader_text n))) (get leaves loader_path)) (itself loader_path)

chosen : (f : Name → LeafKind) (system : Option Name) (old : Option LeafKind) → cond (not (is_some system) && is_some old) None (option_or (option_map f system) old) ≡ option_map f system
chosen f None None = refl
chosen f None (Some leaf) = refl
chosen f (Some system) old = refl

module _ (gens : Gens) (texts : BootTexts) (w v : WorldState) (list : IsGenList gens.list) (are : AreEntries texts.entries) (planned : texts ≡ menu_of gens w.leaves) (is : IsBootSet texts w v) where
  stands : (q : Name) → IsBootPlace q → get v.leaves q ≡ cond (list_any (eqb q) texts.gone) None (left_files (last_file texts.loader) q (left_files texts.entries q (get w.leaves q)))
  stands q place =
      seen_at v (without_places texts.gone (with_files (boot_files texts) w)) is q (apart_ne q stage (place_apart q place))
      ∙ gone_at texts.gone (with_files (boot_files texts) w) q
      ∙ ap (λ o. cond (list_any (eqb q) texts.gone) None o) (left_at (map boot_put (boot_files texts)) w q ∙ left_on texts.entries (last_file texts.loader) q (get w.leaves q))

  entry_stands : (n : ℕ) → n < 2 ^ 32 → get v.leaves (entry_path n) ≡ boot_end gens w.leaves (entry_path n)
  entry_stands n small =
      let left = entries_left w.leaves n small gens.list list.rising list.numbers in
      let old = get w.leaves (entry_path n) in
      let gone : list_any (eqb (entry_path n)) texts.gone ≡ (not (is_some (system_at gens.list n)) && is_some old) =
      ap (λ (names : List Name). list_any (eqb (entry_path n)) names) (ap (λ (t : BootTexts). t.gone) planned) ∙ in_gone w.leaves gens.list (entry_path n)
      ∙ ap (λ o. not (option_map_or (has_target gens.list) o true) && (is_listed entries_folder (entry_path n) && is_some old)) (numbered_entry n small)
      ∙ ap (λ b. not (has_target gens.list n) && (b && is_some old)) (listed_entry n small)
      ∙ ap (λ b. not b && is_some old) left.target in
      stands (entry_path n) (inr (n, small, refl))
      ∙ ap (λ o. cond (list_any (eqb (entry_path n)) texts.gone) None o) (
      left_others (last_file texts.loader) (entry_path n) (left_files texts.entries (entry_path n) old) (last_elsewhere texts.loader n)
      ∙ ap (λ (files : List BootFile). left_files files (entry_path n) old) (ap (λ (t : BootTexts). t.entries) planned) ∙ left.left old)
      ∙ ap (λ b. cond b None (option_or (entry_end gens.list w.leaves n) old)) gone
      ∙ chosen (λ (system : Name). open_file (entry_of w.leaves n system).bytes) (system_at gens.list n) old
      ∙ sym (
      ap (λ b. cond b (loader_end gens.current w.leaves) (option_map_or (entry_end gens.list w.leaves) (numbered (entry_path n)) old)) (entry_not_loader n)
      ∙ ap (λ o. option_map_or (entry_end gens.list w.leaves) o old) (numbered_entry n small))

  loader_stands : get v.leaves loader_path ≡ boot_end gens w.leaves loader_path
  loader_stands =
      let gone : list_any (eqb loader_path) texts.gone ≡ false =
      ap (λ (names : List Name). list_any (eqb loader_path) names) (ap (λ (t : BootTexts). t.gone) planned) ∙ none_gone w.leaves gens.list loader_path loader_unnumbered in
      stands loader_path (inl refl)
      ∙ ap (λ b. cond b None (left_files (last_file texts.loader) loader_path (left_files texts.entries loader_path (get w.leaves loader_path)))) gone
      ∙ ap (left_files (last_file texts.loader) loader_path) (left_others texts.entries loader_path (get w.leaves loader_path) (entries_elsewhere texts.entries are))
      ∙ ap (λ loader. left_files (last_file loader) loader_path (get w.leaves loader_path)) (ap (λ (t : BootTexts). t.loader) planned) ∙ last_left gens.current w.leaves
      ∙ sym (ap (λ b. cond b (loader_end gens.current w.leaves) (option_map_or (entry_end gens.list w.leaves) (numbered loader_path) (get w.leaves loader_path))) (nat_list_eq_equiv.refl loader_path))

  numbered_stands : (q : Name) (o : Option ℕ) → numbered q ≡ o → is_some o ≡ true → get v.leaves q ≡ boot_end gens w.leaves q
  numbered_stands q None number some = absurd (both_ways _ refl some)
  numbered_stands q (Some n) number some = let entry = numbered_is q n number in subst (λ x. get v.leaves x ≡ boot_end gens w.leaves x) (sym entry.0) (entry_stands n entry.1)

  pub at_end : (q : Name) → owns_boot q ≡ true → get v.leaves q ≡ boot_end gens w.leaves q
  at_end q own = elim (cases_Bool (is_path q loader_path)) [
    | inl here ↦ subst (λ x. get v.leaves x ≡ boot_end gens w.leaves x) (sym (same_text q loader_path (sym here))) loader_stands
    | inr away ↦ numbered_stands q (numbered q) refl (sym (ap (λ b. b || is_some (numbered q)) away) ∙ own)
  ]

pub end_law : BootEndLaw
end_law gens texts w v list are planned is = (at_end gens texts w v list are planned is, only_end gens texts w are planned v is)
