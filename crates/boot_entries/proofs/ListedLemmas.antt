-- The entries of a list of generations, and what puts leave.
use Rattle.std.proofs.Common.{◌≡◌, ◌⊎◌, ℕ, zero, suc, ◌==◌, ◌<◌, ◌^◌, Bool, true, false, cond, List, [], ◌∷◌, ◌++◌, map, take, Option, None, Some, option_map, refl, sym, ap, subst, ◌∙◌, inl, inr, ⊎_elim}
use Rattle.std.proofs.lemmas.Bool.{both_ways, cases_Bool, eq-eqb, eqb-true}
use Rattle.std.proofs.lemmas.Option.{none-some}
use Rattle.std.specs.List.{AllByRecursion, cons_option, find}
use Rattle.std.specs.List.Sorted.{IsStrictlySortedBy}
use Rattle.std.specs.Ordering.{nat_cmp}
use Rattle.std.specs.declared.cmp.Ordering.TheVariants.{Less}
use Rattle.generations.proofs.Numbers.{below_bound}
use Rattle.generations.specs.declared.gens.Gen.{Gen}
use Rattle.generations.specs.Gens.{listed_at}
use Rattle.generations.specs.Places.{is_number}
use Rattle.host_trait.proofs.Places.{same_or_other}
use Rattle.host_trait.specs.Leaf.{open_file}
use Rattle.host_trait.specs.declared.leaf.LeafKind.{LeafKind}
use Rattle.host_trait.specs.World.{Leaves}
use Rattle.switch_names.specs.Names.{Name}
use Rattle.boot_entries.specs.declared.boot_texts.BootFile.{BootFile}
use Rattle.boot_entries.specs.Places.{entry_path}
use Rattle.boot_entries.specs.Texts.{entries_of, entry_of}
use Rattle.boot_entries.proofs.AtEndLemmas.{absent}
use Rattle.tree_put.proofs.LeftLemmas.{left_by}
use Rattle.boot_entries.proofs.EndLemmas.{eqb, left_files}
use Rattle.boot_entries.proofs.NumberLemmas.{one_entry}

-- a leaf is the entry of the generation that a list has at this number
pub record IsListedEntry (leaves : Leaves) (list : List Gen) (n : ℕ) (leaf : LeafKind) : Type 0 where
  pub system : Name
  pub listed : listed_at list n ≡ Some (Some system)
  pub text : leaf ≡ open_file (entry_of leaves n system).bytes

-- where a file is put at the entry of this number, it is that
abbrev pub IsFileOf : Leaves → List Gen → ℕ → BootFile → Type 0
IsFileOf leaves list n file = eqb (entry_path n) file.at ≡ true → IsListedEntry leaves list n (open_file file.bytes)

all_more : (P Q : BootFile → Type 0) → ((file : BootFile) → P file → Q file) → (files : List BootFile) → AllByRecursion P files → AllByRecursion Q files
all_more P Q more [] all = tt
all_more P Q more (file ∷ files) all = (more file all.0, all_more P Q more files all.1)

pub same_path : (q p : Name) → eqb q p ≡ true → q ≡ p
same_path q p is = elim (same_or_other q p) [
  | inl same ↦ same
  | inr other ↦ absurd (both_ways _ other is)
]

module _ (leaves : Leaves) (n : ℕ) (small : n < 2 ^ 32) where
  listed_more : (gen : Gen) (list : List Gen) (target : Option Name) → AllByRecursion (λ m. nat_cmp gen.number m ≡ Less) (map (λ (g : Gen). g.number) list) →
      listed_at list n ≡ Some target → listed_at (gen ∷ list) n ≡ Some target
  listed_more gen list target higher is = elim (cases_Bool (gen.number == n)) [
    | inl here ↦
        let none = absent list n (subst (λ k. AllByRecursion (λ m. nat_cmp k m ≡ Less) (map (λ (g : Gen). g.number) list)) (eqb-true gen.number n here) higher) in
        absurd (none-some target (sym none.0 ∙ is))
    | inr away ↦ ap (λ b. option_map (λ (g : Gen). g.target) (cond b (Some gen) (find (λ (g : Gen). g.number == n) list))) away ∙ is
  ]

  file_more : (gen : Gen) (list : List Gen) → AllByRecursion (λ m. nat_cmp gen.number m ≡ Less) (map (λ (g : Gen). g.number) list) →
      (file : BootFile) → IsFileOf leaves list n file → IsFileOf leaves (gen ∷ list) n file
  file_more gen list higher file is here =
      let entry = is here in record { system = entry.system; listed = listed_more gen list (Some entry.system) higher entry.listed; text = entry.text }

  own_file : (k : ℕ) (system : Name) (list : List Gen) → k < 2 ^ 32 → IsFileOf leaves (record { number = k; target = Some system } ∷ list) n (entry_of leaves k system)
  own_file k system list also here =
      let same : k ≡ n = sym (one_entry n k small also (same_path (entry_path n) (entry_path k) here)) in
      record {
        system = system;
        listed = ap (λ b. option_map (λ (g : Gen). g.target) (cond b (Some (record { number = k; target = Some system })) (find (λ (g : Gen). g.number == n) list))) (eq-eqb k n same);
        text = ap (λ j. open_file (entry_of leaves j system).bytes) same;
      }

  pub files_listed : (list : List Gen) → IsStrictlySortedBy nat_cmp (map (λ (gen : Gen). gen.number) list) → AllByRecursion (λ (gen : Gen). is_number gen.number ≡ true) list →
      AllByRecursion (IsFileOf leaves list n) (entries_of leaves list)
  unfolding IsStrictlySortedBy
  files_listed [] sorted numbers = tt
  files_listed (gen ∷ list) sorted numbers =
      by gen.target (all_more (IsFileOf leaves list n) (IsFileOf leaves (gen ∷ list) n) (file_more gen list sorted.0) (entries_of leaves list) (files_listed list sorted.1 numbers.1))
    where
      by : (target : Option Name) → AllByRecursion (IsFileOf leaves (record { number = gen.number; target = target } ∷ list) n) (entries_of leaves list) →
          AllByRecursion (IsFileOf leaves (record { number = gen.number; target = target } ∷ list) n) (cons_option (option_map (entry_of leaves gen.number) target) (entries_of leaves list))
      by None rest = rest
      by (Some system) rest = (own_file gen.number system list (below_bound gen.number numbers.0), rest)

-- what puts leave at a place is what stood, or what one of them has put there
pub left_is : (P : LeafKind → Type 0) (files : List BootFile) (q : Name) (old : Option LeafKind) → AllByRecursion (λ (file : BootFile). eqb q file.at ≡ true → P (open_file file.bytes)) files →
    (left_files files q old ≡ old) ⊎ ((leaf : LeafKind) × (left_files files q old ≡ Some leaf) × P leaf)
unfolding left_by
left_is P [] q old all = inl refl
left_is P (file ∷ files) q old all = elim (cases_Bool (eqb q file.at)) [
  | inl here ↦
      let put = ap (λ b. left_files files q (cond b (Some (open_file file.bytes)) old)) here in
      ⊎_elim
      (λ kept. inr (open_file file.bytes, put ∙ kept, all.0 here)) (λ later. inr (later.0, put ∙ later.1, later.2))
      (left_is P files q (Some (open_file file.bytes)) all.1)
  | inr away ↦
      let rest = ap (λ b. left_files files q (cond b (Some (open_file file.bytes)) old)) away in
      ⊎_elim (λ kept. inl (rest ∙ kept)) (λ later. inr (later.0, rest ∙ later.1, later.2)) (left_is P files q old all.1)
]

-- the first so many of two lists
pub take_parts : (xs ys : List BootFile) (k : ℕ) → (take k (xs ++ ys) ≡ take k xs) ⊎ ((i : ℕ) × (take k (xs ++ ys) ≡ xs ++ take i ys))
take_parts [] ys k = inr (k, refl)
take_parts (x ∷ xs) ys zero = inl refl
take_parts (x ∷ xs) ys (suc k) = ⊎_elim
    (λ is. inl (ap (λ (zs : List BootFile). x ∷ zs) is))
    (λ is. inr (is.0, ap (λ (zs : List BootFile). x ∷ zs) is.1))
    (take_parts xs ys k)

pub take_one : (x : BootFile) (i : ℕ) → (take i (x ∷ []) ≡ []) ⊎ (take i (x ∷ []) ≡ x ∷ [])
take_one x zero = inl refl
take_one x (suc zero) = inr refl
take_one x (suc (suc i)) = inr refl

pub not_gone : {X : Type 0} (b : Bool) (o : Option X) (x : X) → cond b None o ≡ Some x → o ≡ Some x
not_gone true o x is = absurd (none-some x is)
not_gone false o x is = is
