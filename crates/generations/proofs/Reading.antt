-- What is read of the links of a world is all that stands there.
use Rattle.std.proofs.Common.{◌≡◌, ◌⊎◌, ℕ, ◌+◌, ◌<◌, ◌&&◌, ◌||◌, ◌==◌, Bool, true, false, cond, List, [], ◌∷◌, ◌++◌, length, take, get_or, map, codes, length-append, nat_lt, Option, None, Some, IsSome, IfSome, option_map, refl, sym, ap, subst, ◌∙◌, inl, inr, ⊎_elim, arith}
use Rattle.std.proofs.lemmas.Bool.{cases_Bool, both_ways, lt-ltb}
use Rattle.std.proofs.lemmas.Bool.Decides.{Decides-eqb}
use Rattle.std.proofs.lemmas.List.{take_more}
use Rattle.std.proofs.lemmas.List.Folds.{list_any-append}
use Rattle.std.proofs.lemmas.Map.Views.{any-filter_same}
use Rattle.std.proofs.lemmas.Slice.Eq.{bytes_eq-Decides}
use Rattle.std.specs.BTreeMap.{is_at}
use Rattle.std.specs.Cmp.Lexicographic.{texts_ties}
use Rattle.std.specs.FinMap.{contains_key-keys, get, keys}
use Rattle.std.specs.List.{list_any}
use Rattle.std.specs.List.Sorted.{IsStrictlySortedBy}
use Rattle.std.specs.Map.{lookup}
use Rattle.std.specs.Ordering.{nat_cmp}
use Rattle.host_trait.specs.declared.leaf.LeafKind.{LeafKind}
use Rattle.host_trait.specs.declared.leaf.LeafKind.TheVariants.{Link}
use Rattle.host_trait.specs.World.{Leaves, is_listed, is_path, listed, stage}
use Rattle.host_trait.proofs.Moments.{none_or_some}
use Rattle.host_trait.proofs.Places.{none_or_present}
use Rattle.generations.proofs.Apart.{one_link, one_link_path}
use Rattle.generations.specs.declared.gens.Gen.{Gen}
use Rattle.generations.specs.declared.gens.Gens.{Gens}
use Rattle.generations.specs.Gens.{IsGensOf, listed_at}
use Rattle.generations.specs.LinkNumber.{Bears}
use Rattle.generations.specs.Places.{IsCurrent, generation_at, is_number, link_name, link_path, profile, profiles, target_of}
use Rattle.generations.specs.Targets.{AreTargetsAt, AreTargetsOf, IsGenAt, Targets, link_to, target_in, target_with}

-- links of generations have different names and paths
same_name : (m n : ℕ) → is_number m ≡ true → is_number n ≡ true → link_name m ≡ link_name n → m ≡ n
same_name m n is_m is_n same = one_link m n (grind arith) (grind arith) same

same_link : (m n : ℕ) → is_number m ≡ true → is_number n ≡ true → link_path m ≡ link_path n → m ≡ n
same_link m n is_m is_n same = one_link_path m n (grind arith) (grind arith) same

-- a generation stands at a number alone, and only where its link does
stands_parts : (leaves : Leaves) (n : ℕ) → IsSome (generation_at leaves n) → (is_number n ≡ true) × IsSome (get leaves (link_path n))
stands_parts leaves n is = parts (is_number n) (get leaves (link_path n)) is
  where
    parts : (b : Bool) (o : Option LeafKind) → IsSome (cond b (option_map target_of o) None) → (b ≡ true) × IsSome o
    parts true (Some leaf) is = (refl, refl)
    parts true None is = absurd (cc)
    parts false o is = absurd (cc)

-- what has none where the world has none agrees with it there
absent_alike : (leaves : Leaves) (targets : Targets) (n : ℕ) → (IsSome (target_in targets n) → target_in targets n ≡ generation_at leaves n) →
    generation_at leaves n ≡ None → target_in targets n ≡ generation_at leaves n
absent_alike leaves targets n stands none = elim (none_or_some (target_in targets n)) [
  | inl absent ↦ absent ∙ sym none
  | inr there ↦ stands (subst (λ o. IsSome o) (sym there.1) refl)
]

-- nothing is read yet
pub read_none : (leaves : Leaves) (targets : Targets) → targets.entries ≡ [] → AreTargetsAt leaves [] targets
read_none leaves targets empty = record {
  stands = λ n is. absurd (none_or_present _ (ap (lookup (is_at (nat_cmp n))) empty) is);
  all = λ n is. absurd (cc);
}

either_of : (a b : Bool) → (a || (b || false)) ≡ true → (a ≡ true) ⊎ (b ≡ true)
either_of true b is = inl refl
either_of false true is = inr refl
either_of false false is = absurd (cc)

-- one path more is read
module _ (leaves : Leaves) (paths : List (List ℕ)) (path : List ℕ) (before after : Targets) (read : AreTargetsAt leaves paths before) where
  among : (n : ℕ) → list_any (is_path (link_path n)) (paths ++ path ∷ []) ≡ true → (list_any (is_path (link_path n)) paths ≡ true) ⊎ (path ≡ link_path n)
  among n is = elim (either_of _ _ (sym (list_any-append (is_path (link_path n)) paths (path ∷ [])) ∙ is)) [
    | inl old ↦ inl old
    | inr new ↦ inr (sym ((bytes_eq-Decides (link_path n) path).0 new))
  ]

  read_nothing : IsGenAt leaves path None → ((n : ℕ) → target_in after n ≡ target_in before n) → AreTargetsAt leaves (paths ++ path ∷ []) after
  read_nothing none same = record {
    stands = λ n is. same n ∙ read.stands n (subst (λ o. IsSome o) (same n) is);
    all = λ n is. same n ∙ ⊎_elim (read.all n) (λ new. absent_alike leaves before n (read.stands n) (none n new)) (among n is);
  }

  module _ (gen : Gen) (is : IsGenAt leaves path (Some gen)) (with : (n : ℕ) → target_in after n ≡ target_with (Some gen) before n) where
    here : (n : ℕ) → (gen.number == n) ≡ true → target_in after n ≡ generation_at leaves n
    here n same =
        with n ∙ ap (λ b. cond b (Some gen.target) (target_in before n)) same ∙ sym (ap (generation_at leaves) (sym ((Decides-eqb gen.number n).0 same)) ∙ is.1)

    elsewhere : (n : ℕ) → (gen.number == n) ≡ false → target_in after n ≡ target_in before n
    elsewhere n other = with n ∙ ap (λ b. cond b (Some gen.target) (target_in before n)) other

    other_link : (n : ℕ) → (gen.number == n) ≡ false → path ≡ link_path n → generation_at leaves n ≡ None
    other_link n other at = elim (none_or_some (generation_at leaves n)) [
      | inl none ↦ none
      | inr there ↦
          let is_n = (stands_parts leaves n (subst (λ o. IsSome o) (sym there.1) refl)).0 in
          let is_gen = (stands_parts leaves gen.number (subst (λ o. IsSome o) (sym is.1) refl)).0 in
          let same : gen.number ≡ n = same_link gen.number n is_gen is_n (sym is.0 ∙ at) in
          absurd (both_ways _ other ((Decides-eqb gen.number n).1 same))
    ]

    read_gen : AreTargetsAt leaves (paths ++ path ∷ []) after
    read_gen = record {
      stands = λ n there. ⊎_elim (here n) (λ other. elsewhere n other ∙ read.stands n (subst (λ o. IsSome o) (elsewhere n other) there)) (cases_Bool (gen.number == n));
      all = λ n among_all. ⊎_elim (here n)
          (λ other. elsewhere n other ∙ ⊎_elim (read.all n) (λ new. absent_alike leaves before n (read.stands n) (other_link n other new)) (among n among_all))
          (cases_Bool (gen.number == n));
    }

  read_and : (gen : Option Gen) → IsGenAt leaves path gen → ((n : ℕ) → target_in after n ≡ target_with gen before n) → AreTargetsAt leaves (paths ++ path ∷ []) after
  read_and None is same = read_nothing is same
  read_and (Some gen) is with = read_gen gen is with

pub read_more : (leaves : Leaves) (paths : List (List ℕ)) (i : ℕ) (path : List ℕ) (gen : Option Gen) (before after : Targets) → i < length paths → path ≡ get_or paths i path →
    AreTargetsAt leaves (take i paths) before → IsGenAt leaves path gen → ((n : ℕ) → target_in after n ≡ target_with gen before n) → AreTargetsAt leaves (take (i + 1) paths) after
read_more leaves paths i path gen before after within is read at with =
    subst (λ ps. AreTargetsAt leaves ps after) (sym (take_more paths i path within ∙ ap (λ p. take i paths ++ p ∷ []) (sym is)))
    (read_and leaves (take i paths) path before after read gen at with)

longer : (n : ℕ) → nat_lt (length profiles) (length (link_path n)) ≡ true
unfolding link_path profiles
longer n = lt-ltb 20 (length (codes "nix/var/nix/profiles/" ++ link_name n)) (omega (arith, length-append (codes "nix/var/nix/profiles/") (link_name n)))

-- a generation's link lies below the profiles' folder, and isn't the stage
link_is_listed : (n : ℕ) → is_listed profiles (link_path n) ≡ true
unfolding link_path profiles stage
link_is_listed n = ap (λ b. (b && true) && true) (longer n)

listed_alike : (n : ℕ) (q : List ℕ) → is_path (link_path n) q ≡ true → is_listed profiles q ≡ true
listed_alike n q same = subst (λ p. is_listed profiles p ≡ true) ((bytes_eq-Decides (link_path n) q).0 same) (link_is_listed n)

-- a generation's link that stands is listed
link_among : (leaves : Leaves) (n : ℕ) → IsSome (get leaves (link_path n)) → list_any (is_path (link_path n)) (listed profiles leaves) ≡ true
link_among leaves n is =
    any-filter_same (is_path (link_path n)) (is_listed profiles) true (listed_alike n) (keys leaves)
    ∙ (λ i. list_any (λ path. texts_ties (link_path n) path i) (keys leaves))
    ∙ sym (contains_key-keys leaves (link_path n)) ∙ is

-- what is read at all listed paths is all
pub read_all : (leaves : Leaves) (targets : Targets) (paths : List (List ℕ)) → paths ≡ listed profiles leaves → AreTargetsAt leaves paths targets → AreTargetsOf leaves targets
read_all leaves targets paths are read = record {
  exact = λ n. elim (none_or_some (generation_at leaves n)) [
    | inl none ↦ absent_alike leaves targets n (read.stands n) none
    | inr there ↦
        let parts = stands_parts leaves n (subst (λ o. IsSome o) (sym there.1) refl) in
        read.all n (ap (list_any (is_path (link_path n))) are ∙ link_among leaves n parts.1)
  ];
}

link_of_same : (m n : ℕ) → link_to m ≡ link_to n → link_name m ≡ link_name n
link_of_same m n same = target_same (link_name m) (link_name n) same
  where
    target_same : (s t : List ℕ) → Some (Link s) ≡ Some (Link t) → s ≡ t
    target_same s t is = cc

-- what the profile's leaf links to is the current generation where that stands
module _ (leaves : Leaves) (targets : Targets) (linked : Option ℕ) (are : AreTargetsOf leaves targets) (bears : Bears link_to (get leaves profile) linked) where
  current_of : (n : ℕ) → linked ≡ Some n → IsSome (target_in targets n) → IsCurrent leaves n
  current_of n is stands = record {
    linked = (subst (Bears link_to (get leaves profile)) is bears).0;
    stands = subst (λ o. IsSome o) (are.exact n) stands;
  }

  linked_of : (n : ℕ) → IsCurrent leaves n → linked ≡ Some n
  linked_of n is = one linked bears
    where
      one : (o : Option ℕ) → Bears link_to (get leaves profile) o → o ≡ Some n
      one None none = absurd (none n (stands_parts leaves n is.stands).0 is.linked)
      one (Some k) same = ap Some (same_name k n same.1 (stands_parts leaves n is.stands).0 (link_of_same k n (sym same.0 ∙ is.linked)))

if_some_as : {X : Type 0} (o : Option X) (P Q : X → Type 0) → IfSome o P → ((x : X) → P x → Q x) → IfSome o Q
if_some_as None P Q holds weaker = tt
if_some_as (Some x) P Q holds weaker = weaker x holds

-- the targets of a world as a list, and the current generation
pub gens_of_world :
    (leaves : Leaves) (targets : Targets) (linked : Option ℕ) (gens : Gens) →
    AreTargetsOf leaves targets → Bears link_to (get leaves profile) linked →
    IsStrictlySortedBy nat_cmp (map (λ (gen : Gen). gen.number) gens.list) → ((n : ℕ) → listed_at gens.list n ≡ target_in targets n) →
    IfSome gens.current (λ n. (linked ≡ Some n) × IsSome (target_in targets n)) →
    ((n : ℕ) → linked ≡ Some n → IsSome (target_in targets n) → gens.current ≡ Some n) → IsGensOf leaves gens
gens_of_world leaves targets linked gens are bears rising exact stands only = record {
  rising = rising;
  exact = λ n. exact n ∙ are.exact n;
  current = if_some_as gens.current (λ n. (linked ≡ Some n) × IsSome (target_in targets n)) (IsCurrent leaves) stands (λ n both. current_of leaves targets linked are bears n both.0 both.1);
  only_current = λ n is. only n (linked_of leaves targets linked are bears n is) (subst (λ o. IsSome o) (sym (are.exact n)) is.stands);
}
