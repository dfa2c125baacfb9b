-- First names of paths, and the set of those of all leaves.
use Rattle.std.proofs.Common.{◌≡◌, ◌≢◌, ℕ, suc, ◌+◌, ◌<◌, ◌&&◌, ◌||◌, not, Bool, true, false, cond, List, [], ◌∷◌, ◌++◌, length, take, drop, Option, None, Some, Result, Ok, Err, IfOk, refl, sym, ap, subst, ◌∙◌, inl, inr, arith}
use Rattle.std.proofs.lemmas.Bool.{and_from, and_parts, both_ways, cases_Bool}
use Rattle.std.proofs.lemmas.Bool.Decides.{Decides-eqb}
use Rattle.std.specs.Cmp.Lexicographic.{nat_list_eq_equiv, same_text}
use Rattle.std.specs.FinMap.{keys}
use Rattle.std.specs.List.{after_first, before_first, list_any, onto_first, position_or_len, slice_get}
use Rattle.std.specs.List.Sorted.{IsStrictlySortedBy}
use Rattle.std.specs.Option.{option_map_or}
use Rattle.switch_names.specs.Names.{Name, has, is_name}
use Rattle.switch_names.specs.Path.{is_slash, names_of, slash}
use Rattle.host_trait.specs.World.{AreTops, Leaves, bytes_cmp, is_elsewhere, is_path, stage}
use Rattle.host_trait.proofs.KeyTests.{leaf_passes, one_passes}
use Rattle.host_trait.proofs.NameOrder.{name_exact, name_itself}
use Rattle.host_trait.proofs.UnitSets.{has_added}

one_more : (n : ℕ) → suc n ≡ 1 + n
one_more n = omega arith

-- the first name of a text is what stands before its first slash
pub first_of_names : (text : List ℕ) → slice_get (names_of text) 0 ≡ Some (before_first is_slash text)
first_of_names [] = refl
first_of_names (b ∷ text) = by (is_slash b) (names_of text) (position_or_len is_slash text) (first_of_names text)
  where
    by : (c : Bool) (names : List (List ℕ)) (place : ℕ) → slice_get names 0 ≡ Some (take place text) →
        slice_get (cond c ([] ∷ names) (onto_first b names)) 0 ≡ Some (take (cond (not c) (1 + place) 0) (b ∷ text))
    by true names place first = refl
    by false [] place first = absurd cc
    by false (name ∷ names) place first =
        let is : name ≡ take place text = cc in ap (λ t. Some (b ∷ t)) is ∙ ap (λ n. Some (take n (b ∷ text))) (one_more place)

take_whole : (text : List ℕ) → take (length text) text ≡ text
take_whole [] = refl
take_whole (b ∷ text) = ap (λ t. b ∷ t) (take_whole text)

-- a text without a slash is its own first name
pub whole_name : (text : List ℕ) → position_or_len is_slash text ≡ length text → slice_get (names_of text) 0 ≡ Some text
whole_name text none = first_of_names text ∙ ap (λ n. Some (take n text)) none ∙ ap (λ t. Some t) (take_whole text)

-- a text with a slash is cut at its first one
pub cut_at_first : (text : List ℕ) → position_or_len is_slash text < length text → text ≡ before_first is_slash text ++ slash ∷ after_first is_slash text
cut_at_first [] less = absurd (omega arith)
cut_at_first (b ∷ text) less = by (is_slash b) refl (position_or_len is_slash text) (cut_at_first text) less
  where
    by : (c : Bool) → is_slash b ≡ c → (p : ℕ) → (p < length text → text ≡ take p text ++ slash ∷ drop (p + 1) text) → cond (not c) (1 + p) 0 < length (b ∷ text) →
        b ∷ text ≡ take (cond (not c) (1 + p) 0) (b ∷ text) ++ slash ∷ drop (cond (not c) (1 + p) 0 + 1) (b ∷ text)
    by true is p cut less = ap (λ x. x ∷ text) ((Decides-eqb b slash).0 is)
    by false is p cut less =
        let front = one_more p in
        let back : suc (p + 1) ≡ 1 + p + 1 = omega arith in
        ap (λ t. b ∷ t) (cut (omega (arith, less))) ∙ (λ i. take (front i) (b ∷ text) ++ slash ∷ drop (back i) (b ∷ text))

-- an answer that is this name is the first one
pub first_is : {E : Type 0} (r : Result Name E) (path first : Name) → slice_get (names_of path) 0 ≡ Some first → IfOk r (λ name. name ≡ first) → IfOk r (λ name. slice_get (names_of path) 0 ≡ Some name)
first_is (Ok name) path first is same = is ∙ ap (λ x. Some x) (sym same)
first_is (Err fault) path first is same = tt

elsewhere_is : (q : List ℕ) → is_elsewhere q ≡ true → q ≢ stage
unfolding is_elsewhere
elsewhere_is q is = λ same. both_ways (is_elsewhere q) (ap (λ b. not b) (subst (λ x. is_path q x ≡ true) same (nat_list_eq_equiv.refl q))) is

pub elsewhere_of : (q : List ℕ) → q ≢ stage → is_elsewhere q ≡ true
unfolding is_elsewhere
elsewhere_of q other = elim (cases_Bool (is_path q stage)) [
  | inl is ↦ absurd (other (same_text q stage (sym is)))
  | inr is ↦ ap (λ b. not b) is
]

-- whether a name is the first one of a path other than the stage
abbrev pub is_top : Name → Name → Bool
is_top name q = is_elsewhere q && option_map_or (is_name name) (slice_get (names_of q) 0) false

named : (name : Name) (first : Option Name) → option_map_or (is_name name) first false ≡ true → first ≡ Some name
named name None is = absurd cc
named name (Some first) is = ap (λ x. Some x) (sym (name_exact name first is))

-- a set of names that has just those is the tops
pub tops_are : (leaves : Leaves) (tops : List Name) → IsStrictlySortedBy bytes_cmp tops → ((name : Name) → has tops name ≡ list_any (is_top name) (keys leaves)) → AreTops leaves tops
tops_are leaves tops sorted each = record {
  sorted = sorted;
  exact = λ name. (
    λ is.
        let one = leaf_passes (is_top name) leaves (sym (each name) ∙ is) in
        let parts = and_parts (is_elsewhere one.0) (option_map_or (is_name name) (slice_get (names_of one.0) 0) false) one.1 in
        (one.0, one.2, elsewhere_is one.0 parts.0, named name (slice_get (names_of one.0) 0) parts.1),
    λ top.
        each name
        ∙ one_passes (is_top name) leaves top.0
        (and_from (is_elsewhere top.0) (option_map_or (is_name name) (slice_get (names_of top.0) 0) false) (elsewhere_of top.0 top.2)
        (ap (λ o. option_map_or (is_name name) o false) top.3 ∙ name_itself name)) top.1,
  );
}

-- and so is a list of it
pub tops_of_set : {E : Type 0} (r : Result (List Name) E) (leaves : Leaves) (set : List Name) → AreTops leaves set → IfOk r (λ names. names ≡ set) → IfOk r (AreTops leaves)
tops_of_set (Ok names) leaves set are same = subst (AreTops leaves) (sym same) are
tops_of_set (Err fault) leaves set are same = tt

module _ (name : Name) (total : Bool) where
  -- the paths that are left, and the names of those that were gone through
  abbrev pub AreAll : List Name → List Name → Type 0
  AreAll tops rest = (has tops name || list_any (is_top name) rest) ≡ total

  or_moved : (a b c : Bool) → ((a || b) || c) ≡ (a || (b || c))
  or_moved true b c = refl
  or_moved false b c = refl

  or_none : (a : Bool) → (a || false) ≡ a
  or_none true = refl
  or_none false = refl

  pub one_in : (old new : List Name) (path first : Name) (now rest : List Name) → now ≡ path ∷ rest → is_elsewhere path ≡ true → slice_get (names_of path) 0 ≡ Some first →
      has new name ≡ cond (is_name first name) true (has old name) → AreAll old now → AreAll new rest
  one_in old new path first now rest is elsewhere named added all =
      let here : is_top name path ≡ is_name name first = ap (λ b. b && option_map_or (is_name name) (slice_get (names_of path) 0) false) elsewhere ∙ ap (λ o. option_map_or (is_name name) o false) named in
      ap (λ b. b || list_any (is_top name) rest) (has_added old new first name added)
      ∙ or_moved (has old name) (is_name name first) (list_any (is_top name) rest)
      ∙ ap (λ b. has old name || (b || list_any (is_top name) rest)) (sym here)
      ∙ ap (λ (ks : List Name). has old name || list_any (is_top name) ks) (sym is) ∙ all

  pub one_out : (tops : List Name) (path : Name) (now rest : List Name) → now ≡ path ∷ rest → is_elsewhere path ≡ false → AreAll tops now → AreAll tops rest
  one_out tops path now rest is here all =
      ap (λ b. has tops name || ((b && option_map_or (is_name name) (slice_get (names_of path) 0) false) || list_any (is_top name) rest)) (sym here)
      ∙ ap (λ (ks : List Name). has tops name || list_any (is_top name) ks) (sym is) ∙ all

  pub at_end : (tops rest : List Name) → rest ≡ [] → AreAll tops rest → has tops name ≡ total
  at_end tops rest none all = sym (or_none (has tops name)) ∙ ap (λ (ks : List Name). has tops name || list_any (is_top name) ks) (sym none) ∙ all
