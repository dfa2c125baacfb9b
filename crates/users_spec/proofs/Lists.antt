-- Names that a list has.
use Rattle.std.proofs.Common.{◌≡◌, ℕ, List, [], ◌∷◌, ◌++◌, Bool, true, false, not, ◌||◌, refl, sym, ap, ◌∙◌, true≢false}
use Rattle.std.proofs.lemmas.Map.Text.{is_eq-slice_cmp}
use Rattle.std.proofs.lemmas.Slice.Eq.{bytes_eq-Decides}
use Rattle.std.proofs.lemmas.Bool.{and_parts, or_parts, and_from, not-true}
use Rattle.std.specs.List.{list_any}
use Rattle.std.specs.Str.{bytes_eq}
use Rattle.switch_names.specs.Names.{has, is_name}
use Rattle.users_spec.specs.AccountName.{are_distinct}

-- a list has a name where some name of it is equal
pub has_bytes_eq : (names : List (List ℕ)) (name : List ℕ) → has names name ≡ list_any (bytes_eq name) names
has_bytes_eq [] name = refl
has_bytes_eq (x ∷ xs) name = ap (λ b. b || has xs name) (is_eq-slice_cmp name x) ∙ ap (λ b. bytes_eq name x || b) (has_bytes_eq xs name)

differs : (a b : List ℕ) → is_name a b ≡ false → is_name b a ≡ false
differs a b h = by (is_name b a) refl
  where
    by : (r : Bool) → is_name b a ≡ r → r ≡ false
    by false e = refl
    by true e =
        let same : b ≡ a = (bytes_eq-Decides b a).0 (sym (is_eq-slice_cmp b a) ∙ e) in
        absurd (true≢false (sym (is_eq-slice_cmp a b ∙ (bytes_eq-Decides a b).1 (sym same)) ∙ h))

has_push : (xs : List (List ℕ)) (last name : List ℕ) → has xs name ≡ false → is_name name last ≡ false → has (xs ++ last ∷ []) name ≡ false
has_push [] last name none other = rw other refl
has_push (x ∷ xs) last name none other =
    let parts = or_parts (is_name name x) (has xs name) none in
    ap (λ b. b || has (xs ++ last ∷ []) name) parts.0 ∙ has_push xs last name parts.1 other

-- a new name after distinct ones
pub distinct_push : (names : List (List ℕ)) (name : List ℕ) → are_distinct names ≡ true → has names name ≡ false → are_distinct (names ++ name ∷ []) ≡ true
distinct_push [] name distinct new = refl
distinct_push (x ∷ xs) name distinct new =
    let parts = and_parts (not (has xs x)) (are_distinct xs) distinct in
    let others = or_parts (is_name name x) (has xs name) new in
    and_from _ _ (ap not (has_push xs name x (not-true _ parts.0) (differs name x others.0))) (distinct_push xs name parts.1 others.1)
