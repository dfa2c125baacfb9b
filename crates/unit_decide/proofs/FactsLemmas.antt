-- A text differs in no key from itself.
use Rattle.std.proofs.Common.{◌≡◌, ◌&&◌, Bool, true, false, not, List, [], ◌∷◌, Option, None, Some, nat_eq, ℕ, refl, ap, ◌∙◌}
use Rattle.std.specs.Cmp.Lexicographic.{pointwise}
use Rattle.std.proofs.lemmas.Bool.{eq-eqb}
use Rattle.switch_names.specs.declared.unit_kind.UnitKind.{UnitKind}
use Rattle.unit_compare.specs.Compare.{are_same_values, is_ignored}
use Rattle.unit_compare.proofs.Differing.{comparison_made, same_exact}
use Rattle.unit_decide.specs.Facts.{outcome_between}
use Rattle.unit_decide.specs.Kinds.{is_same}
use Rattle.unit_text.specs.declared.assignment.Assignment.{Assignment}
use Rattle.unit_text.specs.UnitText.{values_of}

same_byte : (a : ℕ) → nat_eq a a ≡ true
same_byte a = eq-eqb a a refl

same_all : {A : Type 0} (eq : A → A → Bool) → ((a : A) → eq a a ≡ true) → (xs : List A) → pointwise eq xs xs ≡ true
same_all eq own [] = refl
same_all eq own (x ∷ xs) = ap (λ b. b && pointwise eq xs xs) (own x) ∙ same_all eq own xs

nothing_differs : (ignored same : Bool) → same ≡ true → (not ignored && not same) ≡ false
nothing_differs true same is = refl
nothing_differs false same is = ap not is

-- what stays the same has no change
pub self_same : (kind : UnitKind) (text : Option (List Assignment)) → is_same (outcome_between kind text text) ≡ true
self_same kind None = refl
self_same kind (Some text) =
    ap is_same (comparison_made kind text text
    ∙ (same_exact kind text text).1 (λ key. nothing_differs (is_ignored key) (are_same_values (values_of text key) (values_of text key)) (same_all (pointwise nat_eq) (same_all nat_eq same_byte) (values_of text key))))
