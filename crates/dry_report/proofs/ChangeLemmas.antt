-- Names that others lack.
use Rattle.std.proofs.Common.{◌≡◌, ◌&&◌, Bool, true, false, not, List, filter, inl, inr, refl, sym, ap, ◌∙◌}
use Rattle.std.proofs.lemmas.Bool.{cases_Bool}
use Rattle.switch_names.specs.Names.{Name, has, is_name}
use Rattle.users_merge.proofs.NameOrderLemmas.{is_ordered}
use Rattle.host_trait.specs.Bytes.{bytes_cmp}
use Rattle.host_trait.proofs.NameOrder.{has_filter, name_exact}
use Rattle.std.specs.List.Sorted.{IsStrictlySortedBy}
use Rattle.dry_report.specs.Lines.{lacking}

-- a name that is there is never one that isn't
pub never_lacking : (others : List Name) (name other : Name) → has others name ≡ true → (is_name other name && not (has others other)) ≡ false
never_lacking others name other there = elim (cases_Bool (is_name other name)) [
  | inl is ↦ ap (λ b. b && not (has others other)) is ∙ ap not (ap (has others) (name_exact other name is) ∙ there)
  | inr other_name ↦ ap (λ b. b && not (has others other)) other_name
]

-- a name that isn't there is lacking
pub is_lacking : (others : List Name) (name other : Name) → has others name ≡ false → is_name other name ≡ (is_name other name && not (has others other))
is_lacking others name other absent = elim (cases_Bool (is_name other name)) [
  | inl is ↦ is ∙ sym (ap (λ b. b && not (has others other)) is ∙ ap not (ap (has others) (name_exact other name is) ∙ absent))
  | inr other_name ↦ other_name ∙ sym (ap (λ b. b && not (has others other)) other_name)
]

-- names in order, which are just those that others lack
pub are_lacking : (list names others : List Name) → IsStrictlySortedBy bytes_cmp list → ((name : Name) → has list name ≡ (has names name && not (has others name))) → list ≡ lacking names others
unfolding lacking
are_lacking list names others sorted are =
    is_ordered list (filter (λ name. not (has others name)) names) sorted (λ name. are name ∙ turned (has names name) (not (has others name)) ∙ sym (has_filter (λ other. not (has others other)) names name))
  where
    turned : (a b : Bool) → (a && b) ≡ (b && a)
    turned true true = refl
    turned true false = refl
    turned false true = refl
    turned false false = refl
