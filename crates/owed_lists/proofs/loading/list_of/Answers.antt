use Rattle.std.proofs.Common.{Some, ap, sym, subst, ◌∙◌, List, ℕ}
use Rattle.std.specs.List.Sorted.{IsStrictlySortedBy}
use Rattle.std.proofs.lemmas.Result.{IfOk-weaker}
use Rattle.host_trait.specs.World.{bytes_cmp}
use Rattle.host_trait.proofs.Orders.{none_sorted}
use Rattle.switch_names.specs.Names.{has}
use Rattle.owed_lists.specs.Lists.{names_in}
use Rattle.owed_lists.proofs.loading.list_of.Goals as goal

pub returns-in_default : goal.returns-in_default
returns-in_default c = record {
  sorted = subst (IsStrictlySortedBy bytes_cmp) (sym c.new.ensures) none_sorted;
  exact = λ unit. ap (λ (names : List (List ℕ)). has names unit) (c.new.ensures ∙ ap names_in (sym c.in_default.is));
}

pub returns : goal.returns
returns c =
    let names = c.as_slice-2.ensures ∙ c.in_ok-names.ensures ∙ ap (λ bytes. names_in (Some bytes)) c.as_slice.ensures ∙ ap names_in (sym c.in-Some.is) in
    IfOk-weaker c.into_names.result _ _ (λ list same. record {
      sorted = subst (IsStrictlySortedBy bytes_cmp) (sym same) c.into_names.ensures.sorted;
      exact = λ unit. ap (λ (names : List (List ℕ)). has names unit) same ∙ c.in_ok-set.ensures unit ∙ ap (λ (names : List (List ℕ)). has names unit) names;
    })
    c.into_names.ensures.names
