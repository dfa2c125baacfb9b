use Rattle.std.proofs.Common.{◌≡◌, rules, subst, ◌∙◌}
use Rattle.std.specs.List.{IsAllAdjacentAnswer}
use Rattle.std.proofs.lemmas.List.{take_all}
use Rattle.std.specs.Cmp.Lexicographic.{nat_list_cmp_total}
use Rattle.std.proofs.lemmas.List.Sorted.{answers_always, ranks_by}
use Rattle.account_text.proofs.NameLemmas.{is_before, own_names}
use Rattle.account_text.proofs.firsts.have_own_names.Goals as goal

pub returns : goal.returns
returns g c =
    let rises = c.sort_unstable_by.ensures.sorted (λ row next. is_before g.R.Row.name_of row.now next.now) (ranks_by nat_list_cmp_total (λ row. g.R.Row.name_of row.now)) (answers_always _ _ _ (λ f a r g k. search rules)) in
    own_names g.R.Row.name_of c.args.rows.now c.loop-row.sorted.items c.sort_unstable_by.new.self.items (c.loop-row.invariant ∙ take_all c.loop-row.row-index c.args.rows.now c.loop-row-test.false) c.sort_unstable_by.ensures.permutation rises
    c.is_sorted_by.result
    (subst (λ sorted. IsAllAdjacentAnswer (λ row next b. b ≡ is_before g.R.Row.name_of row.now next.now) sorted c.is_sorted_by.result) c.deref.ensures.value
    (c.is_sorted_by.ensures.cases (λ row next. is_before g.R.Row.name_of row.now next.now) (answers_always _ _ _ (λ f a r g k. search rules))))
