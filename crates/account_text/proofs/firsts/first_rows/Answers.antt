use Rattle.std.proofs.Common.{Some, map, sym, ap, ◌∙◌}
use Rattle.std.proofs.lemmas.Iterator.Adapters.{YieldsList-from_vec}
use Rattle.std.proofs.lemmas.Iterator.Consumers.{YieldsList-end}
use Rattle.std.proofs.lemmas.List.{map-id}
use Rattle.account_text.specs.Table.{are_distinct, firsts}
use Rattle.account_text.specs.Reading.{with_row}
use Rattle.account_text.proofs.FirstLemmas.{firsts_distinct, firsts_push}
use Rattle.account_text.proofs.firsts.first_rows.Goals as goal

pub returns-then-branch : goal.returns-then-branch
returns-then-branch g c =
    sym (firsts_distinct g.R.Row.name_of c.args.all.items (ap (λ rows. are_distinct (map g.R.Row.name_of rows)) (sym c.as_slice.ensures.value) ∙ sym c.in_ok-have_own_names.ensures ∙ c.if-branch.true))

pub loop-row-preserved : goal.loop-row-preserved
loop-row-preserved g c = (
  c.in_ok-add.ensures.rows ∙ ap (λ rows. with_row g.R.Row.name_of rows (Some c.in-Some.row)) c.loop-row.invariant.0 ∙ sym (firsts_push g.R.Row.name_of c.loop-row.yielded c.in-Some.row),
  c.in_ok-add.ensures.names,
)

pub returns : goal.returns
returns g c =
    let gives = c.into_iter-row-iterator.ensures.into_iter_gives in
    let end = YieldsList-end (YieldsList-from_vec c.args.all.items gives.0 (gives.1 ∙ c.args.all.ok.0)) c.loop-row.yielded _ c.loop-row.yielded_by _ c.next.new.self c.in-None.is c.next.ensures.steps in
    c.into_rows.ensures ∙ c.loop-row.invariant.0 ∙ ap (firsts g.R.Row.name_of) (sym (map-id c.loop-row.yielded) ∙ end.0)
