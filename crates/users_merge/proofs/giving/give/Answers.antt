use Rattle.std.proofs.Common.{ℕ, List, map, option_map, sym, ap, subst, ◌∙◌}
use Rattle.std.proofs.Math.Path.{fun_ext}
use Rattle.std.proofs.lemmas.Result.{IfOk-weaker}
use Rattle.std.specs.List.{AllByRecursion}
use Rattle.users_merge.specs.Account.{give, used_ids}
use Rattle.users_merge.specs.ByName.{row_ids}
use Rattle.users_merge.specs.Given.{IsId}
use Rattle.users_merge.proofs.BoundLemmas.{give_bounded}
use Rattle.users_merge.proofs.giving.give.Goals as goal

pub give_each-requires : goal.give_each-requires
give_each-requires g c = (_, c.in_ok-taken.ensures.taken)

pub returns-clause-ids : goal.returns-clause-ids
returns-clause-ids g c =
    let asked = map g.D.Declaration.asked c.args.accounts.now in
    let start = used_ids (map g.R.Numbered.id_of c.args.table.now) asked in
    IfOk-weaker c.give_each.result _ _ (λ given is. is ∙ ap (λ rows. give rows c.args.known.now start asked) (fun_ext (λ name. ap (option_map g.R.Numbered.id_of) (c.in_ok-rows.ensures name))))
    (c.give_each.ensures.ids start c.in_ok-taken.ensures.taken)

pub returns-clause-bounded : goal.returns-clause-bounded
returns-clause-bounded g c = λ rows wanted.
    let asked = map g.D.Declaration.asked c.args.accounts.now in
    let named = row_ids g.R.Named.name_of g.R.Numbered.id_of c.args.table.now in
    IfOk-weaker c.give_each.result _ _
    (λ given is. subst (λ (ids : List ℕ). AllByRecursion IsId ids) (sym is)
    (give_bounded named c.args.known.now rows c.in_ok-taken.ensures.are_ids asked (used_ids (map g.R.Numbered.id_of c.args.table.now) asked) wanted))
    (returns-clause-ids g c)
