use Rattle.std.proofs.Common.{◌≡◌, ◌≤◌, length, get_or, suc, Some, inr, option_map, sym, ap, subst, ◌∙◌, arith}
use Rattle.std.proofs.lemmas.Bool.{leb-true}
use Rattle.std.proofs.lemmas.List.{length-map}
use Rattle.users_merge.specs.Given.{given_ids}
use Rattle.users_merge.specs.declared.merge_fault.MergeFault.TheVariants.{NoFreeId}
use Rattle.users_merge.proofs.FaultLemmas.{next_without, none_without}
use Rattle.users_merge.proofs.sides.check_given.Goals as goal

pub returns-in_ok-no_free_id-in-Some-clause-fault : goal.returns-in_ok-no_free_id-in-Some-clause-fault
returns-in_ok-no_free_id-in-Some-clause-fault g c =
    let size : length (given_ids c.args.given.now) ≡ length c.args.given.now = length-map c.args.given.now _ in
    let inside : suc (length c.args.given.now) ≤ length c.args.accounts.now = leb-true (suc (length c.args.given.now)) (length c.args.accounts.now) (sym c.in-Some.ensures.lookup.0) in
    inr (ap (option_map NoFreeId)
    (next_without g.D.Declaration.asked c.args.accounts.now (given_ids c.args.given.now) c.in-Some.account.now (omega arith)
    (subst (λ at. c.in-Some.account.now ≡ get_or c.args.accounts.now at c.in-Some.account.now) (sym size) c.in-Some.ensures.lookup.1))
    ∙ ap Some (sym c.in_ok-no_free_id-in-Some.ensures))

pub returns-in-None-clause-ok : goal.returns-in-None-clause-ok
returns-in-None-clause-ok g c =
    let size : length (given_ids c.args.given.now) ≡ length c.args.given.now = length-map c.args.given.now _ in
    let over = c.in-None.ensures.lookup.3 in
    none_without g.D.Declaration.asked c.args.accounts.now (given_ids c.args.given.now) (omega arith)
