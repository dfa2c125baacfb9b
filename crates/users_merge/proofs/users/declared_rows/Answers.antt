use Rattle.std.proofs.Common.{◌++◌, ◌∷◌, [], List, Some, inr, option_map, sym, ap, ◌∙◌}
use Rattle.std.proofs.lemmas.List.{take_all}
use Rattle.std.specs.List.{cons_option, filter_map}
use Rattle.account_text.specs.declared.group.GroupRow.{GroupRow}
use Rattle.account_text.specs.declared.passwd.PasswdRow.{PasswdRow}
use Rattle.users_spec.specs.declared.user_spec.UserSpec.{UserSpec}
use Rattle.users_merge.specs.Given.{given_accounts, given_ids}
use Rattle.users_merge.specs.Merge.{user_fault}
use Rattle.users_merge.specs.Rows.{declared_row}
use Rattle.users_merge.specs.UserRows.{gid_in, given_row}
use Rattle.users_merge.specs.declared.giving.Given.{Given}
use Rattle.users_merge.proofs.CollectedLemmas.{known_next, made_next, unknown_next}
use Rattle.users_merge.proofs.users.declared_rows.Goals as goal

pub returns-in_default-clause-fault : goal.returns-in_default-clause-fault
returns-in_default-clause-fault c =
    inr (unknown_next (gid_in c.args.groups.now.rows) c.args.given.now c.loop-one.one-index c.one-item.result c.loop-one-test.true c.one-item.is
    (ap (option_map (λ (row : GroupRow). row.gid)) (sym c.in_default.ensures)) c.loop-one.invariant.fine
    ∙ ap Some (sym c.in_ok-unknown_group.ensures))

pub loop-one-preserved : goal.loop-one-preserved
loop-one-preserved c =
    let gids = gid_in c.args.groups.now.rows in
    let one = c.one-item.result in
    let known = ap (option_map (λ (row : GroupRow). row.gid)) (sym c.in-Some.ensures) in
    record {
      rows =
          made_next (given_row gids) c.args.given.now c.loop-one.one-index one c.loop-one.rows.items c.push.new.self.items c.loop-one-test.true c.one-item.is
          (c.in_ok-push.ensures.items ∙ ap (λ (row : PasswdRow). c.loop-one.rows.items ++ row ∷ []) c.in_ok-passwd_row.ensures
          ∙ sym (ap (λ o. c.loop-one.rows.items ++ cons_option (option_map (declared_row one.account.now one.id) o) []) known))
          c.loop-one.invariant.rows;
      fine = known_next gids c.args.given.now c.loop-one.one-index one c.in-Some.group.now.gid c.loop-one-test.true c.one-item.is known c.loop-one.invariant.fine;
    }

pub returns-clause-ok : goal.returns-clause-ok
returns-clause-ok c = c.loop-one.invariant.rows ∙ ap (filter_map (given_row (gid_in c.args.groups.now.rows))) (take_all c.loop-one.one-index c.args.given.now c.loop-one-test.false)

pub returns-clause-fine : goal.returns-clause-fine
returns-clause-fine c =
    ap (λ (given : List (Given UserSpec)). user_fault (gid_in c.args.groups.now.rows) (given_accounts given) (given_ids given)) (sym (take_all c.loop-one.one-index c.args.given.now c.loop-one-test.false))
    ∙ c.loop-one.invariant.fine
