use Rattle.std.proofs.Common.{Some, map, find, option_map, sym, ap, ◌∙◌}
use Rattle.std.specs.FinMap.{get}
use Rattle.id_memory.specs.Ids.{rows_of}
use Rattle.id_memory.specs.declared.id_row.IdRow.{IdRow}
use Rattle.users_merge.specs.Account.{span, unused}
use Rattle.users_merge.specs.ByName.{found_in}
use Rattle.users_merge.specs.Taken.{is_open}
use Rattle.users_merge.proofs.GivingLemmas.{chosen_free, chosen_known, chosen_row}
use Rattle.users_merge.proofs.giving.choose.Goals as goal

pub returns-in-Some : goal.returns-in-Some
returns-in-Some g c = λ used are.
    chosen_row (λ name. option_map g.R.Numbered.id_of (found_in c.args.rows.now.rows name)) c.args.known.now used (g.D.Declaration.asked c.args.account.now) c.id.result
    (ap (option_map g.R.Numbered.id_of) (sym (c.in-Some.ensures ∙ ap (found_in c.args.rows.now.rows) c.account_name-name.ensures)) ∙ ap Some (sym c.id.ensures))

pub returns-in-Some-unused : goal.returns-in-Some-unused
returns-in-Some-unused g c = λ used are.
    let account = g.D.Declaration.asked c.args.account.now in
    chosen_known (λ name. option_map g.R.Numbered.id_of (found_in c.args.rows.now.rows name)) c.args.known.now used account c.in-Some-unused.id
    (ap (option_map g.R.Numbered.id_of) (sym (c.in_default.ensures ∙ ap (found_in c.args.rows.now.rows) c.account_name-name.ensures))) (sym c.in_default-wanted.ensures)
    (sym (c.in-Some-unused.ensures used _ are ∙ ap (λ n. unused used (get c.args.known.now n)) c.account_name-name.ensures))

pub returns : goal.returns
returns g c = λ used are.
    let account = g.D.Declaration.asked c.args.account.now in
    chosen_free (λ name. option_map g.R.Numbered.id_of (found_in c.args.rows.now.rows name)) c.args.known.now used account c.free.result
    (ap (option_map g.R.Numbered.id_of) (sym (c.in_default.ensures ∙ ap (found_in c.args.rows.now.rows) c.account_name-name.ensures))) (sym c.in_default-wanted.ensures)
    (sym (c.in_default-unused.ensures used _ are ∙ ap (λ n. unused used (get c.args.known.now n)) c.account_name-name.ensures))
    (c.free.ensures used _ are ∙ ap (λ b. find (is_open used (map (λ (row : IdRow). row.id) (rows_of c.args.known.now))) (span b)) c.is_system.ensures)
