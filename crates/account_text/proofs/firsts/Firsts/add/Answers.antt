use Rattle.std.proofs.Common.{ap, sym, ◌∙◌, map}
use Rattle.switch_names.specs.Names.{has}
use Rattle.account_text.proofs.LineLemmas.{names_more}
use Rattle.account_text.proofs.firsts.Firsts.add.Goals as goal

pub returns-in_ok-push-clause-names : goal.returns-in_ok-push-clause-names
returns-in_ok-push-clause-names g c = λ name.
    names_more g.R.Row.name_of c.args.self.now.rows.items c.args.row c.args.self.now.names.keys c.insert.new.self.keys name c.in_ok-copy.field-0
    (c.in_ok-insert.ensures.updates.0 name) (c.in_ok-copy.ensures ∙ c.name.ensures) (c.requires name)
    ∙ sym (ap (λ rows. has (map g.R.Row.name_of rows) name) c.in_ok-push.ensures.items)
