use Rattle.std.proofs.Common.{sym, subst}
use Rattle.accounts_stage.specs.Puts.{AreAtAccounts}
use Rattle.accounts_stage.proofs.PuttingLemmas.{first_at_places, first_made}
use Rattle.accounts_stage.proofs.puts.first_puts.Goals as goal

pub returns-clause-puts : goal.returns-clause-puts
returns-clause-puts c =
    first_made c.new-puts.result c.add_names.new.puts c.add_ids.new.puts c.add_tables.new.puts c.args.merged.now c.new-puts.ensures c.in_ok-add_names.ensures
    c.in_ok-add_ids.ensures c.in_ok-add_tables.ensures

pub returns-clause-places : goal.returns-clause-places
returns-clause-places c =
    subst AreAtAccounts (sym (first_made c.new-puts.result c.add_names.new.puts c.add_ids.new.puts c.add_tables.new.puts c.args.merged.now c.new-puts.ensures c.in_ok-add_names.ensures
    c.in_ok-add_ids.ensures c.in_ok-add_tables.ensures)) (first_at_places c.args.merged.now)
