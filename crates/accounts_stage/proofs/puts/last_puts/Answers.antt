use Rattle.std.proofs.Common.{◌++◌, sym, ap, subst, ◌∙◌}
use Rattle.accounts_stage.specs.Files.{names_puts}
use Rattle.accounts_stage.specs.Puts.{AreAtAccounts}
use Rattle.accounts_stage.proofs.PuttingLemmas.{names_at_places}
use Rattle.accounts_stage.proofs.puts.last_puts.Goals as goal

pub returns-clause-puts : goal.returns-clause-puts
returns-clause-puts c = c.in_ok-add_names.ensures ∙ ap (λ puts. puts ++ names_puts c.args.merged.now.declared) c.new-puts.ensures

pub returns-clause-places : goal.returns-clause-places
returns-clause-places c =
    subst AreAtAccounts (sym (c.in_ok-add_names.ensures ∙ ap (λ puts. puts ++ names_puts c.args.merged.now.declared) c.new-puts.ensures)) (names_at_places c.args.merged.now.declared)
