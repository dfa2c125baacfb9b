use Rattle.std.proofs.Common.{IfOk, sym, subst}
use Rattle.host_trait.specs.Host.{Told}
use Rattle.switch_engine.specs.declared.command.Command.{Command}
use Rattle.switch_engine.specs.Resolved.{IsResolved, Lacks}
use Rattle.switch_engine.proofs.ResolveLemmas.{not_start}
use Rattle.switch_engine.proofs.row.resolve_by_generations.Goals as goal

pub returns-in-StartUp-clause-refused : goal.returns-in-StartUp-clause-refused
returns-in-StartUp-clause-refused g c why e =
    subst (λ (command : Command). Told (g.T.Tree.host c.args.host.now) (λ w. Lacks command w.leaves why)) (sym c.in-StartUp.is) (c.resolve_start.ensures.refused why e)

pub returns-in_default-clause-resolved : goal.returns-in_default-clause-resolved
returns-in_default-clause-resolved g c =
    subst (λ (command : Command). IfOk c.resolve_back.result (λ its. Told (g.T.Tree.host c.args.host.now) (λ w. IsResolved command w.leaves its)))
    (sym (not_start c.args.command.now c.requires c.in_default.not-StartUp)) c.resolve_back.ensures.resolved

pub returns-in_default-clause-refused : goal.returns-in_default-clause-refused
returns-in_default-clause-refused g c why e =
    subst (λ (command : Command). Told (g.T.Tree.host c.args.host.now) (λ w. Lacks command w.leaves why))
    (sym (not_start c.args.command.now c.requires c.in_default.not-StartUp)) (c.resolve_back.ensures.refused why e)
