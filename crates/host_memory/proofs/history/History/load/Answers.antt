use Rattle.std.proofs.Common.{ap, ◌∙◌}
use Rattle.host_memory.proofs.Histories.{made}
use Rattle.host_memory.proofs.ManagerUndoing.{loaded_anew}
use Rattle.host_memory.proofs.history.History.load.Goals as goal
use Rattle.host_trait.specs.Change.{DaemonReload}
use Rattle.host_trait.specs.World.{with_manager}

pub returns-clause-ok : goal.returns-clause-ok
returns-clause-ok c =
    made _ _ DaemonReload _ _ _ _ c.step.ensures.world c.step.ensures.calls
    (ap (λ manager. with_manager manager c.args.self.now.world) (c.in_ok-call.ensures.does c.args.self.now.world.manager))
    (λ now grown.
    loaded_anew _ _ _ _ (c.in_ok-was.ensures ∙ c.loaded.ensures.text)
    now (c.in_ok-call.ensures.does c.args.self.now.world.manager) grown)
    (λ of. of)
