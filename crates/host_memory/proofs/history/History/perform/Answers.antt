use Rattle.std.proofs.Common.{ap}
use Rattle.host_memory.proofs.Histories.{made}
use Rattle.host_memory.proofs.ManagerUndoing.{performed}
use Rattle.host_memory.proofs.history.History.perform.Goals as goal
use Rattle.host_trait.specs.Change.{Perform}
use Rattle.host_trait.specs.World.{with_manager}

pub returns-clause-ok : goal.returns-clause-ok
returns-clause-ok c =
    made _ _ (Perform c.args.act c.args.unit.now) _ _ _ _ c.step.ensures.world c.step.ensures.calls
    (ap (λ manager. with_manager manager c.args.self.now.world) (c.in_ok-call.ensures.does c.args.self.now.world.manager))
    (λ now grown.
    performed _ _ c.args.act c.args.unit.now _ _ _ c.in_ok-name.ensures c.state_in-was.ensures c.args.self.now.states
    now (c.in_ok-call.ensures.does c.args.self.now.world.manager) grown)
    (λ of. of)
