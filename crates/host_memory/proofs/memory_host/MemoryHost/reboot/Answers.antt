use Rattle.std.proofs.Common.{Some, refl, subst}
use Rattle.host_memory.proofs.Histories.{unchanged}
use Rattle.host_memory.proofs.memory_host.MemoryHost.reboot.Goals as goal
use Rattle.host_memory.specs.Reboots.{IsRebooted}
use Rattle.host_trait.proofs.Moments.{one_world}
use Rattle.host_trait.proofs.UnitSets.{on_err}
use Rattle.host_trait.specs.Change.{IsSame}
use Rattle.host_trait.specs.World.{WorldState}

pub returns-in_err-reboot-clause-err_moments : goal.returns-in_err-reboot-clause-err_moments
returns-in_err-reboot-clause-err_moments c =
    let stood = c.in_err-reboot.ensures.err in
    on_err c.from_residual.result ((unchanged c.args.self.now.history c.reboot.new.self IsSame stood.0 stood.1 stood.0).passes _ _ _ _ _ _)

pub returns-clause-world : goal.returns-clause-world
returns-clause-world c = record {
  to = λ w told. (
    c.reboot.new.self.world,
    refl,
    subst (λ (before : WorldState). IsRebooted c.args.pick before c.reboot.new.self.world) (one_world (Some c.args.self.now.history.world) c.args.self.now.history.world w refl told) c.in_ok-reboot.ensures.world,
  );
}
