use Rattle.std.proofs.Common.{◌≡◌, sym, subst}
use Rattle.host_trait.specs.declared.entry.Act.{Act}
use Rattle.host_trait.specs.Change.{IsMoment, Perform}
use Rattle.host_trait.specs.Host.{HostState, Passes}
use Rattle.switch_names.specs.Names.{Name}
use Rattle.unit_stage.proofs.acting.call_unit.Goals as goal

-- the moments of a call, by the name of its act
moments_of : {a b : HostState} {x y : Act} (unit : Name) → x ≡ y → Passes a b (IsMoment (Perform y unit)) → Passes a b (IsMoment (Perform x unit))
moments_of {a} {b} unit is way = subst (λ (act : Act). Passes a b (IsMoment (Perform act unit))) (sym is) way

pub returns-in-Stop-clause-moments : goal.returns-in-Stop-clause-moments
returns-in-Stop-clause-moments g c = moments_of c.args.call.now.unit c.in-Stop.is c.stop.ensures.moments

pub returns-in-Reload-clause-moments : goal.returns-in-Reload-clause-moments
returns-in-Reload-clause-moments g c = moments_of c.args.call.now.unit c.in-Reload.is c.reload.ensures.moments

pub returns-in-Restart-clause-moments : goal.returns-in-Restart-clause-moments
returns-in-Restart-clause-moments g c = moments_of c.args.call.now.unit c.in-Restart.is c.restart.ensures.moments

pub returns-in-Start-clause-moments : goal.returns-in-Start-clause-moments
returns-in-Start-clause-moments g c = moments_of c.args.call.now.unit c.in-Start.is c.start.ensures.moments
