-- The statuses by which a run ends: exit(3).
use Rattle.std.specs.Prelude.{◌≡◌, ◌⊎◌, Bool, true, false, Option, None, Some, Result, Ok, Err}
use Rattle.host_trait.specs.declared.tree.HostFault.TheVariants as host
use Rattle.host_trait.specs.World.{WorldState}
use Rattle.switch_engine.specs.declared.command.Command.{Command}
use Rattle.switch_engine.specs.Final.{LeavesFailed}
use Rattle.switch_engine.specs.Owing.{Refuses}
use Rattle.store_collect.specs.declared.collection.CollectFault.{CollectFault}
use Rattle.store_collect.specs.declared.collection.CollectFault.TheVariants as collect
use Rattle.store_collect.specs.declared.collection.CollectRefusal.{CollectRefusal}
use Rattle.store_collect.specs.declared.collection.CollectRefusal.TheVariants as collect_refusal
use Rattle.switch_parts.specs.declared.plan_fault.PlanFault.{PlanFault}
use Rattle.switch_parts.specs.declared.plan_fault.PlanFault.TheVariants as plan
use Rattle.switch_parts.specs.declared.refusal.Refusal.{Refusal}
use Rattle.switch_parts.specs.declared.refusal.Refusal.TheVariants as refusals
use Rattle.switch_parts.specs.declared.refusal.What.TheVariants.{LeafBytes}
use Rattle.switch_run.specs.declared.run_fault.RunFault.{RunFault}
use Rattle.switch_run.specs.declared.run_fault.RunFault.TheVariants as fault
use Rattle.switch_run.specs.declared.status.Status.{Status}
use Rattle.switch_run.specs.declared.status.Status.TheVariants.{Done, Usage, Refused, HostFault, SinkFault, UnitsFailed, NoMemory}

-- a run that came to its end
abbrev pub IsEnded : Status → Type 0
IsEnded Done = Unit {0}
IsEnded UnitsFailed = Unit {0}
IsEnded status = ⊥

-- a run that broke off since the host failed or memory was wanting
abbrev pub IsBroken : Status → Type 0
IsBroken HostFault = Unit {0}
IsBroken NoMemory = Unit {0}
IsBroken status = ⊥

-- how a command ends that came to its end
abbrev pub IsVerdict : Command → WorldState → Status → Type 0
IsVerdict command w Done = ¬ LeavesFailed command w
IsVerdict command w UnitsFailed = LeavesFailed command w
IsVerdict command w status = ⊥

-- a run without a fault answers as the world says, or finds no memory
abbrev pub IsAnswerTo : Option Refusal → Command → WorldState → Status → Type 0
IsAnswerTo None command w status = IsVerdict command w status ⊎ (status ≡ NoMemory)
IsAnswerTo (Some why) command w status = (status ≡ Refused why) ⊎ (status ≡ NoMemory)

-- what a run of a command without a fault answers
abbrev pub Answers : Command → WorldState → Status → Type 0
Answers command w status = (why : Option Refusal) → Refuses command w why → IsAnswerTo why command w status

-- why a run breaks off whose plan isn't made
abbrev pub fault_of : PlanFault → RunFault
fault_of (plan.Refused why) = fault.Refused why
fault_of (plan.Host why) = fault.Host why

-- why a collection is refused, as a refusal of a run
abbrev pub refusal_of : CollectRefusal → Refusal
refusal_of collect_refusal.Unfinished = refusals.Unfinished
refusal_of (collect_refusal.LeafBytes count) = refusals.TooMany LeafBytes count
refusal_of (collect_refusal.InTheWay at) = refusals.InTheWay at

-- why a run breaks off whose collection isn't planned
abbrev pub collect_fault_of : CollectFault → RunFault
collect_fault_of (collect.Refused why) = fault.Refused (refusal_of why)
collect_fault_of (collect.Host why) = fault.Host why

-- the status of a run that broke off so
abbrev pub fault_status : RunFault → Status
fault_status fault.Usage = Usage
fault_status (fault.Refused why) = Refused why
fault_status (fault.Host host.Memory) = NoMemory
fault_status (fault.Host host.Device) = HostFault
fault_status fault.Sink = SinkFault

-- the status of a run that ended so: with a unit failed or none, or broken off
abbrev pub status_of : Result Bool RunFault → Status
status_of (Ok true) = UnitsFailed
status_of (Ok false) = Done
status_of (Err why) = fault_status why
