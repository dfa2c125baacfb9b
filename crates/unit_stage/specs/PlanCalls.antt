-- The calls of a plan: NixOS manual, "What happens during a system switch?".
use Rattle.std.specs.Prelude.{◌≡◌, List}
use Rattle.host_trait.specs.declared.unit_state.State.{State}
use Rattle.log_text.specs.declared.lists.Which.{Which}
use Rattle.log_text.specs.declared.lists.Which.TheVariants.{Starts, Restarts, Reloads}
use Rattle.owed_plan.specs.declared.duty.Duty.{Duty}
use Rattle.owed_plan.specs.declared.owed.Owed.{Owed}
use Rattle.owed_plan.specs.Calls.{listed_calls, stop_calls}
use Rattle.switch_names.specs.Names.{Name}
use Rattle.unit_stage.specs.declared.plan_calls.PlanCalls.{PlanCalls}

-- the calls of a list
abbrev pub calls_in : PlanCalls → Which → List Duty
calls_in calls Reloads = calls.reloads.now
calls_in calls Restarts = calls.restarts.now
calls_in calls Starts = calls.starts.now

-- these are the calls of a plan: the stops, and those of each list
pub record AreCallsOf (owed : Owed) (order : List Name) (states : Name → State) (stops : List Duty) (calls : Which → List Duty) : Type 0 where
  pub are_stops : stops ≡ stop_calls owed
  pub are_listed : (which : Which) → calls which ≡ listed_calls owed order states which
