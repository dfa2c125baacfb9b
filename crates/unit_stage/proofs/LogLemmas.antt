-- How long the log is in which a switch records what it owes.
use Rattle.std.proofs.Common.{◌≡◌, Option, None, Some, cond, option_map, sym, ap, ◌∙◌, refl, Bool}
use Rattle.std.proofs.lemmas.Bool.{le-ltb}
use Rattle.host_trait.specs.World.{Leaves, WorldState}
use Rattle.leaf_limits.specs.Limits.{leaf_max}
use Rattle.leaf_limits.specs.declared.too_long.TooLong.{TooLong}
use Rattle.log_text.specs.declared.lists.Lists.{Lists}
use Rattle.owed_log.specs.Lengths.{log_length, long_log}
use Rattle.owed_log.specs.Places.{log_place}
use Rattle.owed_log.specs.Writing.{IsPrepared}
use Rattle.owed_plan.specs.declared.owed.Owed.{Owed}
use Rattle.switch_names.specs.Names.{Name}
use Rattle.unit_stage.specs.Laws.{OneLengthLaw, SomeLengthLaw, SteadyLogLaw}
use Rattle.unit_stage.specs.declared.unit_plan.UnitPlan.{UnitPlan}
use Rattle.unit_stage.specs.Plan.{IsLongLog, IsOwedBy, IsUnitPlanOf}
use Rattle.unit_stage.proofs.EndLemmas.{owed_in, same_lists}
use Rattle.unit_stage.proofs.RoomLemmas.{log_fits}

-- a world has one set of lists to record
same_recorded : (start_up : Bool) (w : WorldState) (system : Name) (one other : Owed) → IsOwedBy start_up system w one → IsOwedBy start_up system w other → one.lists ≡ other.lists
same_recorded start_up w system one other is (others, also) = same_lists start_up system others other w also one is

pub one_length_law : OneLengthLaw
one_length_law start_up w system one other (owed, is, long) (next, also, same) = long ∙ ap long_log (same_recorded start_up w system owed next is also) ∙ sym same

pub some_length_law : SomeLengthLaw
some_length_law start_up w system = let owed = owed_in start_up system w in (long_log owed.0.lists, (owed.0, owed.1, refl))

pub steady_log_law : SteadyLogLaw
steady_log_law start_up w system steady =
    let owed = owed_in start_up system w in
    let short = le-ltb leaf_max (log_length owed.0.lists) (log_fits start_up system owed.1.0 owed.0 w owed.1.1 steady) in (
      owed.0,
      owed.1,
      sym (ap (λ b. option_map (λ count. record { at = log_place; count = count }) (cond b (Some (log_length owed.0.lists)) None)) short),
    )

-- what a plan records tells how long the log is
pub planned_log : (start_up : Bool) (w : WorldState) (system : Name) (plan : UnitPlan) (long : Option TooLong) → IsUnitPlanOf start_up system w plan →
    ((leaves : Leaves) (lists : Lists) → IsPrepared leaves lists plan.write → long ≡ long_log lists) → IsLongLog start_up system w long
planned_log start_up w system plan long is told =
    (plan.owed, (is.lists, record { listed = is.planned.listed; is_owed = is.planned.planned.is_owed }), told w.leaves plan.owed.lists is.write.prepared)
