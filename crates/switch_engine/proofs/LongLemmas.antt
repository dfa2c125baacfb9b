-- What the parts of a command put longer than can be read again.
use Rattle.std.proofs.Common.{◌≡◌, Bool, true, false, cond, Option, None, Some, option_map, refl, sym, ap, subst, ◌∙◌}
use Rattle.std.proofs.lemmas.Option.{none-some}
use Rattle.activation_stage.specs.ActivationPart.{IsActivationPlanOf, activation_in}
use Rattle.generations.specs.declared.gens.Gens.{Gens}
use Rattle.generations.specs.declared.moving.Move.{Move}
use Rattle.generations.specs.declared.moving.Move.TheVariants.{Point, Set}
use Rattle.generations.specs.Move.{move_part}
use Rattle.host_trait.specs.World.{Leaves, WorldState}
use Rattle.leaf_limits.specs.declared.too_long.TooLong.{TooLong}
use Rattle.leaf_limits.specs.Limits.{first_long}
use Rattle.switch_engine.specs.declared.plan.SwitchPlan.{SwitchPlan}
use Rattle.switch_engine.specs.declared.row.Row.{Row}
use Rattle.switch_engine.specs.Commands.{if_so}
use Rattle.switch_engine.specs.Owing.{IsLongBy, IsLongLogTo}
use Rattle.switch_engine.specs.Plan.{IsSwitchPlanned}
use Rattle.switch_engine.specs.Rows.{default_if, gens_to, parts_in}
use Rattle.switch_names.specs.Names.{Name}
use Rattle.switch_names.proofs.Outcomes.{none_mapped}
use Rattle.switch_parts.specs.declared.refusal.Refusal.{Refusal}
use Rattle.switch_parts.specs.declared.refusal.Refusal.TheVariants.{TooMany}
use Rattle.switch_parts.specs.declared.refusal.What.TheVariants.{LeafBytes}
use Rattle.switch_parts.specs.Limits.{long_refusal}
use Rattle.switch_parts.proofs.LongLemmas.{long_alone}
use Rattle.unit_stage.specs.Plan.{IsLongLog, IsUnitPlanOf}

-- a move of the profile puts nothing that is read again
move_short : (move : Move) (system : Name) (leaves : Leaves) → (move_part move system).long leaves ≡ None
move_short Set system leaves = refl
move_short (Point n) system leaves = refl

default_short : (moves : Option Move) (system : Name) (gens : Gens) (leaves : Leaves) → (default_if moves system gens).long leaves ≡ None
default_short None system gens leaves = refl
default_short (Some move) system gens leaves = ap (λ (long : Option TooLong). first_long (first_long long None) None) (move_short move system leaves)

-- without a switch of the units nothing is put too long
pub unswitched_short : (start_up : Bool) (moves : Option Move) (system : Name) (leaves : Leaves) → (parts_in start_up false moves system leaves).long leaves ≡ None
unswitched_short start_up moves system leaves = default_short moves system (gens_to moves system leaves) leaves

-- with one, what the activation puts so
pub switched_long : (start_up : Bool) (moves : Option Move) (system : Name) (leaves : Leaves) → (parts_in start_up true moves system leaves).long leaves ≡ (activation_in system leaves).long leaves
switched_long start_up moves system leaves =
    ap (first_long ((activation_in system leaves).long leaves)) (default_short moves system (gens_to moves system leaves) leaves) ∙ long_alone ((activation_in system leaves).long leaves)

-- what isn't refused for its length isn't too long
pub none_refused : (long : Option TooLong) → long_refusal long ≡ None → long ≡ None
none_refused long none = none_mapped (λ (first : TooLong). first.count) long (none_mapped (TooMany LeafBytes) (option_map (λ (first : TooLong). first.count) long) none)

-- where this is no reason to refuse, and there is none after it
pub unless : (b : Bool) (why : Refusal) (o : Option Refusal) → cond b (Some why) o ≡ None → (b ≡ false) × (o ≡ None)
unless true why o is = absurd (none-some why (sym is))
unless false why o is = (refl, is)

-- ---- what a plan puts too long

-- nothing, where no switch of the units is planned
pub long_none : (its : Row) (w : WorldState) → its.switches ≡ false → IsLongBy its w None
long_none its w off = (
  None,
  subst (λ b. IsLongLogTo its.start_up (if_so b its.system) w None) (sym off) refl,
  sym (ap (λ b. (parts_in its.start_up b its.moves its.system w.leaves).long w.leaves) off ∙ unswitched_short its.start_up its.moves its.system w.leaves),
)

-- else the first of the log and of what the activation puts so
pub long_some :
    (its : Row) (w : WorldState) (plan : SwitchPlan) (log long : Option TooLong) → IsSwitchPlanned its.start_up its.switches its.system w (Some plan) →
    ((start_up : Bool) (w : WorldState) (system : Name) → IsUnitPlanOf start_up system w plan.units → IsLongLog start_up system w log) →
    ((system : Name) (leaves : Leaves) → IsActivationPlanOf system leaves plan.activation → long ≡ (activation_in system leaves).long leaves) → IsLongBy its w (first_long log long)
long_some its w plan log long (on, of_units, of_activation) is_log is_long = (
  log,
  subst (λ b. IsLongLogTo its.start_up (if_so b its.system) w log) (sym on) (is_log its.start_up w its.system of_units),
  ap (first_long log)
      (is_long its.system w.leaves of_activation
      ∙ sym (switched_long its.start_up its.moves its.system w.leaves)
      ∙ ap (λ b. (parts_in its.start_up b its.moves its.system w.leaves).long w.leaves) (sym on)),
)
