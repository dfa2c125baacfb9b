-- Why the parts of a command are refused, by what is read of a world.
use Rattle.std.proofs.Common.{◌≡◌, ◌↔◌, ℕ, IsTrue, Bool, true, false, cond, Option, None, Some, is_none, option_map, refl, sym, ap, subst, ◌∙◌}
use Rattle.std.specs.Option.{option_or}
use Rattle.activation_stage.specs.ActivationPart.{activation_in}
use Rattle.boot_entries.specs.BootDefault.{boot_default_in}
use Rattle.boot_entries.specs.Entries.{version_path}
use Rattle.generations.specs.declared.moving.Move.{Move}
use Rattle.host_trait.specs.World.{Leaves, WorldState, content_of}
use Rattle.leaf_limits.specs.declared.too_long.TooLong.{TooLong}
use Rattle.leaf_limits.specs.Limits.{first_long, is_long}
use Rattle.owed_log.specs.Lengths.{AreOwedShort}
use Rattle.switch_engine.specs.declared.command.Command.{Command}
use Rattle.switch_engine.specs.Commands.{if_so, lacks_system, missing, new_system, row, switched_by, switched_to}
use Rattle.switch_engine.specs.declared.row.Row.{Row}
use Rattle.switch_engine.specs.Owing.{IsLongBy, IsSteadyTo, Refuses, RefusesBy}
use Rattle.switch_engine.specs.Lengths.{too_long_by}
use Rattle.switch_engine.specs.Rows.{gens_to, goal_by, part_if, parts_in, parts_refusal, refusal_before_length, refusal_with, refusal_in_parts, switch_in, system_refusal, too_many_by, version_refusal}
use Rattle.switch_engine.specs.Resolved.{IsGoalPast, Lacks}
use Rattle.switch_engine.proofs.MovedPart.{default_in}
use Rattle.switch_engine.proofs.RefusesLemmas.{some_log_to}
use Rattle.switch_engine.proofs.ShortLemmas.{little_before_length}
use Rattle.switch_names.specs.Names.{Name}
use Rattle.switch_names.specs.SystemName.{IsSystemPath}
use Rattle.switch_parts.specs.Limits.{long_refusal}
use Rattle.switch_parts.specs.declared.refusal.Refusal.{Refusal}
use Rattle.switch_parts.specs.declared.refusal.Refusal.TheVariants.{InTheWay, NoSystem}
use Rattle.tree_put.specs.First.{first_in_the_way}
use Rattle.unit_stage.specs.declared.unit_plan.UnitPlan.{UnitPlan}
use Rattle.unit_stage.specs.Owes.{IsSteadyWorld}
use Rattle.unit_stage.specs.Plan.{no_units}
use Rattle.unit_stage.specs.System.{unit_refusal}

module _ (start_up switches : Bool) (moves : Option Move) (system : Name) (leaves : Leaves) where
  abbrev way : Option Name
  way = first_in_the_way ((parts_in start_up switches moves system leaves).places leaves) leaves

  abbrev switch_reason : Option Refusal
  switch_reason = (part_if switches (switch_in start_up system leaves)).refusal leaves

  abbrev profile_reason : Option Refusal
  profile_reason = (default_in moves system leaves).refusal leaves

  -- something is in the way
  pub way_refused : (why : Refusal) → option_map InTheWay way ≡ Some why → refusal_before_length start_up switches moves system leaves ≡ Some why
  way_refused why is = ap (λ o. option_or o (option_or switch_reason profile_reason)) is

  module _ (free : way ≡ None) where
    free_reasons : refusal_before_length start_up switches moves system leaves ≡ option_or switch_reason profile_reason
    free_reasons = ap (λ o. option_or (option_map InTheWay o) (option_or switch_reason profile_reason)) free

    -- nothing is, and so the switch of the units is refused
    pub switch_refused : (why : Refusal) → switch_reason ≡ Some why → refusal_before_length start_up switches moves system leaves ≡ Some why
    switch_refused why is = free_reasons ∙ ap (λ o. option_or o profile_reason) is

    -- or it isn't, and so the parts are refused for what the profile is refused for
    pub profile_refused : (why : Option Refusal) → switch_reason ≡ None → profile_reason ≡ why → refusal_before_length start_up switches moves system leaves ≡ why
    profile_refused why none is = free_reasons ∙ ap (λ o. option_or o profile_reason) none ∙ is

-- without a move of the profile
pub unmoved_free : (system : Name) (moves : Option Move) (leaves : Leaves) → moves ≡ None → (default_in moves system leaves).refusal leaves ≡ None
unmoved_free system moves leaves none = ap (λ mv. (default_in mv system leaves).refusal leaves) none

-- with one, the boot default is refused
pub default_refused : (moves : Option Move) (move : Move) (system : Name) (leaves : Leaves) (why : Refusal) → moves ≡ Some move → (boot_default_in move system leaves).refusal leaves ≡ Some why → (default_in moves system leaves).refusal leaves ≡ Some why
default_refused moves move system leaves why on refused =
    ap (λ mv. (default_in mv system leaves).refusal leaves) on ∙ ap (λ o. option_or o ((goal_by move).refusal leaves)) refused

-- the length of the goal is told for the move that is made
pub past_of : (moves : Option Move) (move : Move) (leaves : Leaves) (past : Option ℕ) → moves ≡ Some move → IsGoalPast moves leaves past → IsGoalPast (Some move) leaves past
past_of moves move leaves past on told = subst (λ (moves : Option Move). IsGoalPast moves leaves past) on told

-- or it isn't, and so what is said of the goal
pub goal_refused : (moves : Option Move) (move : Move) (system : Name) (leaves : Leaves) (why : Option Refusal) → moves ≡ Some move → (boot_default_in move system leaves).refusal leaves ≡ None → (goal_by move).refusal leaves ≡ why →
    (default_in moves system leaves).refusal leaves ≡ why
goal_refused moves move system leaves why on free refused =
    ap (λ mv. (default_in mv system leaves).refusal leaves) on ∙ ap (λ o. option_or o ((goal_by move).refusal leaves)) free ∙ refused

-- a command that has what goal it wants is refused for what its system is refused for
has_its_system : (log : Option TooLong) (command : Command) (leaves : Leaves) → lacks_system command leaves ≡ false → refusal_with log command leaves ≡ system_refusal log command leaves
has_its_system log command leaves has = ap (λ b. cond b (Some (missing command)) (system_refusal log command leaves)) has

-- a system without its file, or with a content that is too long, is refused for that
version_first : (b : Bool) (long many parts : Option Refusal) (why : Refusal) → cond b (Some NoSystem) long ≡ Some why → cond b (Some NoSystem) (option_or (option_or long many) parts) ≡ Some why
version_first true long many parts why is = is
version_first false long many parts why is = ap (λ o. option_or (option_or o many) parts) is

version_refused : (log : Option TooLong) (command : Command) (leaves : Leaves) (its : Row) (why : Refusal) → lacks_system command leaves ≡ false → its ≡ row command leaves → version_refusal its.switches its.moves its.system leaves ≡ Some why →
    refusal_with log command leaves ≡ Some why
version_refused log command leaves its why has is refused =
    let r = row command leaves in
    has_its_system log command leaves has
    ∙ version_first (is_none (content_of leaves (version_path r.system))) (too_long_by r.switches r.moves r.system (gens_to r.moves r.system leaves) leaves) (too_many_by r.switches r.system leaves)
    (refusal_in_parts log r.start_up r.switches r.moves r.system leaves) why (subst (λ (x : Row). version_refusal x.switches x.moves x.system leaves ≡ Some why) is refused)

-- with its file it is refused for what its parts are refused for
has_system : (log : Option TooLong) (command : Command) (leaves : Leaves) (named : Name) → lacks_system command leaves ≡ false → named ≡ new_system command leaves → is_none (content_of leaves (version_path named)) ≡ false →
    refusal_with log command leaves ≡ parts_refusal log command leaves
has_system log command leaves named has is stands =
    has_its_system log command leaves has
    ∙ ap (λ system. cond (is_none (content_of leaves (version_path system))) (Some NoSystem) (parts_refusal log command leaves)) (sym is)
    ∙ ap (λ b. cond b (Some NoSystem) (parts_refusal log command leaves)) stands

-- ---- what a world refuses, whatever log it would put

-- a command to which the generations give no system
pub lacks_refused : (log : Option TooLong) (command : Command) (leaves : Leaves) (why : Refusal) → Lacks command leaves why → refusal_with log command leaves ≡ Some why
lacks_refused log command leaves why lacks = ap (λ b. cond b (Some (missing command)) (system_refusal log command leaves)) lacks.0 ∙ ap Some (sym lacks.1)

module _ (command : Command) (w : WorldState) where
  -- what is refused with each log
  refuses_with : (why : Refusal) → ((log : Option TooLong) → refusal_with log command w.leaves ≡ Some why) → Refuses command w (Some why)
  refuses_with why refused = let log = some_log_to (row command w.leaves).start_up (switched_to command w.leaves) w in (log.0, log.1, sym (refused log.0))

  pub lacks_refuses : (why : Refusal) → Lacks command w.leaves why → Refuses command w (Some why)
  lacks_refuses why lacks = refuses_with why (λ log. lacks_refused log command w.leaves why lacks)

  module _ (its : Row) (has : lacks_system command w.leaves ≡ false) (is : its ≡ row command w.leaves) where
    pub version_refuses : (why : Refusal) → version_refusal its.switches its.moves its.system w.leaves ≡ Some why → Refuses command w (Some why)
    version_refuses why refused = refuses_with why (λ log. version_refused log command w.leaves its why has is refused)

    -- where the system is there, why its row is refused
    pub row_refuses : (why : Option Refusal) → is_none (content_of w.leaves (version_path its.system)) ≡ false → RefusesBy its w why → Refuses command w why
    row_refuses why there by =
        let refuses = subst (λ (r : Row). RefusesBy r w why) is by in
        (refuses.0, refuses.1, refuses.2 ∙ sym (has_system refuses.0 command w.leaves its.system has (ap (λ (r : Row). r.system) is) there))

module _ (its : Row) (w : WorldState) where
  -- a row for a content that it takes and that is too long
  pub taken_refuses : (why : Refusal) → too_long_by its.switches its.moves its.system (gens_to its.moves its.system w.leaves) w.leaves ≡ Some why → RefusesBy its w (Some why)
  taken_refuses why taken =
      let log = some_log_to its.start_up (switched_by its) w in
      (log.0, log.1, sym (ap (λ o. option_or (option_or o (too_many_by its.switches its.system w.leaves)) (refusal_in_parts log.0 its.start_up its.switches its.moves its.system w.leaves)) taken))

  -- or at last for what would be put too long
  pub long_refuses : IsSystemPath its.system → refusal_before_length its.start_up its.switches its.moves its.system w.leaves ≡ None → is_long w.leaves (version_path its.system) ≡ false → (its.switches ≡ true → AreOwedShort w.leaves) →
      (long : Option TooLong) → IsLongBy its w long → RefusesBy its w (long_refusal long)
  long_refuses named before short owed long is =
      let part = parts_in its.start_up its.switches its.moves its.system w.leaves in (
        is.0,
        is.1,
        sym (ap (λ o. option_or o (refusal_in_parts is.0 its.start_up its.switches its.moves its.system w.leaves)) (little_before_length its.start_up its.moves its.system named w.leaves short its.switches owed before)
            ∙ ap (λ o. option_or o (long_refusal (first_long is.0 (part.long w.leaves)))) before
            ∙ ap long_refusal (sym is.2)),
      )

-- ---- what is planned

-- a switch is refused for what the units are refused for
pub units_refused : (start_up switches : Bool) (system : Name) (leaves : Leaves) (why : Refusal) → switches ≡ true → unit_refusal leaves system ≡ Some why → (part_if switches (switch_in start_up system leaves)).refusal leaves ≡ Some why
units_refused start_up switches system leaves why on refused =
    ap (λ b. (part_if b (switch_in start_up system leaves)).refusal leaves) on ∙ ap (λ o. option_or o ((activation_in system leaves).refusal leaves)) refused

-- or they aren't, and so for what the activation is refused for
pub activation_refused : (start_up switches : Bool) (system : Name) (leaves : Leaves) (why : Option Refusal) → switches ≡ true → unit_refusal leaves system ≡ None → (activation_in system leaves).refusal leaves ≡ why →
    (part_if switches (switch_in start_up system leaves)).refusal leaves ≡ why
activation_refused start_up switches system leaves why on none refused =
    ap (λ b. (part_if b (switch_in start_up system leaves)).refusal leaves) on ∙ ap (λ o. option_or o ((activation_in system leaves).refusal leaves)) none ∙ refused

-- what a plan says of its world's steadiness is said for its command
pub steady_off : (start_up switches : Bool) (system : Name) (w : WorldState) → switches ≡ false → IsTrue no_units.steady ↔ IsSteadyTo start_up (if_so switches system) w
steady_off start_up switches system w off = (λ is. subst (λ b. IsSteadyTo start_up (if_so b system) w) (sym off) tt, λ steady. refl)

pub steady_on : (start_up switches : Bool) (system : Name) (w : WorldState) (units : UnitPlan) → switches ≡ true → IsTrue units.steady ↔ IsSteadyWorld start_up system w → IsTrue units.steady ↔ IsSteadyTo start_up (if_so switches system) w
steady_on start_up switches system w units on told = subst (λ b. IsTrue units.steady ↔ IsSteadyTo start_up (if_so b system) w) (sym on) told
