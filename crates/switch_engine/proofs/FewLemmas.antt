-- Parts that aren't refused have not too much of anything.
use Rattle.std.proofs.Common.{◌≡◌, Bool, true, false, Option, None, refl}
use Rattle.std.specs.Option.{option_or}
use Rattle.accounts_stage.specs.AccountsPart.{accounts_part}
use Rattle.accounts_stage.specs.Lengths.{accounts_too_long}
use Rattle.accounts_stage.specs.Refusals.{refusal_of}
use Rattle.accounts_stage.specs.Rows.{rows_too_many}
use Rattle.accounts_stage.specs.Standing.{declared_by}
use Rattle.activation_stage.specs.ActivationPart.{activation_in}
use Rattle.activation_stage.specs.Owners.{owners_after}
use Rattle.etc_farm.specs.EtcPart.{entries_too_many, etc_part}
use Rattle.generations.specs.declared.moving.Move.{Move}
use Rattle.host_trait.specs.World.{Leaves}
use Rattle.switch_engine.specs.Rows.{default_if, gens_to, parts_in, switch_in, too_many_by}
use Rattle.switch_names.specs.Names.{Name}
use Rattle.switch_names.proofs.Outcomes.{option_or_nothing, option_or_parts}
use Rattle.switch_parts.specs.declared.refusal.Refusal.{Refusal}
use Rattle.unit_stage.specs.System.{defs_refusal, text_refusal, units_too_long, units_too_many}
use Rattle.unit_stage.specs.Units.{units_part}

-- the first of two reasons is none, where neither is there
pub first_none : (o q : Option Refusal) → option_or o q ≡ None → o ≡ None
first_none o q none = (option_or_parts o q none).0

module _ (start_up : Bool) (moves : Option Move) (system : Name) (leaves : Leaves) where
  -- what is switched isn't refused
  switch_few : (switch_in start_up system leaves).refusal leaves ≡ None → too_many_by true system leaves ≡ None
  switch_few none =
      let units = option_or_parts ((units_part start_up system).refusal leaves) ((activation_in system leaves).refusal leaves) none in
      let activation = option_or_parts ((accounts_part system).refusal leaves) ((etc_part system (owners_after system leaves)).refusal leaves) units.1 in
      option_or_nothing (units_too_many leaves system) (option_or (entries_too_many leaves system) (rows_too_many leaves))
      (first_none (units_too_many leaves system) (text_refusal leaves system) (first_none (defs_refusal leaves system) (units_too_long leaves system) units.0))
      (option_or_nothing (entries_too_many leaves system) (rows_too_many leaves) (first_none (entries_too_many leaves system) _ activation.1) (first_none (rows_too_many leaves) _ (first_none (refusal_of leaves (declared_by system leaves)) (accounts_too_long system leaves) activation.0)))

  -- nor are the parts of a command
  pub parts_few : (switches : Bool) → (parts_in start_up switches moves system leaves).refusal leaves ≡ None → too_many_by switches system leaves ≡ None
  parts_few false none = refl
  parts_few true none =
      switch_few (first_none ((switch_in start_up system leaves).refusal leaves) ((default_if moves system (gens_to moves system leaves)).refusal leaves) none)
