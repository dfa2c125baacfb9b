use Rattle.std.proofs.Common.{ap, ◌∙◌}
use Rattle.switch_engine.proofs.WayOfCommand.{comes_quietly, all_moments, begins, comes_to_end, prepare_moments, profile_can, record_can, states_of, switch_moments, units_can, verdict_of}
use Rattle.unit_stage.specs.System.{system_leaf}
use Rattle.switch_engine.proofs.carrying.carry_out.Goals as goal

pub returns-in_err-current-clause-moments : goal.returns-in_err-current-clause-moments
returns-in_err-current-clause-moments g c = begins c.args.plan.now c.requires.changes c.requires.planned

pub prepare-requires-clause-record : goal.prepare-requires-clause-record
prepare-requires-clause-record g c = record_can c.args.plan.now c.requires.changes c.requires.planned

pub prepare-requires-clause-can : goal.prepare-requires-clause-can
prepare-requires-clause-can g c = profile_can c.args.plan.now c.requires.changes c.requires.planned

pub returns-in_err-prepare-clause-moments : goal.returns-in_err-prepare-clause-moments
returns-in_err-prepare-clause-moments g c = prepare_moments c.args.plan.now c.requires.changes c.requires.planned c.prepare.ensures.moments

pub carry_units-requires-clause-can : goal.carry_units-requires-clause-can
carry_units-requires-clause-can g c = units_can c.args.plan.now c.requires.changes c.requires.planned c.prepare.ensures.moments c.in_ok-prepare.ensures.ok

pub carry_units-requires-clause-current : goal.carry_units-requires-clause-current
carry_units-requires-clause-current g c = c.in_ok-current.ensures ∙ ap system_leaf c.to.ensures

pub returns-in_err-outcome-clause-moments : goal.returns-in_err-outcome-clause-moments
returns-in_err-outcome-clause-moments g c =
    switch_moments c.args.plan.now c.requires.changes c.requires.planned c.prepare.ensures.moments c.in_ok-prepare.ensures.ok c.carry_units.ensures.moments

pub returns-in_err-finish-clause-moments : goal.returns-in_err-finish-clause-moments
returns-in_err-finish-clause-moments g c =
    all_moments c.args.plan.now c.requires.changes c.requires.planned c.prepare.ensures.moments c.in_ok-prepare.ensures.ok c.carry_units.ensures.moments c.in_ok-outcome.ensures.ok c.finish.ensures.moments

pub returns-clause-moments : goal.returns-clause-moments
returns-clause-moments g c =
    all_moments c.args.plan.now c.requires.changes c.requires.planned c.prepare.ensures.moments c.in_ok-prepare.ensures.ok c.carry_units.ensures.moments c.in_ok-outcome.ensures.ok c.finish.ensures.moments

pub returns-clause-ok : goal.returns-clause-ok
returns-clause-ok g c =
    comes_to_end c.args.plan.now c.requires.changes c.requires.planned c.prepare.ensures.moments c.in_ok-prepare.ensures.ok c.carry_units.ensures.moments c.in_ok-outcome.ensures.ok c.finish.ensures.moments c.in_ok-finish.ensures.ok

pub returns-clause-states : goal.returns-clause-states
returns-clause-states g c =
    states_of c.args.plan.now c.requires.changes c.requires.planned c.prepare.ensures.moments c.in_ok-prepare.ensures.ok c.carry_units.ensures.moments c.in_ok-outcome.ensures.ok c.finish.ensures.moments c.in_ok-finish.ensures.ok
    c.in_ok-outcome.outcome c.in_ok-outcome.ensures.states

pub returns-clause-verdict : goal.returns-clause-verdict
returns-clause-verdict g c =
    verdict_of c.args.plan.now c.requires.changes c.requires.planned c.prepare.ensures.moments c.in_ok-prepare.ensures.ok c.carry_units.ensures.moments c.in_ok-outcome.ensures.ok
    c.in_ok-outcome.outcome c.in_ok-outcome.ensures.states c.in_ok-outcome.ensures.failed c.in_ok-outcome.ensures.none

pub returns-clause-quiet : goal.returns-clause-quiet
returns-clause-quiet g c =
    comes_quietly c.args.plan.now c.requires.changes c.requires.planned c.prepare.ensures.moments c.in_ok-prepare.ensures.ok c.carry_units.ensures.moments c.in_ok-outcome.ensures.ok c.finish.ensures.moments c.in_ok-finish.ensures.ok
    c.in_ok-prepare.ensures.written c.in_ok-outcome.ensures.quiet c.in_ok-finish.ensures.written
