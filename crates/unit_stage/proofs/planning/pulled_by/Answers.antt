use Rattle.std.proofs.Common.{refl}
use Rattle.host_trait.specs.States.{state_of}
use Rattle.unit_stage.proofs.planning.pulled_by.Goals as goal

pub returns : goal.returns
returns c =
    let known = c.args.known.now in
    c.in_ok-pulled.ensures.pulled known.old.defs (state_of known.units.states) known.units.lists (c.in_ok-roots.ensures known.old.defs known.units.lists refl)
