use Rattle.worlds.proofs.Silence.{silent_told}
use Rattle.worlds.proofs.folders.steps.act.Goals as goal

pub reload-requires : goal.reload-requires
reload-requires c = silent_told _ _
