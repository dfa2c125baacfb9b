use Rattle.worlds.proofs.Silence.{silent_told}
use Rattle.worlds.proofs.folders.steps.stage.Goals as goal

pub write_stage-requires : goal.write_stage-requires
write_stage-requires c = silent_told _ _
