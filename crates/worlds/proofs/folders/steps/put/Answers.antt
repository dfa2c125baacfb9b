use Rattle.worlds.proofs.Silence.{silent_told}
use Rattle.worlds.proofs.folders.steps.put.Goals as goal

pub write_stage-requires : goal.write_stage-requires
write_stage-requires c = silent_told _ _

pub rename_stage-requires-clause-staged : goal.rename_stage-requires-clause-staged
rename_stage-requires-clause-staged c = silent_told _ _

pub rename_stage-requires-clause-clear : goal.rename_stage-requires-clause-clear
rename_stage-requires-clause-clear c = silent_told _ _
