use Rattle.owed_plan.proofs.SystemLemmas.{sound_at, sound_in}
use Rattle.owed_plan.proofs.laws.systems_are_sound.Goals as goal

pub returns-clause-kept : goal.returns-clause-kept
returns-clause-kept c = sound_in

pub returns-clause-standing : goal.returns-clause-standing
returns-clause-standing c = sound_at
