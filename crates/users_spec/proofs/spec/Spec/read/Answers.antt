use Rattle.users_spec.proofs.Sound.{declared_are_sound}
use Rattle.users_spec.proofs.spec.Spec.read.Goals as goal

pub returns-in_err-value-clause-sound : goal.returns-in_err-value-clause-sound
returns-in_err-value-clause-sound c = declared_are_sound c.args.bytes.now

pub returns-clause-sound : goal.returns-clause-sound
returns-clause-sound c = declared_are_sound c.args.bytes.now
