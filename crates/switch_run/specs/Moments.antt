-- What each moment of a run has: NixOS manual, "What happens during a system switch?".
use Rattle.std.specs.Prelude.{◌≡◌, Option, None, Some}
use Rattle.host_trait.specs.World.{WorldState}
use Rattle.switch_engine.specs.declared.command.Command.{Command}
use Rattle.switch_engine.specs.Moments as engine
use Rattle.switch_engine.specs.Owing.{Refuses}
use Rattle.switch_parts.specs.declared.refusal.Refusal.{Refusal}

-- what each moment of a command's run has, given the world at its beginning and why that refuses it, if it does
abbrev pub IsMomentBy : Option Refusal → Command → WorldState → WorldState → Type 0
IsMomentBy None command w m = engine.IsMomentOf command w m
IsMomentBy (Some why) command w m = m ≡ w

-- what each moment of a run has, whose words give this command or none: without a command nothing changes
abbrev pub IsMomentFor : Option Command → WorldState → WorldState → Type 0
IsMomentFor None w m = m ≡ w
IsMomentFor (Some command) w m = (why : Option Refusal) → Refuses command w why → IsMomentBy why command w m
