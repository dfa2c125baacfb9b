use Rattle.std.proofs.Common.{refl}
use Rattle.host_trait.proofs.Moments.{started}
use Rattle.etc_farm.specs.FarmPart.{farm_of}
use Rattle.etc_farm.specs.Making.{IsMaking}
use Rattle.etc_farm.specs.Making.IsMaking.{Before}
use Rattle.etc_farm.proofs.farm.apply.Goals as goal

pub apply_prepared-requires-clause-prepared : goal.apply_prepared-requires-clause-prepared
apply_prepared-requires-clause-prepared g c = record { has = λ w is. c.in_ok-prepared.ensures }

pub apply_prepared-requires-clause-can : goal.apply_prepared-requires-clause-can
apply_prepared-requires-clause-can g c = c.requires

pub returns-in_err-prepared-clause-steps : goal.returns-in_err-prepared-clause-steps
returns-in_err-prepared-clause-steps g c =
    started (IsMaking (farm_of c.args.system.now c.args.manifest.now)) (λ w is. Before refl)
