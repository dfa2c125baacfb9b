use Rattle.std.proofs.Common.{ap, subst, sym}
use Rattle.std.specs.FinMap.{from_entries}
use Rattle.host_trait.proofs.Sound.{sound_empty, sound_same}
use Rattle.host_trait.specs.Manager.{HasPlainTexts}
use Rattle.host_trait.specs.World.{bytes_cmp}
use Rattle.host_trait.proofs.Plain.{plain_empty}
use Rattle.host_trait.proofs.world.World.new.Goals as goal

pub invariant_of-result : goal.invariant_of-result
invariant_of-result c = (
  sound_same _ _ (ap (from_entries {R = bytes_cmp}) c.new.ensures.empty) sound_empty,
  subst HasPlainTexts (sym c.new-2.ensures) plain_empty,
)
