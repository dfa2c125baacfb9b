use Rattle.fstab_mounts.proofs.FstabLemmas.{few}
use Rattle.fstab_mounts.proofs.fstab.unit_of_fields.Goals as goal

pub returns-in_default : goal.returns-in_default
returns-in_default c = few c.args.fields.now c.in_default.len_below
