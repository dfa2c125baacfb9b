use Rattle.etc_manifest.proofs.NameLemmas.{unreserved}
use Rattle.etc_manifest.proofs.place.is_reserved_name.Goals as goal

pub returns-in_default : goal.returns-in_default
returns-in_default c =
    unreserved c.first_name.result.now c.args.name.now c.first_name.ensures c.in_default.not-static c.in_default.not-text c.in_default.not-passwd c.in_default.not-group c.in_default.not-shadow
    c.in_default.not-subuid c.in_default.not-subgid
