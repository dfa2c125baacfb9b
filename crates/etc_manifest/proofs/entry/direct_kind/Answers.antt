use Rattle.std.proofs.Common.{ap}
use Rattle.etc_manifest.specs.Kind.{direct_kind}
use Rattle.etc_manifest.proofs.entry.direct_kind.Goals as goal

pub returns-in-Some-clause-kind : goal.returns-in-Some-clause-kind
returns-in-Some-clause-kind c = ap (direct_kind c.args.name.now) c.in-Some.is
