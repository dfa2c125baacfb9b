use Rattle.std.proofs.Common.{rules}
use Rattle.etc_manifest.proofs.entry.owned_kind.Goals as goal

pub returns-in_ok-copy-in_default-clause-kind : goal.returns-in_ok-copy-in_default-clause-kind
returns-in_ok-copy-in_default-clause-kind c = search rules steps 300000
