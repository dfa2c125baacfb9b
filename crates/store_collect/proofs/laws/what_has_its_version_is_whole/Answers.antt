use Rattle.store_collect.proofs.VersionLemmas.{version_law}
use Rattle.store_collect.proofs.laws.what_has_its_version_is_whole.Goals as goal

pub returns : goal.returns
returns c = record { version = version_law }
