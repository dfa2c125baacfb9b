use Rattle.etc_manifest.proofs.ApartLemmas.{are_apart}
use Rattle.etc_manifest.proofs.laws.manifests_are_apart.Goals as goal

pub returns : goal.returns
returns c = λ leaves system owners items named sound is. are_apart leaves system owners items named sound is
