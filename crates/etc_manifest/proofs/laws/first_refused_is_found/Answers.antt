use Rattle.etc_manifest.proofs.FirstLemmas.{first_refused, refused_first}
use Rattle.etc_manifest.proofs.laws.first_refused_is_found.Goals as goal

pub returns : goal.returns
returns c = λ leaves system owners fault. (first_refused leaves system owners fault, refused_first leaves system owners fault)
