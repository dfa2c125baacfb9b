use Rattle.etc_manifest.proofs.TakenLemmas.{none_past, taken_short}
use Rattle.etc_manifest.proofs.laws.taken_contents_are_short.Goals as goal

pub returns-clause-short : goal.returns-clause-short
returns-clause-short c = λ leaves system owners items named is. taken_short leaves system owners items named is

pub returns-clause-none_past : goal.returns-clause-none_past
returns-clause-none_past c = λ leaves system owners items named is. none_past leaves system owners items named is
