use Rattle.etc_manifest.proofs.WantedLemmas.{entry_is, places_are}
use Rattle.etc_manifest.proofs.laws.manifests_say_what_is_wanted.Goals as goal

pub returns : goal.returns
returns c = λ leaves system owners items is. (places_are leaves system owners items is, entry_is leaves system owners items is)
