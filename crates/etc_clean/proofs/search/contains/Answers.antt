use Rattle.std.proofs.Common.{◌∙◌}
use Rattle.etc_clean.proofs.SearchLemmas.{searched_name}
use Rattle.etc_clean.proofs.search.contains.Goals as goal

pub returns : goal.returns
returns c = λ sorted.
    c.is_ok.ensures.value ∙ searched_name c.args.names.now c.args.name.now c.binary_search.result sorted c.binary_search.ensures.bound c.binary_search.ensures.position
