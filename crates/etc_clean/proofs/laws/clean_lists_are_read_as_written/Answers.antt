use Rattle.etc_clean.proofs.CleanLemmas.{read_back_law}
use Rattle.etc_clean.proofs.laws.clean_lists_are_read_as_written.Goals as goal

pub returns : goal.returns
returns c = read_back_law
