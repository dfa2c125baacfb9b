use Rattle.log_text.proofs.ReadLemmas.{IsReadSoFar}
use Rattle.log_text.proofs.log.read_log.Given as goal

abbrev pub invariant-loop : goal.invariant-loop
invariant-loop l = IsReadSoFar l.text l.lists l.rest
