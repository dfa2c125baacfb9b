use Rattle.host_trait.specs.Manager.{HasPlainTexts}
use Rattle.worlds.proofs.parts.managers.make.Given as goal

abbrev pub invariant-loop-call : goal.invariant-loop-call
invariant-loop-call l = HasPlainTexts l.state
