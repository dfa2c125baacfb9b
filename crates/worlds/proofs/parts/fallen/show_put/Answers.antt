use Rattle.std.proofs.Common.{sym, subst}
use Rattle.host_trait.specs.World.{stage}
use Rattle.tree_put.specs.Put.{AreApart}
use Rattle.worlds.proofs.FallenLemmas.{can_put, place_apart}
use Rattle.worlds.proofs.parts.fallen.show_put.Goals as goal

pub put-requires-clause-apart : goal.put-requires-clause-apart
put-requires-clause-apart c = subst (λ p. AreApart p stage) (sym c.requires.at) place_apart

pub put-requires-clause-can : goal.put-requires-clause-can
put-requires-clause-can c = can_put _ c.args.at.now c.requires.host
