use Rattle.std.proofs.Common.{◌≡◌, ℕ, List, codes, false, Some, sym, subst, refl, ◌∙◌}
use Rattle.std.specs.FinMap.{get-empty}
use Rattle.worlds.proofs.parts.troubles.show_end.Goals as goal
use Rattle.host_trait.proofs.Moments.{one_world}
use Rattle.host_trait.specs.Host.{HostState, Told}
use Rattle.host_trait.specs.World.{IsClear, WorldState, empty_world, bytes_cmp, is_in_line, stage}
use Rattle.worlds.proofs.StageLemmas.{not_the_stage}

not_below : is_in_line stage (codes "etc/put") ≡ false
unfolding stage
not_below = refl

empty_clear : (host : HostState) (p : List ℕ) → host.world ≡ Some empty_world → Told host (λ w. IsClear w.leaves p)
empty_clear host p is = record {
  has = λ w told. subst (λ (x : WorldState). IsClear x.leaves p) (one_world host.world _ w is told) (λ q line. get-empty bytes_cmp q);
}

pub put_and_remove-requires-clause-other : goal.put_and_remove-requires-clause-other
put_and_remove-requires-clause-other c = λ same. not_the_stage (sym c.in_ok-to.ensures ∙ same)

pub put_and_remove-requires-clause-line : goal.put_and_remove-requires-clause-line
put_and_remove-requires-clause-line c = subst (λ p. is_in_line stage p ≡ false) (sym c.in_ok-to.ensures) not_below

pub put_and_remove-requires-clause-stage : goal.put_and_remove-requires-clause-stage
put_and_remove-requires-clause-stage c = empty_clear _ stage c.requires

pub put_and_remove-requires-clause-place : goal.put_and_remove-requires-clause-place
put_and_remove-requires-clause-place c = empty_clear _ c.in_ok-to.to c.requires
