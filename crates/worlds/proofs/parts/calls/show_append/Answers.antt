use Rattle.std.proofs.Common.{◌≡◌, sym, ◌∙◌}
use Rattle.host_trait.specs.Host.{HostState, Told}
use Rattle.host_trait.specs.World.{WorldState}
use Rattle.worlds.proofs.StageLemmas.{not_the_stage}
use Rattle.worlds.proofs.parts.calls.show_append.Goals as goal

-- what is told of a host whose world is another's is told of that one
told_as : (a b : HostState) (P : WorldState → Type 0) → b.world ≡ a.world → Told a P → Told b P
told_as a b P same told = record { has = λ w is. told.has w (sym same ∙ is) }

pub append-requires-clause-file : goal.append-requires-clause-file
append-requires-clause-file c = told_as _ _ _ (c.fail.ensures.world ∙ c.arm.ensures.world) c.in_ok-host.ensures

pub append-requires-clause-other : goal.append-requires-clause-other
append-requires-clause-other c = λ same. not_the_stage (sym c.in_ok-at.ensures ∙ same)
