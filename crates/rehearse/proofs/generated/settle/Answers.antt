use Rattle.rehearse.proofs.GeneratedLemmas.{settled_by}
use Rattle.rehearse.proofs.RepeatableLemmas.{switch_repeatable}
use Rattle.rehearse.proofs.generated.settle.Goals as goal

pub through-requires : goal.through-requires
through-requires c = record { repeatable = switch_repeatable c.in_ok-old_system.field-0 }

pub returns : goal.returns
returns c = settled_by c.in_ok-old_system.field-0 c.in_ok-_summary._summary c.args.world c.into_world.result c.in_ok-_summary.ensures.through c.new-host.ensures.world c.into_world.ensures c.in_ok-old_system.ensures
