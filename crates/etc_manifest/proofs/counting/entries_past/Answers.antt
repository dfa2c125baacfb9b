use Rattle.std.proofs.Common.{not}
use Rattle.switch_names.specs.Names.{has}
use Rattle.etc_manifest.specs.Companion.{is_companion}
use Rattle.etc_manifest.proofs.CountLemmas.{few_of_few}
use Rattle.etc_manifest.proofs.counting.entries_past.Goals as goal

pub returns-then-names-le-ENTRIES_MAX : goal.returns-then-names-le-ENTRIES_MAX
returns-then-names-le-ENTRIES_MAX c = few_of_few (λ name. not (is_companion (has c.args.names.now) name)) c.args.names.now c.if-names-le-ENTRIES_MAX.true
