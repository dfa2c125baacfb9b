use Rattle.std.proofs.Common.{◌<◌, ◌^◌, length, arith}
use Rattle.log_text.specs.Lists.{list_names}
use Rattle.log_text.proofs.WhichLemmas.{each_recorded}
use Rattle.log_text.proofs.writing.lists_text.Goals as goal

pub returns-clause-counted : goal.returns-clause-counted
returns-clause-counted c = each_recorded (λ which. length (list_names c.args.lists.now which) < 2 ^ 64) c.loop-which.which-index (omega arith) c.loop-which.invariant.counted
