use Rattle.std.proofs.Common.{◌≢◌, arith}
use Rattle.log_text.specs.Log.{header_of}
use Rattle.log_text.proofs.WhichLemmas.{each_recorded}
use Rattle.log_text.proofs.block.list_of.Goals as goal

pub returns : goal.returns
returns c = each_recorded (λ which. c.args.line.now ≢ header_of which c.args.count) c.loop-which.which-index (omega arith) c.loop-which.invariant
