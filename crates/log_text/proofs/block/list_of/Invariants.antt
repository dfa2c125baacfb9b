use Rattle.std.proofs.Common.{◌≢◌, take}
use Rattle.std.specs.List.{AllByRecursion}
use Rattle.log_text.specs.Lists.{record_order}
use Rattle.log_text.specs.Log.{header_of}
use Rattle.log_text.proofs.block.list_of.Given as goal

-- the lists so far don't begin with the line
abbrev pub invariant-loop-which : goal.invariant-loop-which
invariant-loop-which l = AllByRecursion (λ which. l.line ≢ header_of which l.count) (take l.which-index record_order)
