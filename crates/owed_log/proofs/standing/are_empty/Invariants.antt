use Rattle.std.proofs.Common.{◌≡◌, [], take}
use Rattle.std.specs.List.{AllByRecursion}
use Rattle.log_text.specs.Lists.{list_names, record_order}
use Rattle.owed_log.proofs.standing.are_empty.Given as goal

-- nothing is on the lists so far
abbrev pub invariant-loop-which : goal.invariant-loop-which
invariant-loop-which l = AllByRecursion (λ which. list_names l.lists which ≡ []) (take l.which-index record_order)
