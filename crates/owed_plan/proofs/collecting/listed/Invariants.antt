use Rattle.std.proofs.Common.{◌≡◌, List, ℕ, take}
use Rattle.std.specs.List.{list_any}
use Rattle.log_text.specs.Lists.{list_names, record_order}
use Rattle.switch_names.specs.Names.{has}
use Rattle.owed_plan.proofs.collecting.listed.Given as goal

-- the set has the units of the lists so far
abbrev pub invariant-loop-which : goal.invariant-loop-which
invariant-loop-which l = (unit : List ℕ) → has l.set unit ≡ list_any (λ which. has (list_names l.lists which) unit) (take l.which-index record_order)
