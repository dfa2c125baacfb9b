use Rattle.std.proofs.Common.{◌≡◌, ◌&&◌, take}
use Rattle.std.specs.List.{flat_map}
use Rattle.switch_names.specs.Names.{Name, has}
use Rattle.unit_decide.specs.Sockets.{words}
use Rattle.owed_plan.proofs.edges.named_starts.Given as goal

-- the words of the values so far have been looked at
abbrev pub invariant-loop-value : goal.invariant-loop-value
invariant-loop-value l = (name : Name) → has l.named name ≡ (has l.starts name && has (flat_map words (take l.value-index l.values)) name)
