use Rattle.std.proofs.Common.{◌≡◌, ◌||◌, ◌&&◌, map, not, take}
use Rattle.switch_names.specs.Names.{Name, has}
use Rattle.dry_report.proofs.activation.changes.add_all_lacking.Given as goal

-- the names of the rows so far are there, where others lack them
abbrev pub invariant-loop-row : goal.invariant-loop-row
invariant-loop-row g l = (other : Name) → has l.names other ≡ (has l.fn.names other || (has (map g.R.Named.name_of (take l.row-index l.rows)) other && not (has l.others other)))
