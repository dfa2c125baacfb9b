use Rattle.std.proofs.Common.{◌≡◌, filter, take}
use Rattle.std.specs.BTreeSet.{contains}
use Rattle.std.specs.Ordering.{nat_cmp}
use Rattle.boot_entries.specs.Texts.{is_gone_by}
use Rattle.boot_entries.proofs.gone.gone_among.Given as goal

-- those of the paths so far
abbrev pub invariant-loop-path : goal.invariant-loop-path
invariant-loop-path l = l.gone ≡ filter (is_gone_by (contains nat_cmp l.numbers)) (take l.path-index l.paths)
