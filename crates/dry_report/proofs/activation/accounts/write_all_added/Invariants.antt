use Rattle.std.proofs.Common.{◌≡◌, ◌++◌, take}
use Rattle.dry_report.specs.Lines.{added_lines}
use Rattle.dry_report.proofs.activation.accounts.write_all_added.Given as goal

-- the names so far are told
abbrev pub invariant-loop-name : goal.invariant-loop-name
invariant-loop-name g l = l.out.items ≡ l.fn.out.items ++ added_lines g.R.Named.name_of g.R.Numbered.id_of l.front l.new (take l.name-index l.names)
