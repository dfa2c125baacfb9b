use Rattle.std.proofs.Common.{◌≡◌, ◌++◌, take}
use Rattle.std.specs.List.{flat_map}
use Rattle.dry_report.specs.Lines.{kept_line}
use Rattle.dry_report.proofs.activation.accounts.write_all_kept.Given as goal

-- the accounts so far are told
abbrev pub invariant-loop-one : goal.invariant-loop-one
invariant-loop-one l = l.out.items ≡ l.fn.out.items ++ flat_map kept_line (take l.one-index l.kept)
