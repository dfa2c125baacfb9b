use Rattle.std.proofs.Common.{◌≡◌, ◌++◌, ℕ, List, map, take}
use Rattle.std.specs.List.{flat_map}
use Rattle.generations.specs.Places.{link_path}
use Rattle.dry_report.specs.Collecting.{gone_line}
use Rattle.dry_report.proofs.collecting.write_all_gone.Given as goal

-- the generations so far are told
abbrev pub invariant-loop-link : goal.invariant-loop-link
invariant-loop-link l =
    (numbers : List ℕ) → l.links ≡ map link_path numbers → l.out.items ≡ l.fn.out.items ++ flat_map gone_line (take l.link-index numbers)
