use Rattle.std.proofs.Common.{◌≡◌, take}
use Rattle.std.specs.List.{flat_map}
use Rattle.dry_report.specs.GenerationList.{listed_line}
use Rattle.dry_report.proofs.listing.generation_list.Given as goal

-- the generations so far are listed
abbrev pub invariant-loop-generation : goal.invariant-loop-generation
invariant-loop-generation l = l.out.items ≡ flat_map (listed_line l.fn.gens.current) (take l.generation-index l.fn.gens.list)
