use Rattle.std.proofs.Common.{ap, option_copied, option_map, rules}
use Rattle.unit_defs.specs.Part.{part_of}
use Rattle.unit_defs.proofs.part.FilePart.read.Goals as goal
use Rattle.switch_names.proofs.Outcomes.{none_left}

pub returns-in_default : goal.returns-in_default
returns-in_default c =
    let none = ap (λ o. option_map part_of (option_copied o)) (none_left c.args.content c.in_default.not-Some) in
    search (rules, none) steps 300000

pub returns-in-Ok : goal.returns-in-Ok
returns-in-Ok c = search rules steps 300000
