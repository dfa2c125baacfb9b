use Rattle.std.proofs.Common.{ap, rules, ◌∙◌}
use Rattle.std.specs.Option.{unwrap_or}
use Rattle.unit_defs.specs.declared.reading.found.UnitFiles.{UnitFiles}
use Rattle.unit_defs.proofs.FoundLemmas.{takes_file}
use Rattle.unit_defs.proofs.reading.found.FoundUnits.add_file.Goals as goal

pub returns : goal.returns
returns c =
    let was = c.or_insert-files.result.now in
    let files : UnitFiles = record { file = c.args.part; drop_ins = was.drop_ins; line = was.line; wants = was.wants } in
    let puts = (c.in_ok-self.ensures.update.0 files).0 in
    takes_file c.args.self.now c.args.unit was c.new.result
    (c.or_insert-files.ensures.value ∙ ap (λ found. unwrap_or found c.new.result) c.in_ok-self.ensures.value)
    c.new.ensures.file c.new.ensures.drop_ins c.new.ensures.line c.new.ensures.wants
    _ c.args.part (λ other. search (rules, puts other))
