use Rattle.std.proofs.Common.{ap, refl, rules, ◌∙◌}
use Rattle.std.specs.Option.{unwrap_or}
use Rattle.std.proofs.lemmas.Result.{on_ok_weaker}
use Rattle.unit_defs.specs.declared.reading.found.UnitFiles.{UnitFiles}
use Rattle.unit_defs.proofs.FoundLemmas.{takes_want}
use Rattle.unit_defs.proofs.reading.found.FoundUnits.add_want.Goals as goal

pub returns : goal.returns
returns c =
    let was = c.or_insert-files.result.now in
    let files : UnitFiles = record { file = was.file; drop_ins = was.drop_ins; line = was.line; wants = c.push.new.self } in
    let puts = (c.in_ok-self.ensures.update.0 files).0 in
    on_ok_weaker c.push.result (λ wants.
    takes_want c.args.self.now c.args.unit was c.new.result
    (c.or_insert-files.ensures.value ∙ ap (λ found. unwrap_or found c.new.result) c.in_ok-self.ensures.value)
    c.new.ensures.file c.new.ensures.drop_ins c.new.ensures.line c.new.ensures.wants
    _ c.args.name files (λ other. search (rules, puts other)) refl refl refl wants) c.push.ensures.ok
