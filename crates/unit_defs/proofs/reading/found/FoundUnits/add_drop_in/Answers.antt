use Rattle.std.proofs.Common.{ap, refl, rules, ◌∙◌}
use Rattle.std.specs.Option.{unwrap_or}
use Rattle.std.proofs.lemmas.Result.{on_ok_weaker}
use Rattle.unit_defs.specs.declared.reading.found.UnitFiles.{UnitFiles}
use Rattle.unit_defs.proofs.FoundLemmas.{takes_drop_in}
use Rattle.unit_defs.proofs.reading.found.FoundUnits.add_drop_in.Goals as goal

pub returns : goal.returns
returns c =
    let was = c.or_insert-files.result.now in
    let files : UnitFiles = record { file = was.file; drop_ins = c.insert_new.new.drop_ins; line = was.line; wants = was.wants } in
    let puts = (c.in_ok-self.ensures.update.0 files).0 in
    on_ok_weaker c.insert_new.result (λ drops.
    takes_drop_in c.args.self.now c.args.unit was c.new.result
    (c.or_insert-files.ensures.value ∙ ap (λ found. unwrap_or found c.new.result) c.in_ok-self.ensures.value)
    c.new.ensures.file c.new.ensures.drop_ins c.new.ensures.line c.new.ensures.wants
    _ c.args.name c.args.part c.in-Some.part files c.in-Some.is (λ other. search (rules, puts other)) refl refl refl drops) c.insert_new.ensures
