use Rattle.std.proofs.Common.{Some, ap, refl, rules, ◌∙◌}
use Rattle.std.specs.Option.{option_or, unwrap_or}
use Rattle.unit_defs.specs.declared.reading.found.UnitFiles.{UnitFiles}
use Rattle.unit_defs.proofs.FoundLemmas.{first_kept, joins_line}
use Rattle.unit_defs.proofs.reading.found.FoundUnits.add_line.Goals as goal

pub returns : goal.returns
returns c =
    let was = c.or_insert-files.result.now in
    let files : UnitFiles = record { file = was.file; drop_ins = was.drop_ins; line = Some c.unwrap_or-first.result; wants = was.wants } in
    let puts = (c.in_ok-self.ensures.update.0 files).0 in
    joins_line c.args.self.now c.args.unit was c.new.result
    (c.or_insert-files.ensures.value ∙ ap (λ found. unwrap_or found c.new.result) c.in_ok-self.ensures.value)
    c.new.ensures.file c.new.ensures.drop_ins c.new.ensures.line c.new.ensures.wants
    _ c.args.text files (λ other. search (rules, puts other)) refl refl
    (ap (λ line. Some line) c.unwrap_or-first.ensures ∙ first_kept c.take.result c.args.text ∙ ap (λ line. option_or line (Some c.args.text)) c.take.ensures.value) refl
