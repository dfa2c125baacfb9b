use Rattle.std.proofs.Common.{rules}
use Rattle.unit_defs.proofs.FoundLemmas.{put_new}
use Rattle.unit_defs.proofs.reading.found.insert_new.Goals as goal

pub returns : goal.returns
returns c =
    let puts = (c.in_ok-drop_ins.ensures.update.0 c.or_insert.result.now).0 in
    put_new c.args.drop_ins.now.entries _ c.args.name c.args.part (λ other. search (rules, puts other))
