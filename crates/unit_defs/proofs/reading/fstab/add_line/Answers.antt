use Rattle.std.proofs.lemmas.Result.{on_ok_weaker}
use Rattle.unit_defs.proofs.FstabLemmas.{joins_one}
use Rattle.unit_defs.proofs.reading.fstab.add_line.Goals as goal

pub returns : goal.returns
returns c = on_ok_weaker c.add_wanted.result (λ wanted.
    joins_one c.args.line.now c.in_ok-copy.field-0 c.in_ok-copy-2.field-0 c.args.found.now c.add_line.new.self c.add_wanted.new.found c.in_ok-copy.ensures c.in_ok-copy-2.ensures
    c.in_ok-add_line.ensures wanted) c.add_wanted.ensures
