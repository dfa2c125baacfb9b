use Rattle.dry_report.proofs.CollectionLemmas.{line_of}
use Rattle.dry_report.proofs.collecting.write_gone.Goals as goal

pub returns-in-Some : goal.returns-in-Some
returns-in-Some c = line_of c.args.link.now c.in-Some.digits.now c.args.out.now.items c.write_told.new.out.items c.write_told.result c.in-Some.ensures c.write_told.ensures
