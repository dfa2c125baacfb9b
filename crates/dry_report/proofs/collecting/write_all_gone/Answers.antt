use Rattle.std.proofs.Common.{length, refl}
use Rattle.std.proofs.lemmas.Option.{slice_get_read}
use Rattle.dry_report.proofs.CollectionLemmas.{gone_more}
use Rattle.dry_report.proofs.collecting.write_all_gone.Goals as goal

pub loop-link-preserved : goal.loop-link-preserved
loop-link-preserved c = λ numbers are.
    let links = c.args.links.now in
    let there = slice_get_read links (length links) c.loop-link.link-index c.link-item.result refl c.loop-link-test.true c.link-item.is in
    gone_more numbers links are c.loop-link.link-index c.link-item.result there c.args.out.now.items c.loop-link.out.items c.write_gone.new.out.items (c.loop-link.invariant numbers are) c.in_ok-write_gone.ensures
