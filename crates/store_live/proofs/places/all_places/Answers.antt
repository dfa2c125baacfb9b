use Rattle.std.proofs.Common.{List, subst}
use Rattle.host_trait.proofs.Moments.{told_as}
use Rattle.host_trait.proofs.Readings.{read_handed, read_ok, read_then, told_read}
use Rattle.switch_names.specs.Names.{Name}
use Rattle.store_live.specs.Grown.{AreAll, AtSome, IsListedAt}
use Rattle.store_live.specs.StorePaths.{IsPlace}
use Rattle.store_live.proofs.GrownLemmas.{all_as, grown_from}
use Rattle.store_live.proofs.PathLemmas.{places_are}
use Rattle.store_live.proofs.places.all_places.Goals as goal

pub returns-clause-places : goal.returns-clause-places
returns-clause-places g c =
    let added = told_read c.tops.ensures.reads c.in_ok-add_all_places.ensures.added in
    told_as added (λ w. AreAll c.add_all_places.new.places (IsPlace w.leaves)) (λ w is grown.
    all_as c.add_all_places.new.places (AtSome c.in_ok-tops.tops (IsListedAt w.leaves)) (IsPlace w.leaves) (places_are w.leaves c.in_ok-tops.tops (c.in_ok-tops.ensures.tops.has w is))
    (subst (λ (l : List Name). AreAll c.add_all_places.new.places (AtSome l (IsListedAt w.leaves))) c.as_slice.ensures
    (grown_from c.new-places.result c.add_all_places.new.places (AtSome c.as_slice.result.now (IsListedAt w.leaves)) c.new-places.ensures grown)))

pub returns-clause-reads : goal.returns-clause-reads
returns-clause-reads g c = read_ok (read_then c.tops.ensures.reads c.add_all_places.ensures.reads) c.add_all_places.new.places

pub returns-in_err-add_all_places-clause-reads : goal.returns-in_err-add_all_places-clause-reads
returns-in_err-add_all_places-clause-reads g c = read_handed (read_then c.tops.ensures.reads c.in_err-add_all_places.ensures.reads) _ c.from_residual-in_err-add_all_places.ensures.1
