use Rattle.store_live.specs.Grown.{IsPathOf}
use Rattle.store_live.proofs.GrownLemmas.{grown_one}
use Rattle.store_live.proofs.PathLemmas.{one_path, some_path}
use Rattle.store_live.proofs.places.add_store_path.Goals as goal

-- the path is added, and a place lies in no other
pub returns-in_ok-insert : goal.returns-in_ok-insert
returns-in_ok-insert c =
    let there = some_path c.args.place.now c.in_ok-path.field-0 c.in-Some.path c.in-Some.is c.in_ok-path.ensures.some in
    grown_one c.args.stored.now.keys c.insert.new.self.keys c.in-Some.path (IsPathOf c.args.place.now) c.in_ok-insert.ensures.updates.0 there
    (λ x of. one_path x c.in-Some.path c.args.place.now of.path there.path of.inside there.inside)
