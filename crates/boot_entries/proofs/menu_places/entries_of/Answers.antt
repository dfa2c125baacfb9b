use Rattle.boot_entries.proofs.MenuPlacesLemmas.{places_more}
use Rattle.boot_entries.proofs.menu_places.entries_of.Goals as goal

pub loop-generation-preserved : goal.loop-generation-preserved
loop-generation-preserved c = λ q.
    places_more c.args.list.now c.loop-generation.generation-index c.generation-item.result c.in_ok-at.at c.loop-generation.entries.keys c.add_place.new.entries.keys q
    c.loop-generation-test.true c.generation-item.is c.in_ok-at.ensures (c.loop-generation.invariant q) (c.in_ok-add_place.ensures q)
