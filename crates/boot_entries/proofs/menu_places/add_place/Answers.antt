use Rattle.boot_entries.proofs.MenuPlacesLemmas.{place_added}
use Rattle.boot_entries.proofs.menu_places.add_place.Goals as goal

pub returns-in_ok-insert : goal.returns-in_ok-insert
returns-in_ok-insert c = λ q. place_added c.args.entries.now.keys c.insert.new.self.keys c.in-Some.at c.args.at q c.in-Some.is (c.in_ok-insert.ensures.updates.0 q)
