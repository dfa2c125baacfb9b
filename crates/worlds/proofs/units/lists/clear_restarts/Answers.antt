use Rattle.worlds.proofs.units.lists.clear_restarts.Goals as goal

pub read-requires : goal.read-requires
read-requires c = record { found = record { has = λ w is. c.nothing_found-findings.ensures w.leaves } }
