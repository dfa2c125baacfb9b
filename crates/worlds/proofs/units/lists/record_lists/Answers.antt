use Rattle.std.proofs.Common.{sym, subst, ◌∙◌}
use Rattle.tree_put.specs.WrittenPlace.{AreApartFromStage}
use Rattle.tree_put.proofs.FoundLemmas.{told_still}
use Rattle.worlds.proofs.LogLemmas.{places_apart, record_can}
use Rattle.worlds.proofs.units.lists.record_lists.Goals as goal

pub first_in_the_way-requires-clause-apart : goal.first_in_the_way-requires-clause-apart
first_in_the_way-requires-clause-apart c = subst AreApartFromStage (sym (c.as_slice.ensures ∙ c.in_ok-places.ensures)) places_apart

pub first_in_the_way-requires-clause-found : goal.first_in_the_way-requires-clause-found
first_in_the_way-requires-clause-found c = record { has = λ w is. c.nothing_found-findings.ensures w.leaves }

pub read-requires : goal.read-requires
read-requires c = record { found = told_still c.in_ok-first_in_the_way.ensures.reads.moments c.in_ok-first_in_the_way.ensures.found }

pub record-requires-clause-can : goal.record-requires-clause-can
record-requires-clause-can c =
    record_can _ _ c.in_ok-standing.standing c.args.lists.now c.in_ok-write.write (c.as_slice.ensures ∙ c.in_ok-places.ensures) c.in-None.is
    c.in_ok-first_in_the_way.ensures.first c.in_ok-first_in_the_way.ensures.reads.moments
    c.in_ok-standing.ensures.standing c.in_ok-standing.ensures.reads.moments
    c.in_ok-write.ensures.prepared
