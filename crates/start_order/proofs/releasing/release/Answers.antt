use Rattle.std.proofs.Common.{◌≡◌, ◌||◌, ap, ◌∙◌, arith}
use Rattle.std.specs.List.{list_any}
use Rattle.std.proofs.lemmas.Grind.{common_steps}
use Rattle.switch_names.specs.Names.{has}
use Rattle.start_order.specs.Graph.{afters_of, is_free_one, unit_at}
use Rattle.start_order.proofs.GraphLemmas.{any_places, places_within, row_places}
use Rattle.start_order.proofs.WaitLemmas.{any_after}
use Rattle.start_order.proofs.releasing.release.Goals as goal

pub add_free-requires-clause-there : goal.add_free-requires-clause-there
add_free-requires-clause-there c =
    let units = c.args.graph.now.units.now in let edges = c.args.graph.now.edges.now in let row = c.row_at-row.result.now in
    places_within units row (afters_of edges (unit_at units c.args.at)) c.loop-place.place-index 0
    (row_places units c.args.graph.now.afters (afters_of edges) c.args.at row c.requires.graph.afters_are c.requires.there c.row_at-row.ensures) (grind (arith, common_steps))

pub returns-clause-added : goal.returns-clause-added
returns-clause-added c taken unit at =
    let units = c.args.graph.now.units.now in let edges = c.args.graph.now.edges.now in let left = c.args.left.now.keys in let row = c.row_at-row.result.now in
    let all : has c.loop-place.free.keys unit ≡ (has c.args.free.now.keys unit || list_any (λ place. is_free_one edges left unit (unit_at units place)) row) = grind (arith, common_steps) in
    all ∙ ap (λ b. has c.args.free.now.keys unit || b)
    (any_places units (is_free_one edges left unit) row (afters_of edges taken) (c.requires.graph.afters_are.each c.args.at taken row at c.row_at-row.ensures) ∙ any_after edges left taken unit)
