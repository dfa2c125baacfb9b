use Rattle.std.proofs.Common.{subst, sym, ◌∙◌, arith}
use Rattle.start_order.specs.Graph.{AreMarks, befores_of, unit_at}
use Rattle.start_order.proofs.GraphLemmas.{places_within, row_places, unit_there}
use Rattle.start_order.proofs.MarkLemmas.{any_open, more_passed, waits_by_row}
use Rattle.start_order.proofs.marks.waits_at.Goals as goal

pub passed_of-passed-requires-clause-places : goal.passed_of-passed-requires-clause-places
passed_of-passed-requires-clause-places c k d less =
    let units = c.args.graph.now.units.now in let edges = c.args.graph.now.edges.now in let row = c.row_at-row.result.now in
    let there = places_within units row (befores_of edges (unit_at units c.args.at)) k d (row_places units c.args.graph.now.befores (befores_of edges) c.args.at row c.requires.graph.befores_are c.requires.there c.row_at-row.ensures) less in
    let many = c.requires.marks.many_taken in
    omega (arith, there, many)

pub passed_of-passed-requires-clause-known : goal.passed_of-passed-requires-clause-known
passed_of-passed-requires-clause-known c =
    let units = c.args.graph.now.units.now in let edges = c.args.graph.now.edges.now in let row = c.row_at-row.result.now in
    any_open units edges c.args._left.now.keys c.args.marks.now c.requires.marks row (befores_of edges (unit_at units c.args.at)) c.known_at-known.result
    (row_places units c.args.graph.now.befores (befores_of edges) c.args.at row c.requires.graph.befores_are c.requires.there c.row_at-row.ensures)
    ∙ c.requires.marks.passed c.args.at (unit_at units c.args.at) c.known_at-known.result (unit_there units c.args.at c.requires.there) c.known_at-known.ensures

pub unit_of-requires : goal.unit_of-requires
unit_of-requires c k d less =
    let units = c.args.graph.now.units.now in let edges = c.args.graph.now.edges.now in let row = c.row_at-row.result.now in
    places_within units row (befores_of edges (unit_at units c.args.at)) k d (row_places units c.args.graph.now.befores (befores_of edges) c.args.at row c.requires.graph.befores_are c.requires.there c.row_at-row.ensures) less

pub returns-clause-waits : goal.returns-clause-waits
returns-clause-waits c unit at =
    waits_by_row c.args.graph.now.units.now c.args.graph.now.edges.now c.args._left.now.keys c.args.marks.now c.requires.marks c.row_at-row.result.now unit c.passed_of-passed.result _ c.requires.graph.edges_between.sorted c.requires.left
    (c.requires.graph.befores_are.each c.args.at unit c.row_at-row.result.now at c.row_at-row.ensures) c.passed_of-passed.ensures.passed c.passed_of-passed.ensures.next c.unit_of.ensures.none c.unit_of.ensures.some

pub returns-clause-marks : goal.returns-clause-marks
returns-clause-marks c =
    let units = c.args.graph.now.units.now in let edges = c.args.graph.now.edges.now in let row = c.row_at-row.result.now in
    subst (λ passed. AreMarks units edges c.args._left.now.keys (record { taken = c.args.marks.now.taken; passed = passed })) (sym c.replace-known.ensures.new)
    (more_passed units edges c.args._left.now.keys c.args.marks.now c.requires.marks c.args.at c.passed_of-passed.result (unit_at units c.args.at) (unit_there units c.args.at c.requires.there)
    (sym (any_open units edges c.args._left.now.keys c.args.marks.now c.requires.marks row (befores_of edges (unit_at units c.args.at)) c.passed_of-passed.result
    (row_places units c.args.graph.now.befores (befores_of edges) c.args.at row c.requires.graph.befores_are c.requires.there c.row_at-row.ensures)) ∙ c.passed_of-passed.ensures.passed))
