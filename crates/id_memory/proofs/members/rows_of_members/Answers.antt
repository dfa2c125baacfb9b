use Rattle.std.proofs.Common.{List, ◌++◌, ◌∷◌, [], append-nil, option_map, string_bytes, Some, sym, ap, ◌∙◌}
use Rattle.serde_json.specs.View.{view, members_view}
use Rattle.id_memory.specs.declared.id_row.IdRow.{IdRow}
use Rattle.id_memory.specs.Json.{id_in, rows_in}
use Rattle.id_memory.proofs.MemberLemmas.{Entry, row_joins, rows_are_sorted}
use Rattle.id_memory.proofs.members.rows_of_members.Goals as goal

pub loop-name-preserved : goal.loop-name-preserved
loop-name-preserved c =
    let rows = c.loop-name.rows.items in
    let name = string_bytes c.in-Some.name in
    let more = rows_in (members_view c.next.new.self) in
    ap (λ (l : List IdRow). option_map (λ rest. l ++ rest) more)
    (c.in_ok-push.ensures.items ∙ ap (λ n. rows ++ record { name = n; id = c.in-Some-id_of.id } ∷ []) c.from_string.ensures)
    ∙ row_joins rows name c.in-Some-id_of.id (id_in (view c.in-Some.value)) more (sym c.in-Some-id_of.ensures)
    ∙ ap (λ (left : List Entry). option_map (λ rest. rows ++ rest) (rows_in (members_view left))) (sym c.in-Some.ensures.steps)
    ∙ c.loop-name.invariant

pub returns-clause-sorted : goal.returns-clause-sorted
returns-clause-sorted c =
    let rows = c.loop-name.rows.items in
    rows_are_sorted c.args.members.entries rows c.len.ensures.ordered
    (sym c.loop-name.invariant ∙ ap (λ (left : List Entry). option_map (λ rest. rows ++ rest) (rows_in (members_view left))) c.in-None.ensures.steps.0 ∙ ap Some (append-nil rows))
