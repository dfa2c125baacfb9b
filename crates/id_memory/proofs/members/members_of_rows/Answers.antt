use Rattle.std.proofs.Common.{List, ap, ◌∙◌}
use Rattle.serde_json.specs.Data.{Data, Members, number, put, unsigned}
use Rattle.serde_json.specs.View.{members_view, view}
use Rattle.serde_json.proofs.Views.{members_view-insert_entry}
use Rattle.id_memory.proofs.MemberLemmas.{Entry, put_next}
use Rattle.id_memory.proofs.members.members_of_rows.Goals as goal

pub loop-row-preserved : goal.loop-row-preserved
loop-row-preserved c =
    let row = c.row-item.result in
    let before = members_view c.loop-row.members.entries in
    ap (λ (es : List Entry). members_view es) c.in_ok-insert.ensures.entries
    ∙ members_view-insert_entry c.loop-row.members.entries c.in_ok-name.name c.from.result
    ∙ ap (λ name. put name (view c.from.result) before) (c.in_ok-name.ensures.ok ∙ c.as_str.ensures)
    ∙ ap (λ (value : Data). put row.name value before) c.from.ensures
    ∙ ap (λ (members : Members). put row.name (number (unsigned row.id)) members) c.loop-row.invariant
    ∙ put_next c.args.rows.now c.loop-row.row-index row c.requires c.loop-row-test.true c.row-item.is
