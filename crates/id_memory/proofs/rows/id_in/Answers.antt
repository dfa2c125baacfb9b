use Rattle.std.proofs.Common.{◌<◌, List, length, get_or, Some, sym, ap, subst, ◌∙◌}
use Rattle.id_memory.specs.declared.id_row.IdRow.{IdRow}
use Rattle.id_memory.proofs.RowLemmas.{id_at, none_at, place_within}
use Rattle.id_memory.proofs.rows.id_in.Goals as goal

pub returns-in-Ok : goal.returns-in-Ok
returns-in-Ok c =
    ap (λ (rows : List IdRow). Some (get_or rows c.in-Ok.at c.index-as_slice-at.result).id) c.as_slice.ensures
    ∙ id_at c.args.rows.now c.in-Ok.at c.args.name.now c.index-as_slice-at.result c.requires c.in-Ok.ensures.found

pub returns-in-Err : goal.returns-in-Err
returns-in-Err c = sym (none_at c.args.rows.now c.args.name.now c.in-Err.field-0 c.in-Err.ensures.missing)

pub bounds-as_slice-at : goal.bounds-as_slice-at
bounds-as_slice-at c =
    subst (λ (rows : List IdRow). c.in-Ok.at < length rows) (sym c.as_slice.ensures) (place_within c.args.rows.now c.in-Ok.at c.args.name.now c.in-Ok.ensures.found)
