use Rattle.std.proofs.Common.{List, map, sym, ap, subst, ◌∙◌}
use Rattle.std.proofs.lemmas.Result.{IfOk-weaker}
use Rattle.std.specs.FinMap.{get}
use Rattle.std.specs.List.{AllByRecursion}
use Rattle.std.specs.Option.{option_or}
use Rattle.id_memory.specs.declared.id_row.IdRow.{IdRow}
use Rattle.users_merge.specs.ByName.{row_ids}
use Rattle.users_merge.specs.Given.{IsId}
use Rattle.users_merge.proofs.RememberedLemmas.{known_bounded, no_values, remembered}
use Rattle.users_merge.proofs.TableLemmas.{given_id}
use Rattle.users_merge.proofs.remembering.with_ids.Goals as goal

pub insert_ids-requires : goal.insert_ids-requires
insert_ids-requires g c = record {
  bounded =
      subst (λ (rows : List IdRow). AllByRecursion IsId (map (λ (row : IdRow). row.id) rows)) (sym (c.as_slice.ensures ∙ c.rows.ensures.rows)) (known_bounded c.args.known.now c.rows.ensures.are_ids);
  were_bounded = no_values c.new-ids.result.entries c.new-ids.ensures.empty;
}

pub returns : goal.returns
returns g c =
    IfOk-weaker c.id_map.result _ _
    (λ ids are name.
    are name ∙ c.in_ok-insert_ids-2.ensures.ids name
    ∙ remembered c.args.known.now c.as_slice.result.now name (row_ids (λ one. (g.D.Declaration.asked one.account.now).name) (λ one. one.id) c.args.given.now name) c.new-ids.result c.insert_ids.new.ids
    (c.as_slice.ensures ∙ c.rows.ensures.rows) c.new-ids.ensures.empty (c.in_ok-insert_ids.ensures.ids name)
    ∙ ap (λ o. option_or o (get c.args.known.now name)) (sym (given_id g.D.Declaration.asked c.args.given.now name)))
    c.id_map.ensures
