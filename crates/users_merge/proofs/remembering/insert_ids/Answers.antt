use Rattle.std.proofs.Common.{◌≡◌, ◌+◌, ◌-◌, drop, sym, ap, subst, ◌∙◌, arith}
use Rattle.std.specs.BTreeMap.{get}
use Rattle.std.specs.List.{AllByRecursion}
use Rattle.std.specs.Map.{values_of}
use Rattle.std.specs.Option.{option_or}
use Rattle.host_trait.specs.Bytes.{bytes_cmp}
use Rattle.users_merge.specs.ByName.{row_ids}
use Rattle.users_merge.specs.Given.{IsId}
use Rattle.users_merge.proofs.RememberedLemmas.{id_of_at, inserted_bounded, inserted_more}
use Rattle.users_merge.proofs.remembering.insert_ids.Goals as goal

pub loop-at-preserved : goal.loop-at-preserved
loop-at-preserved g c =
    let at = c.loop-at.at - 1 in
    let next : c.loop-at.at ≡ c.loop-at.at - 1 + 1 = omega arith in
    record {
      within = omega arith;
      ids = λ name.
          inserted_more g.R.Named.name_of g.R.Numbered.id_of c.args.rows.now at c.index-rows-at.result c.in_ok-copy.field-0 name c.id.result (get bytes_cmp c.loop-at.ids name) (get bytes_cmp c.insert.new.self name)
          (get bytes_cmp c.args.ids.now name) (omega arith) c.index-rows-at.is (c.in_ok-copy.ensures ∙ c.name.ensures) c.id.ensures (c.in_ok-insert.ensures.updates.0 name)
          (c.loop-at.invariant.ids name ∙ ap (λ k. option_or (row_ids g.R.Named.name_of g.R.Numbered.id_of (drop k c.args.rows.now) name) (get bytes_cmp c.args.ids.now name)) next);
      bounded =
          subst (λ es. AllByRecursion IsId (values_of es)) (sym c.in_ok-insert.ensures.entries)
          (inserted_bounded c.loop-at.ids.entries c.in_ok-copy.field-0 c.id.result
          (id_of_at g.R.Numbered.id_of c.args.rows.now at c.index-rows-at.result c.id.result c.requires.bounded (omega arith) c.index-rows-at.is c.id.ensures) c.loop-at.invariant.bounded);
    }
