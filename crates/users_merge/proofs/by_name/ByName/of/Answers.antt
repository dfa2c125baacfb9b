use Rattle.std.proofs.Common.{◌≡◌, ◌+◌, ◌-◌, drop, refl, ap, ◌∙◌, arith}
use Rattle.account_text.specs.Order.{row_named}
use Rattle.users_merge.proofs.NameLemmas.{found_more}
use Rattle.users_merge.proofs.by_name.ByName.of.Goals as goal

pub loop-at-preserved : goal.loop-at-preserved
loop-at-preserved g c =
    let next : c.loop-at.at ≡ c.loop-at.at - 1 + 1 = omega arith in (
      omega arith,
      found_more g.R.Named.name_of c.args.rows.now (c.loop-at.at - 1) c.index-rows-at.result c.loop-at.by_name c.insert.new.self c.in_ok-copy.field-0 _ (omega arith) c.index-rows-at.is
          (c.in_ok-copy.ensures ∙ c.name.ensures) refl c.in_ok-insert.ensures.updates.0
          (λ name. c.loop-at.invariant.1 name ∙ ap (λ at. row_named g.R.Named.name_of (drop at c.args.rows.now) name) next),
    )
