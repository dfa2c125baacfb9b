use Rattle.std.proofs.Common.{◌≡◌, None, Some, sym, ap, ◌∙◌}
use Rattle.std.specs.List.{slice_get}
use Rattle.std.specs.Option.{option_copied}
use Rattle.unit_compare.specs.Walk.{next_order}
use Rattle.unit_compare.proofs.WalkLemmas.{item_at}
use Rattle.unit_compare.proofs.walk.next_order.Goals as goal

pub returns-in-Some-Some : goal.returns-in-Some-Some
returns-in-Some-Some c =
    let old : slice_get c.args.old.now c.args.old_at ≡ Some c.in-Some-Some.old.now = item_at _ _ _ c.get.ensures.lookup ∙ ap option_copied c.in-Some-Some.is-0 in
    let new : slice_get c.args.new.now c.args.new_at ≡ Some c.in-Some-Some.new.now = item_at _ _ _ c.get-2.ensures.lookup ∙ ap option_copied c.in-Some-Some.is-1 in
    ap Some c.cmp.ensures ∙ sym (λ i. next_order (old i) (new i))

pub returns-in-Some-None : goal.returns-in-Some-None
returns-in-Some-None c =
    let old : slice_get c.args.old.now c.args.old_at ≡ Some c.in-Some-None.field-0-0.now = item_at _ _ _ c.get.ensures.lookup ∙ ap option_copied c.in-Some-None.is-0 in
    let new : slice_get c.args.new.now c.args.new_at ≡ None = item_at _ _ _ c.get-2.ensures.lookup ∙ ap option_copied c.in-Some-None.is-1 in
    sym (λ i. next_order (old i) (new i))

pub returns-in-None-Some : goal.returns-in-None-Some
returns-in-None-Some c =
    let old : slice_get c.args.old.now c.args.old_at ≡ None = item_at _ _ _ c.get.ensures.lookup ∙ ap option_copied c.in-None-Some.is-0 in
    let new : slice_get c.args.new.now c.args.new_at ≡ Some c.in-None-Some.field-0-1.now = item_at _ _ _ c.get-2.ensures.lookup ∙ ap option_copied c.in-None-Some.is-1 in
    sym (λ i. next_order (old i) (new i))

pub returns-in-None-None : goal.returns-in-None-None
returns-in-None-None c =
    let old : slice_get c.args.old.now c.args.old_at ≡ None = item_at _ _ _ c.get.ensures.lookup ∙ ap option_copied c.in-None-None.is-0 in
    let new : slice_get c.args.new.now c.args.new_at ≡ None = item_at _ _ _ c.get-2.ensures.lookup ∙ ap option_copied c.in-None-None.is-1 in
    sym (λ i. next_order (old i) (new i))
