use Rattle.std.proofs.Common.{◌++◌, ap, ◌∙◌, lit<}
use Rattle.std.proofs.lemmas.Iterator.Consumers.{YieldsList-at, YieldsList-end}
use Rattle.std.proofs.lemmas.Iterator.Splits.{YieldsList-from_str_split}
use Rattle.std.proofs.lemmas.Result.{IfOk-weaker}
use Rattle.std.specs.List.{before_first, flat_map, slice_split}
use Rattle.fstab_mounts.specs.Fields.{is_backslash, unescaped_part}
use Rattle.fstab_mounts.proofs.FieldLemmas.{plain_field, split_field}
use Rattle.fstab_mounts.proofs.fields.unescaped.Goals as goal

pub returns-in_default : goal.returns-in_default
returns-in_default c = IfOk-weaker c.from_str.result _ _ (λ text e. e ∙ plain_field c.args.field.now c.in_default.ensures) c.from_str.ensures.ok

pub returns : goal.returns
returns c =
    let split = c.split-part-items.ensures in
    let end = YieldsList-end
    (YieldsList-at c.into_iter-part-iterator.ensures.into_iter_gives (YieldsList-from_str_split 92 c.in-Some.after.now (lit< tt) split.text split.has_more split.pattern))
    c.loop-part.yielded _ c.loop-part.yielded_by _ _ c.in-None.is c.next.ensures.steps in
    let before = before_first is_backslash c.args.field.now in
    c.loop-part.invariant ∙ ap (λ parts. before ++ flat_map unescaped_part parts) end.0
    ∙ ap (λ after. before ++ flat_map unescaped_part (slice_split is_backslash after)) c.in-Some.ensures.2
    ∙ split_field c.args.field.now c.in-Some.ensures.0
