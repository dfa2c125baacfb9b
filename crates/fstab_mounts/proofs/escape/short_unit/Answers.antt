use Rattle.std.proofs.Common.{ap, ◌∙◌, arith}
use Rattle.std.proofs.lemmas.Result.{IfOk-weaker}
use Rattle.switch_names.specs.UnitName.{named_unit}
use Rattle.fstab_mounts.proofs.EscapeLemmas.{named_is, small_bytes}
use Rattle.fstab_mounts.proofs.escape.short_unit.Goals as goal

pub returns : goal.returns
returns c =
    IfOk-weaker c.of_text.result _ _
    (λ unit e. e ∙ ap named_unit (c.as_str.ensures.value ∙ c.in_ok-text.ensures)
    ∙ named_is c.args.path.now c.args.kind (small_bytes c.args.path.now (λ i. let fits = c.type_inv.path i in omega arith)))
    c.of_text.ensures
