use Rattle.std.proofs.Common.{◌≡◌, Some, ap, rules, ◌∙◌}
use Rattle.std.proofs.lemmas.Result.{IfOk-weaker}
use Rattle.unit_defs.specs.Fstab.{target_of}
use Rattle.unit_defs.proofs.FstabLemmas.{mount_target, swap_target}
use Rattle.unit_defs.proofs.reading.fstab.target_of.Goals as goal

pub returns-in-Mount : goal.returns-in-Mount
returns-in-Mount c =
    IfOk-weaker c.of_text.result _ (λ target. target ≡ target_of c.args.line.now)
    (λ target is. is ∙ mount_target c.args.line.now (c.kind.ensures ∙ ap (λ kind. Some kind) c.in-Mount.is) c.if-line.true) c.of_text.ensures

pub returns-in-Swap : goal.returns-in-Swap
returns-in-Swap c =
    IfOk-weaker c.of_text-in-Swap.result _ (λ target. target ≡ target_of c.args.line.now)
    (λ target is. is ∙ swap_target c.args.line.now (c.kind.ensures ∙ ap (λ kind. Some kind) c.in-Swap.is)) c.of_text-in-Swap.ensures

pub returns-in_default : goal.returns-in_default
returns-in_default c = search rules steps 300000
