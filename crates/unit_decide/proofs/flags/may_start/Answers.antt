use Rattle.std.proofs.Common.{◌≡◌, ◌&&◌, true, false, not, ap, ◌∙◌}
use Rattle.unit_decide.specs.Flags.{only_manual_start, refuse_manual_start}
use Rattle.unit_decide.proofs.flags.may_start.Goals as goal

pub returns-then-not-flag : goal.returns-then-not-flag
returns-then-not-flag c =
    let refused : false ≡ refuse_manual_start c.args.new.now = c.if-not-flag.ensures in
    ap not c.flag-then-not-flag.ensures ∙ (λ i. not (refused i) && not (only_manual_start c.args.new.now))

pub returns-else-not-flag : goal.returns-else-not-flag
returns-else-not-flag c =
    let refused : true ≡ refuse_manual_start c.args.new.now = c.if-not-flag.ensures in
    ap not c.if-not-flag.false ∙ (λ i. not (refused i) && not (only_manual_start c.args.new.now))
