use Rattle.std.proofs.Common.{◌≡◌, [], ◌∷◌, refl, sym, ◌∙◌}
use Rattle.host_trait.specs.Sink.{IsPrefixOf}
use Rattle.dry_report.proofs.CloseLemmas.{failed_lines, none_failed, one_failed}
use Rattle.dry_report.proofs.PutLemmas.{puts_nothing, same_part, same_text}
use Rattle.dry_report.proofs.closing.put_one.Goals as goal

pub returns-in_err-put_failed-clause-prefix : goal.returns-in_err-put_failed-clause-prefix
returns-in_err-put_failed-clause-prefix g c =
    same_part (one_failed c.args.defs.now c.args.one.now (sym c.is_failed_of.ensures ∙ c.if-is_failed_of.true)) c.put_failed.ensures.prefix

pub returns-in_ok-put_failed-clause-ok : goal.returns-in_ok-put_failed-clause-ok
returns-in_ok-put_failed-clause-ok g c =
    same_text (one_failed c.args.defs.now c.args.one.now (sym c.is_failed_of.ensures ∙ c.if-is_failed_of.true)) c.in_ok-put_failed.ensures.ok

pub returns-in_ok-put_failed-clause-prefix : goal.returns-in_ok-put_failed-clause-prefix
returns-in_ok-put_failed-clause-prefix g c =
    same_part (one_failed c.args.defs.now c.args.one.now (sym c.is_failed_of.ensures ∙ c.if-is_failed_of.true)) c.put_failed.ensures.prefix

pub returns-else-is_failed_of-clause-ok : goal.returns-else-is_failed_of-clause-ok
returns-else-is_failed_of-clause-ok g c =
    puts_nothing (g.S.Sink.sink c.args.out.now) (λ more. more ≡ failed_lines c.args.defs.now (c.args.one.now ∷ []))
    (none_failed c.args.defs.now c.args.one.now (sym c.is_failed_of.ensures ∙ c.if-is_failed_of.false))

pub returns-else-is_failed_of-clause-prefix : goal.returns-else-is_failed_of-clause-prefix
returns-else-is_failed_of-clause-prefix g c =
    puts_nothing (g.S.Sink.sink c.args.out.now) (IsPrefixOf (failed_lines c.args.defs.now (c.args.one.now ∷ []))) (failed_lines c.args.defs.now (c.args.one.now ∷ []), refl)
