use Rattle.std.proofs.Common.{arith, [], ◌∷◌, ◌++◌, codes, ◌∙◌}
use Rattle.std.proofs.lemmas.Grind.{common_steps}
use Rattle.dry_report.proofs.PutLemmas.{first_part, same_part, same_text, then_part}
use Rattle.dry_report.proofs.closing.put_failed.Goals as goal

pub returns-in_err-put-clause-prefix : goal.returns-in_err-put-clause-prefix
returns-in_err-put-clause-prefix g c = first_part (codes "failed ") (c.args.unit.now ++ 10 ∷ []) c.put.ensures.prefix

pub returns-in_err-put-2-clause-prefix : goal.returns-in_err-put-2-clause-prefix
returns-in_err-put-2-clause-prefix g c =
    then_part (codes "failed ") (c.args.unit.now ++ 10 ∷ []) c.in_ok-put.ensures.ok
    (first_part c.args.unit.now (10 ∷ []) (same_part (c.as_bytes.ensures.value ∙ c.as_str.ensures.text) c.put-2.ensures.prefix))

pub returns-clause-prefix : goal.returns-clause-prefix
returns-clause-prefix g c =
    then_part (codes "failed ") (c.args.unit.now ++ 10 ∷ []) c.in_ok-put.ensures.ok
    (then_part c.args.unit.now (10 ∷ []) (same_text (c.as_bytes.ensures.value ∙ c.as_str.ensures.text) c.in_ok-put-2.ensures.ok) c.put-3.ensures.prefix)

pub returns-clause-ok : goal.returns-clause-ok
returns-clause-ok g c = grind (arith, common_steps)
