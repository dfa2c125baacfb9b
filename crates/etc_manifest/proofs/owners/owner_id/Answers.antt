use Rattle.std.proofs.Common.{◌∙◌}
use Rattle.std.proofs.lemmas.Result.{IfOk-weaker}
use Rattle.etc_manifest.specs.Owners.{ids_in}
use Rattle.etc_manifest.proofs.OwnerLemmas.{no_text, text_owner}
use Rattle.etc_manifest.proofs.owners.owner_id.Goals as goal

pub returns-in-Ok : goal.returns-in-Ok
returns-in-Ok c =
    IfOk-weaker c.text_id.result _ _ (λ id is. is ∙ text_owner (ids_in c.args.ids.now) c.args.owner.now c.in-Ok.owner.now c.in-Ok.ensures.cases.0 c.in-Ok.ensures.cases.1) c.text_id.ensures

pub returns-in-Err : goal.returns-in-Err
returns-in-Err c = no_text (ids_in c.args.ids.now) c.args.owner.now c.in-Err.ensures.cases.0
