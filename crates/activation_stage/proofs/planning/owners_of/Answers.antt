use Rattle.std.proofs.Common.{◌≡◌}
use Rattle.std.proofs.lemmas.Result.{IfOk-weaker}
use Rattle.etc_manifest.specs.Owners.{AreOwnersOf}
use Rattle.activation_stage.specs.Owners.{owners_in}
use Rattle.activation_stage.proofs.OwnerLemmas.{owners_are}
use Rattle.activation_stage.proofs.planning.owners_of.Goals as goal

pub returns : goal.returns
returns c =
    let tables = c.args.tables.now in
    IfOk-weaker c.of.result (AreOwnersOf tables) (λ owners. owners ≡ owners_in tables) (owners_are tables) c.of.ensures
