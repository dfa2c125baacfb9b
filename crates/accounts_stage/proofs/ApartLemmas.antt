-- The stage lies neither above nor below a place of accounts.
use Rattle.std.proofs.Common.{refl}
use Rattle.accounts_stage.specs.Places.{account_places}
use Rattle.accounts_stage.proofs.OwnLemmas.{accounts_open, none_any}
use Rattle.host_trait.specs.World.{is_in_line, stage}
use Rattle.tree_put.specs.WrittenPlace.{AreApartFromStage}

pub accounts_apart : AreApartFromStage account_places
unfolding stage accounts_open
accounts_apart = none_any (λ place. is_in_line stage place.at) account_places refl
