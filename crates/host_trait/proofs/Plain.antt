-- The texts of a manager stay plain.
use Rattle.std.proofs.Common.{refl}
use Rattle.host_trait.specs.Manager.{HasPlainTexts, empty_manager}

pub plain_empty : HasPlainTexts empty_manager
plain_empty = record { loaded = refl; bad = tt; journal = tt }
