-- A host that tells nothing of its world has any property told.
use Rattle.std.proofs.Common.{ℕ}
use Rattle.std.proofs.lemmas.Option.{none-some}
use Rattle.host_trait.specs.Host.{Told}
use Rattle.host_trait.specs.World.{WorldState}
use Rattle.host_folder.specs.Folder.{silent_state}

pub silent_told : (faults : ℕ) (P : WorldState → Type 0) → Told (silent_state faults) P
silent_told faults P = record { has = λ w is. absurd (none-some w is) }
