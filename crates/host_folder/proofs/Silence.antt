-- A host that tells nothing has nothing to show of its moments.
use Rattle.std.proofs.Common.{ℕ, Result, Ok, Err, OnOk, refl, arith}
use Rattle.std.proofs.lemmas.Option.{none-some}
use Rattle.host_trait.specs.World.{WorldState}
use Rattle.host_trait.specs.Host.{Leads, Passes}
use Rattle.host_folder.specs.Folder.{silent_state}

pub silence : (R : WorldState → WorldState → Type 0) (before now : ℕ) → Passes (silent_state before) (silent_state now) R
silence R before now = record {
  later = omega arith;
  nothing_else = λ t m le left. absurd left;
  keeps = λ t m le left. absurd left;
  tells = record { to = λ w is. absurd (none-some w is) };
  silent = λ e. refl;
}

-- a call that ends well has nothing to show of its end
pub silent_end : {T E : Type 0} (result : Result T E) (R : WorldState → WorldState → Type 0) (before now : ℕ) → OnOk result (Leads (silent_state before) (silent_state now) R)
silent_end (Ok given) R before now = record { to = λ w is. absurd (none-some w is) }
silent_end (Err fault) R before now = tt
