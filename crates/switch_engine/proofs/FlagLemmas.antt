-- What a command does wherever it begins.
use Rattle.std.proofs.Common.{◌≡◌, true, refl, ◌∙◌, inl, inr}
use Rattle.std.proofs.lemmas.Bool.{cases_Bool}
use Rattle.host_trait.specs.World.{Leaves}
use Rattle.switch_engine.specs.declared.command.Command.{Command}
use Rattle.switch_engine.specs.declared.row.Row.{Row}
use Rattle.switch_engine.specs.Commands.{IsBoot, IsQuery, row}

-- what a command does is the same in each world
record HasSameFlags (one other : Row) : Type 0 where
  changes : one.changes ≡ other.changes
  switches : one.switches ≡ other.switches

same_flags : (command : Command) (one other : Leaves) → HasSameFlags (row command one) (row command other)
same_flags (Command.Switch system) one other = record { changes = refl; switches = refl }
same_flags (Command.Test system) one other = record { changes = refl; switches = refl }
same_flags (Command.Boot system) one other = record { changes = refl; switches = refl }
same_flags (Command.DryActivate system) one other = record { changes = refl; switches = refl }
same_flags Command.Rollback one other = record { changes = refl; switches = refl }
same_flags Command.StartUp one other = record { changes = refl; switches = refl }

-- whether a command changes something
pub changes_on : (command : Command) (leaves : Leaves) → (IsQuery command → ⊥) → (row command leaves).changes ≡ true
changes_on command leaves changes = elim (cases_Bool (row command leaves).changes) [
  | inl on ↦ on
  | inr off ↦ absurd (changes (λ other. (same_flags command other leaves).changes ∙ off))
]

-- whether it switches the units
pub switches_on : (command : Command) (leaves : Leaves) → (IsBoot command → ⊥) → (row command leaves).switches ≡ true
switches_on command leaves not_boot = elim (cases_Bool (row command leaves).switches) [
  | inl on ↦ on
  | inr off ↦ absurd (not_boot (λ other. (same_flags command other leaves).switches ∙ off))
]
