-- The words of a command.
use Rattle.std.proofs.Common.{◌≡◌, ℕ, Bool, true, false, codes, nat_eq, List, [], ◌∷◌, Option, None, Some, cond, is_none, option_and_then, unwrap_or, ap, refl, sym, subst, ◌∙◌}
use Rattle.std.proofs.lemmas.Option.{none-some}
use Rattle.host_trait.specs.World.{Leaves}
use Rattle.switch_engine.specs.declared.command.Command.{Command}
use Rattle.switch_engine.specs.declared.command.Command.TheVariants.{Switch, Test, Boot, DryActivate, Rollback, StartUp}
use Rattle.switch_engine.specs.Commands.{lacks_system, named_by, new_system, system_of}
use Rattle.switch_engine.proofs.GoalKeptLemmas.{names_it}
use Rattle.generations.specs.Boot.{boot_system}
use Rattle.generations.specs.Goal.{goal}
use Rattle.generations.specs.Places.{generation_at}
use Rattle.generations.proofs.AfterLemmas.{named_at}
use Rattle.generations.proofs.BootLemmas.{named_law}
use Rattle.generations.proofs.GoalLemmas.{goal_names}
use Rattle.std.proofs.lemmas.Bool.{both_ways}
use Rattle.std.specs.Cmp.Lexicographic.{pointwise}
use Rattle.switch_names.specs.declared.name_fault.NameFault.{NameFault}
use Rattle.switch_names.specs.SystemName.{IsSystemPath, system_fault, system_path, named_system}
use Rattle.switch_names.proofs.StorePaths.{IsSystemPath-from_named}
use Rattle.switch_run.specs.Commands.{command_for, command_of}

-- the system that a text names
pub system_is : (text word system : List ℕ) → text ≡ word → system ≡ system_path text → system_fault text ≡ None → Some system ≡ named_system word
system_is text word system same is none =
    ap Some is ∙ sym (ap (λ f. cond (is_none f) (Some (system_path text)) None) none) ∙ ap named_system same

-- a command for a system is about it, whichever it is
pub same_command : (one other : Command) → Some one ≡ Some other → one ≡ other
same_command one other is = cc

module _ (system : List ℕ) (named : IsSystemPath system) (leaves : Leaves) (command : Command) where
  named_as : (one : Command) → new_system one leaves ≡ system → Some one ≡ Some command → IsSystemPath (new_system command leaves)
  named_as one about is = subst (λ (c : Command). IsSystemPath (new_system c leaves)) (same_command one command is) (subst IsSystemPath (sym about) named)

  named_for : (switch test boot dry : Bool) →
      cond switch (Some (Switch system)) (cond test (Some (Test system)) (cond boot (Some (Boot system)) (cond dry (Some (DryActivate system)) None))) ≡ Some command → IsSystemPath (new_system command leaves)
  named_for true test boot dry is = named_as (Switch system) refl is
  named_for false true boot dry is = named_as (Test system) refl is
  named_for false false true dry is = named_as (Boot system) refl is
  named_for false false false true is = named_as (DryActivate system) refl is
  named_for false false false false is = absurd (none-some command is)

-- a rollback that has a goal is about the system that it names
named_back : (leaves : Leaves) (o : Option ℕ) → goal leaves ≡ o → is_none o ≡ false → IsSystemPath (system_of o leaves)
named_back leaves None is has = absurd (both_ways _ has refl)
named_back leaves (Some n) is has = named_at leaves n (Some (named_by (generation_at leaves n))) (names_it (generation_at leaves n) (goal_names leaves n is))

-- a start-up that has a system is about what the machine boots into
named_booted : (leaves : Leaves) (o : Option (List ℕ)) → boot_system leaves ≡ o → is_none o ≡ false → IsSystemPath (unwrap_or o [])
named_booted leaves None is has = absurd (both_ways _ has refl)
named_booted leaves (Some system) is has = let names = (named_law leaves system).1 is in named_at leaves names.number (Some system) names.named

-- words give a command for a system, a rollback, or a start-up
pub named_of : (words : List (List ℕ)) (command : Command) → command_of words ≡ Some command → (leaves : Leaves) → lacks_system command leaves ≡ false → IsSystemPath (new_system command leaves)
named_of [] command is leaves has = absurd (none-some command is)
named_of (verb ∷ []) command is leaves has = by (pointwise nat_eq verb (codes "rollback")) (pointwise nat_eq verb (codes "start-up")) is has
  where
    by : (back start : Bool) → cond back (Some Rollback) (cond start (Some StartUp) None) ≡ Some command → lacks_system command leaves ≡ false → IsSystemPath (new_system command leaves)
    by true start is has =
        let same = same_command Rollback command is in
        subst (λ (c : Command). IsSystemPath (new_system c leaves)) same (named_back leaves (goal leaves) refl (subst (λ (c : Command). lacks_system c leaves ≡ false) (sym same) has))
    by false true is has =
        let same = same_command StartUp command is in
        subst (λ (c : Command). IsSystemPath (new_system c leaves)) same (named_booted leaves (boot_system leaves) refl (subst (λ (c : Command). lacks_system c leaves ≡ false) (sym same) has))
    by false false is has = absurd (none-some command is)
named_of (verb ∷ word ∷ []) command is leaves has = by (system_fault word) refl is
  where
    by : (fault : Option NameFault) → system_fault word ≡ fault → option_and_then (command_for verb) (cond (is_none fault) (Some (system_path word)) None) ≡ Some command → IsSystemPath (new_system command leaves)
    by None none is = named_for (system_path word) (IsSystemPath-from_named word none) leaves command _ _ _ _ is
    by (Some fault) because is = absurd (none-some command is)
named_of (verb ∷ word ∷ more ∷ rest) command is leaves has = absurd (none-some command is)
