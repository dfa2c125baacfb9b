use Rattle.std.proofs.Common.{◌≡◌, ◌⊎◌, Bool, true, false, ap, refl, ⊎_elim}
use Rattle.std.proofs.lemmas.Bool.{both_ways}
use Rattle.std.specs.FinMap.{empty}
use Rattle.switch_engine.specs.declared.command.Command.{Command}
use Rattle.switch_engine.specs.declared.command.Command.TheVariants.{Boot, Rollback, StartUp, Switch, Test}
use Rattle.switch_engine.specs.Commands.{row}
use Rattle.switch_names.specs.Names.{Name}
use Rattle.switch_engine.proofs.command.Command.is_query.Goals as goal

abbrev on_empty : Command → Bool
on_empty command = (row command empty).changes

changes : (command : Command) → ((system : Name) × command ≡ Switch system) ⊎ (((system : Name) × command ≡ Test system) ⊎ (((system : Name) × command ≡ Boot system) ⊎ ((command ≡ Rollback) ⊎ (command ≡ StartUp)))) →
    on_empty command ≡ true
changes command is = ⊎_elim
    (λ switch. ap on_empty switch.1)
    (λ others. ⊎_elim
    (λ test. ap on_empty test.1)
    (λ more. ⊎_elim
    (λ boot. ap on_empty boot.1)
    (λ last. ⊎_elim (λ back. ap on_empty back) (λ start. ap on_empty start) last)
    more)
    others)
    is

pub returns-in-Switch : goal.returns-in-Switch
returns-in-Switch c = (λ t. absurd (both_ways false refl t), λ query. absurd (both_ways (on_empty c.args.self.now) (query empty) (changes c.args.self.now c.in-Switch.is)))

pub returns-in-Switch-2 : goal.returns-in-Switch-2
returns-in-Switch-2 c = (λ t. absurd (both_ways false refl t), λ query. absurd (both_ways (on_empty c.args.self.now) (query empty) (changes c.args.self.now c.in-Switch.is)))

pub returns-in-Switch-3 : goal.returns-in-Switch-3
returns-in-Switch-3 c = (λ t. absurd (both_ways false refl t), λ query. absurd (both_ways (on_empty c.args.self.now) (query empty) (changes c.args.self.now c.in-Switch.is)))

pub returns-in-Switch-4 : goal.returns-in-Switch-4
returns-in-Switch-4 c = (λ t. absurd (both_ways false refl t), λ query. absurd (both_ways (on_empty c.args.self.now) (query empty) (changes c.args.self.now c.in-Switch.is)))

pub returns-in-Switch-5 : goal.returns-in-Switch-5
returns-in-Switch-5 c = (λ t. absurd (both_ways false refl t), λ query. absurd (both_ways (on_empty c.args.self.now) (query empty) (changes c.args.self.now c.in-Switch.is)))
