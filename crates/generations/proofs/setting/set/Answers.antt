use Rattle.std.proofs.Common.{◌≡◌, refl, sym, ◌∙◌, inl}
use Rattle.host_trait.proofs.Moments.{started, told_as}
use Rattle.generations.specs.Places.{number_after}
use Rattle.generations.specs.Set.{IsSetMoment}
use Rattle.generations.proofs.Numbers.{number_of_world}
use Rattle.generations.proofs.setting.set.Goals as goal

pub returns-in_default-clause-moments : goal.returns-in_default-clause-moments
returns-in_default-clause-moments g c = started (IsSetMoment c.args.system.now) (λ w is. inl refl)

pub returns-clause-world_number : goal.returns-clause-world_number
returns-clause-world_number g c = told_as c.requires.gens (λ w. c.in-Some.number ≡ number_after w.leaves c.args.system.now) (λ w is gens.
    number_of_world w.leaves c.args.gens.now c.args.system.now c.in-Some.number gens (sym c.number_for.ensures ∙ c.in-Some.is))
