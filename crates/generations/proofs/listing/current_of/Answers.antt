use Rattle.std.proofs.Common.{◌≡◌, ℕ, Bool, true, false, Some, IfSome, IsSome, refl, sym, ap, subst, ◌∙◌}
use Rattle.std.specs.Bool.{then_some}
use Rattle.std.specs.Option.{is_some}
use Rattle.host_trait.proofs.Moments.{one_world}
use Rattle.generations.specs.Targets.{target_in}
use Rattle.generations.proofs.listing.current_of.Goals as goal

chosen : (P : ℕ → Type 0) (test : Bool) (n : ℕ) → (test ≡ true → P n) → IfSome (then_some test n) P
chosen P true n holds = holds refl
chosen P false n holds = tt

pub returns-clause-stands : goal.returns-clause-stands
returns-clause-stands c =
    subst (λ o. IfSome o (λ n. (c.args.linked ≡ Some n) × IsSome (target_in c.args.targets.now n))) (sym c.then_some.ensures)
    (chosen (λ n. (c.args.linked ≡ Some n) × IsSome (target_in c.args.targets.now n)) c.contains_key.result c.in_ok-number.number
    (λ stands. (c.in_ok-number.was, sym c.contains_key.ensures ∙ stands)))

pub returns-clause-only : goal.returns-clause-only
returns-clause-only c = λ n is stands.
    let same = one_world c.args.linked c.in_ok-number.number n c.in_ok-number.was is in
    c.then_some.ensures
    ∙ ap (λ test. then_some test c.in_ok-number.number) (c.contains_key.ensures ∙ ap (λ m. is_some (target_in c.args.targets.now m)) same ∙ stands) ∙ ap Some same
