use Rattle.std.proofs.Common.{◌≡◌, ℕ, [], Option, None, Some, IfSome, is_some, ap, subst, sym, ◌∙◌}
use Rattle.std.proofs.lemmas.Result.{err_from_is_err_and}
use Rattle.generations.specs.Gens.{IsGensOf}
use Rattle.generations.specs.Move.{move_refusal, number_moved}
use Rattle.host_trait.specs.World.{Leaves}
use Rattle.host_trait.proofs.Moments.{told_as}
use Rattle.host_trait.proofs.Readings.{nothing_read_of}
use Rattle.switch_parts.specs.declared.refusal.Refusal.{Refusal}
use Rattle.switch_parts.specs.declared.refusal.Refusal.TheVariants.{GenerationsFull}
use Rattle.switch_parts.specs.declared.refusal.What.TheVariants.{LeafBytes}
use Rattle.switch_parts.specs.Limits.{too_many}
use Rattle.switch_parts.proofs.Faults.{refused_is, refused_no_device, memory_no_device}
use Rattle.boot_entries.specs.BootDefault.{boot_default_in}
use Rattle.boot_entries.proofs.MakeLemmas.{default_planned, default_refusal, move_refused}
use Rattle.boot_entries.proofs.boot_default.plan_boot_default.Goals as goal

pub returns-in_default-clause-refused : goal.returns-in_default-clause-refused
returns-in_default-clause-refused g c why e =
    told_as c.requires.gens (λ w. (boot_default_in c.args.to c.args.system.now w.leaves).refusal w.leaves ≡ Some why)
    (λ w is gens.
    move_refused c.args.to c.args.system.now w.leaves why (c.number_to.ensures.full (ap is_some c.in_default.is) w.leaves gens
    ∙ ap (λ (r : Refusal). Some r) (refused_is GenerationsFull why e)))

pub returns-in-Some-too_many-clause-refused : goal.returns-in-Some-too_many-clause-refused
returns-in-Some-too_many-clause-refused g c why e =
    told_as c.requires.gens (λ w. (boot_default_in c.args.to c.args.system.now w.leaves).refusal w.leaves ≡ Some why)
    (λ w is gens.
    default_refusal c.args.to c.args.system.now w.leaves c.in_ok-after.after c.texts_noted.new.long (c.in_ok-after.ensures w.leaves gens)
    (subst (λ (found : Option ℕ). IfSome found (λ number. (leaves : Leaves) → IsGensOf leaves c.args.gens → move_refusal c.args.to c.args.system.now leaves ≡ None)) c.in-Some.is c.number_to.ensures.further w.leaves gens)
    ((c.in_ok-menu.ensures.noted []).has w is (λ q there. absurd cc))
    ∙ ap (too_many LeafBytes) (sym c.count_noted.ensures) ∙ sym c.too_many.ensures ∙ c.in-Some-too_many.is ∙ ap (λ (r : Refusal). Some r) (refused_is c.in-Some-too_many.why why e))

pub returns-in_default-clause-reads : goal.returns-in_default-clause-reads
returns-in_default-clause-reads g c = nothing_read_of _ (λ e. refused_no_device GenerationsFull e)

pub returns-in_err-after-clause-reads : goal.returns-in_err-after-clause-reads
returns-in_err-after-clause-reads g c =
    let p = err_from_is_err_and c.from_residual.result c.from_residual.ensures.1 in
    nothing_read_of _ (λ e. memory_no_device c.from_residual.result p.0 p.1 p.2 e)

pub returns-clause-plan : goal.returns-clause-plan
returns-clause-plan g c = record {
  has = λ w is.
      let gens = c.requires.gens.has w is in
      default_planned c.args.to c.args.system.now w.leaves c.args.gens c.in_ok-after.after c.in_ok-menu.menu c.in-Some.number gens
      (subst (λ (found : Option ℕ). IfSome found (λ number. (leaves : Leaves) → IsGensOf leaves c.args.gens → number ≡ number_moved c.args.to c.args.system.now leaves)) c.in-Some.is c.number_to.ensures.moved w.leaves gens)
      (c.in_ok-after.ensures w.leaves gens) (c.in_ok-menu.ensures.texts.has w is);
}

pub returns-clause-not_refused : goal.returns-clause-not_refused
returns-clause-not_refused g c =
    told_as c.requires.gens (λ w. (boot_default_in c.args.to c.args.system.now w.leaves).refusal w.leaves ≡ None)
    (λ w is gens.
    default_refusal c.args.to c.args.system.now w.leaves c.in_ok-after.after c.texts_noted.new.long (c.in_ok-after.ensures w.leaves gens)
    (subst (λ (found : Option ℕ). IfSome found (λ number. (leaves : Leaves) → IsGensOf leaves c.args.gens → move_refusal c.args.to c.args.system.now leaves ≡ None)) c.in-Some.is c.number_to.ensures.further w.leaves gens)
    ((c.in_ok-menu.ensures.noted []).has w is (λ q there. absurd cc))
    ∙ ap (too_many LeafBytes) (sym c.count_noted.ensures) ∙ sym c.too_many.ensures ∙ c.in_default-too_many.is)
