use Rattle.std.proofs.Common.{◌≡◌, Err, None, Some, sym, ap, subst, ◌∙◌, option_map}
use Rattle.std.proofs.lemmas.Result.{err_from_is_err_and}
use Rattle.host_trait.proofs.Moments.{told_as}
use Rattle.host_trait.proofs.Readings.{nothing_read_of}
use Rattle.switch_engine.specs.Rows.{parts_in}
use Rattle.activation_stage.specs.Owners.{owners_after}
use Rattle.tree_put.specs.First.{first_in_the_way}
use Rattle.switch_parts.specs.declared.plan_fault.PlanFault.TheVariants.{Refused}
use Rattle.switch_parts.specs.declared.refusal.Refusal.TheVariants.{InTheWay}
use Rattle.switch_parts.proofs.Faults.{memory_no_device}
use Rattle.unit_stage.proofs.KnownLemmas.{same_fault}
use Rattle.switch_engine.proofs.planning.check_places.Goals as goal

pub returns-in_err-places-clause-reads : goal.returns-in_err-places-clause-reads
returns-in_err-places-clause-reads g c =
    let p = err_from_is_err_and c.from_residual.result c.from_residual.ensures.1 in nothing_read_of _ (λ e. memory_no_device c.from_residual.result p.0 p.1 p.2 e)

pub returns-in_err-check_way-clause-refused : goal.returns-in_err-check_way-clause-refused
returns-in_err-check_way-clause-refused g c why e =
    let p = err_from_is_err_and c.from_residual-in_err-check_way.result c.from_residual-in_err-check_way.ensures.1 in
    let its = c.args.row.now in
    told_as (c.in_err-check_way.ensures.refused why (ap (λ f. Err f) (sym p.2 ∙ same_fault p.0 (Refused why) (sym p.1 ∙ e))))
    (λ w. option_map InTheWay (first_in_the_way ((parts_in its.start_up its.switches its.moves its.system w.leaves).places w.leaves) w.leaves) ≡ Some why)
    (λ w is way. subst (λ ps. option_map InTheWay (first_in_the_way ps w.leaves) ≡ Some why)
    (c.as_slice.ensures ∙ c.in_ok-places.ensures.places w.leaves (owners_after its.system w.leaves) (c.requires.gens.has w is)) way)

pub returns-clause-free : goal.returns-clause-free
returns-clause-free g c =
    let its = c.args.row.now in
    told_as c.in_ok-check_way.ensures.free (λ w. first_in_the_way ((parts_in its.start_up its.switches its.moves its.system w.leaves).places w.leaves) w.leaves ≡ None)
    (λ w is free. subst (λ ps. first_in_the_way ps w.leaves ≡ None)
    (c.as_slice.ensures ∙ c.in_ok-places.ensures.places w.leaves (owners_after its.system w.leaves) (c.requires.gens.has w is)) free)
