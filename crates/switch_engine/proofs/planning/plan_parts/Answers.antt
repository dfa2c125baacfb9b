use Rattle.std.proofs.Common.{◌≡◌, ◌↔◌, true, Err, IsTrue, None, Some, refl, sym, ap, subst, ◌∙◌}
use Rattle.std.proofs.lemmas.Result.{err_from_is_err_and}
use Rattle.boot_entries.specs.BootDefault.{IsDefaultFor}
use Rattle.host_trait.specs.declared.tree.HostFault.TheVariants.{Device}
use Rattle.host_trait.proofs.Moments.{told_as, told_before}
use Rattle.host_trait.proofs.Readings.{nothing_read_of, read_of, reads_of, reads_then, told_read}
use Rattle.owed_log.specs.Lengths.{AreOwedShort}
use Rattle.switch_engine.specs.Commands.{switched_by}
use Rattle.switch_engine.specs.declared.plan.Plan.{Plan}
use Rattle.switch_engine.specs.declared.row.Row.{Row}
use Rattle.switch_engine.specs.Owing.{IsSteadyTo}
use Rattle.switch_engine.specs.Plan.{ArePlanned, IsSound, units_of}
use Rattle.switch_engine.specs.Rows.{refusal_before_length}
use Rattle.switch_engine.proofs.PlanLemmas.{profile_refused, switch_refused, way_refused}
use Rattle.tree_put.proofs.FoundLemmas.{told_still}
use Rattle.switch_parts.specs.declared.plan_fault.PlanFault.TheVariants.{Host, Refused}
use Rattle.switch_parts.proofs.Faults.{handed, no_err, memory_no_device}
use Rattle.unit_stage.proofs.KnownLemmas.{same_fault}
use Rattle.switch_engine.proofs.planning.plan_parts.Goals as goal

pub returns-in_err-planned-clause-reads : goal.returns-in_err-planned-clause-reads
returns-in_err-planned-clause-reads g c =
    let p = err_from_is_err_and c.from_residual.result c.from_residual.ensures.1 in nothing_read_of _ (λ e. memory_no_device c.from_residual.result p.0 p.1 p.2 e)

pub returns-in_err-check_places-clause-refused : goal.returns-in_err-check_places-clause-refused
returns-in_err-check_places-clause-refused g c why e =
    let p = err_from_is_err_and c.from_residual-in_err-check_places.result c.from_residual-in_err-check_places.ensures.1 in
    let its = c.args.row.now in
    told_as (told_read c.gens_for.ensures.reads (c.in_err-check_places.ensures.refused why (ap (λ f. Err f) (sym p.2 ∙ same_fault p.0 (Refused why) (sym p.1 ∙ e)))))
    (λ w. refusal_before_length its.start_up its.switches its.moves its.system w.leaves ≡ Some why)
    (λ w is way. way_refused its.start_up its.switches its.moves its.system w.leaves why way)

pub returns-in_err-check_places-clause-reads : goal.returns-in_err-check_places-clause-reads
returns-in_err-check_places-clause-reads g c =
    let p = err_from_is_err_and c.from_residual-in_err-check_places.result c.from_residual-in_err-check_places.ensures.1 in
    reads_of (reads_then (read_of c.gens_for.ensures.reads _ (λ e. e)) c.in_err-check_places.ensures.reads) _ (λ e. handed _ p.0 _ _ p.1 p.2 e)

pub returns-in_err-switch-clause-refused : goal.returns-in_err-switch-clause-refused
returns-in_err-switch-clause-refused g c why e =
    let p = err_from_is_err_and c.from_residual-in_err-switch.result c.from_residual-in_err-switch.ensures.1 in
    let its = c.args.row.now in
    let refused = c.in_err-switch.ensures.refused why (ap (λ f. Err f) (sym p.2 ∙ same_fault p.0 (Refused why) (sym p.1 ∙ e))) in
    let way = told_read c.gens_for.ensures.reads c.in_ok-check_places.ensures.free in
    told_as (told_read c.gens_for.ensures.reads (told_before c.check_places.ensures.reads.moments refused)) (λ w. refusal_before_length its.start_up its.switches its.moves its.system w.leaves ≡ Some why)
    (λ w is switch. switch_refused its.start_up its.switches its.moves its.system w.leaves (way.has w is) why switch)

pub returns-in_err-switch-clause-reads : goal.returns-in_err-switch-clause-reads
returns-in_err-switch-clause-reads g c =
    let p = err_from_is_err_and c.from_residual-in_err-switch.result c.from_residual-in_err-switch.ensures.1 in
    reads_of (reads_then (reads_then (read_of c.gens_for.ensures.reads _ (λ e. e)) c.check_places.ensures.reads) c.in_err-switch.ensures.reads) _ (λ e. handed _ p.0 _ _ p.1 p.2 e)

pub plan_default-requires-clause-gens : goal.plan_default-requires-clause-gens
plan_default-requires-clause-gens g c =
    told_still c.plan_switch.ensures.reads.moments (told_still c.check_places.ensures.reads.moments (told_still c.gens_for.ensures.reads.moments c.in_ok-gens.ensures.gens))

pub plan_default-requires-clause-past : goal.plan_default-requires-clause-past
plan_default-requires-clause-past g c =
    told_still c.plan_switch.ensures.reads.moments (told_still c.check_places.ensures.reads.moments (told_still c.gens_for.ensures.reads.moments c.requires.past))

pub returns-in_err-boot_default-clause-reads : goal.returns-in_err-boot_default-clause-reads
returns-in_err-boot_default-clause-reads g c =
    let p = err_from_is_err_and c.from_residual-in_err-boot_default.result c.from_residual-in_err-boot_default.ensures.1 in
    reads_of (reads_then (reads_then (reads_then (read_of c.gens_for.ensures.reads _ (λ e. e)) c.check_places.ensures.reads) c.plan_switch.ensures.reads) c.in_err-boot_default.ensures.reads) _
    (λ e. handed _ p.0 _ _ p.1 p.2 e)

pub returns-in_err-boot_default-clause-refused : goal.returns-in_err-boot_default-clause-refused
returns-in_err-boot_default-clause-refused g c why e =
    let p = err_from_is_err_and c.from_residual-in_err-boot_default.result c.from_residual-in_err-boot_default.ensures.1 in
    let its = c.args.row.now in
    let refused = c.in_err-boot_default.ensures.refused why (ap (λ f. Err f) (sym p.2 ∙ same_fault p.0 (Refused why) (sym p.1 ∙ e))) in
    let way = told_read c.gens_for.ensures.reads c.in_ok-check_places.ensures.free in
    let switch = told_read c.gens_for.ensures.reads (told_before c.check_places.ensures.reads.moments c.in_ok-switch.ensures.not_refused) in
    told_as (told_read c.gens_for.ensures.reads (told_before c.check_places.ensures.reads.moments (told_before c.plan_switch.ensures.reads.moments refused))) (λ w. refusal_before_length its.start_up its.switches its.moves its.system w.leaves ≡ Some why)
    (λ w is profile. profile_refused its.start_up its.switches its.moves its.system w.leaves (way.has w is) (Some why) (switch.has w is) profile)

pub returns-clause-plan : goal.returns-clause-plan
returns-clause-plan g c =
    let its = c.args.row.now in
    let switch = told_read c.gens_for.ensures.reads (told_before c.check_places.ensures.reads.moments c.in_ok-switch.ensures.plan) in
    let profile = told_read c.gens_for.ensures.reads (told_before c.check_places.ensures.reads.moments (told_before c.plan_switch.ensures.reads.moments c.in_ok-boot_default.ensures.plan)) in
    told_as switch (λ w. ArePlanned its w c.new.result)
    (λ w is planned. subst (ArePlanned its w) (sym c.new.ensures) (record { switch = planned; boot_default = profile.has w is; nothing = refl }))

pub returns-clause-not_refused : goal.returns-clause-not_refused
returns-clause-not_refused g c =
    let its = c.args.row.now in
    let way = told_read c.gens_for.ensures.reads c.in_ok-check_places.ensures.free in
    let switch = told_read c.gens_for.ensures.reads (told_before c.check_places.ensures.reads.moments c.in_ok-switch.ensures.not_refused) in
    told_as (told_read c.gens_for.ensures.reads (told_before c.check_places.ensures.reads.moments (told_before c.plan_switch.ensures.reads.moments c.in_ok-boot_default.ensures.not_refused)))
    (λ w. refusal_before_length its.start_up its.switches its.moves its.system w.leaves ≡ None)
    (λ w is profile. profile_refused its.start_up its.switches its.moves its.system w.leaves (way.has w is) None (switch.has w is) profile)

pub returns-clause-sound : goal.returns-clause-sound
returns-clause-sound g c =
    subst IsSound (sym c.new.ensures)
    (record {
      default = λ profile some. subst (λ (r : Row). IsDefaultFor r.system profile) (sym c.in_ok-its.ensures) (c.in_ok-boot_default.ensures.sound profile some);
      filled = c.in_ok-switch.ensures.filled;
    })

pub returns-clause-reads : goal.returns-clause-reads
returns-clause-reads g c =
    reads_of (reads_then (reads_then (reads_then (read_of c.gens_for.ensures.reads _ (λ e. e)) c.check_places.ensures.reads) c.plan_switch.ensures.reads) c.plan_default.ensures.reads) _
    (λ e. absurd (no_err _ (Host Device) e))

pub returns-clause-steady : goal.returns-clause-steady
returns-clause-steady g c =
    told_as (told_read c.gens_for.ensures.reads (told_before c.check_places.ensures.reads.moments c.in_ok-switch.ensures.steady)) (λ w. IsTrue (units_of c.new.result).steady ↔ IsSteadyTo c.args.row.now.start_up (switched_by c.args.row.now) w)
    (λ w is told. subst (λ (plan : Plan). IsTrue (units_of plan).steady ↔ IsSteadyTo c.args.row.now.start_up (switched_by c.args.row.now) w) (sym c.new.ensures) told)

pub returns-in_err-its-clause-reads : goal.returns-in_err-its-clause-reads
returns-in_err-its-clause-reads g c =
    let p = err_from_is_err_and c.from_residual-in_err-its.result c.from_residual-in_err-its.ensures.1 in nothing_read_of _ (λ e. memory_no_device c.from_residual-in_err-its.result p.0 p.1 p.2 e)

pub check_places-requires-clause-found : goal.check_places-requires-clause-found
check_places-requires-clause-found g c = record { has = λ w is. c.nothing_found-findings.ensures w.leaves }

pub returns-in_err-short-clause-reads : goal.returns-in_err-short-clause-reads
returns-in_err-short-clause-reads g c =
    let p = err_from_is_err_and c.from_residual-in_err-short.result c.from_residual-in_err-short.ensures.1 in
    reads_of (reads_then (read_of c.gens_for.ensures.reads _ (λ e. e)) c.check_places.ensures.reads) _ (λ e. absurd (memory_no_device c.from_residual-in_err-short.result p.0 p.1 p.2 e))

pub returns-clause-short : goal.returns-clause-short
returns-clause-short g c =
    told_as (told_read c.gens_for.ensures.reads c.in_ok-check_places.ensures.others) (λ w. IsTrue c.in_ok-short.short → c.args.row.now.switches ≡ true → AreOwedShort w.leaves)
    (λ w is found. c.in_ok-short.ensures w.leaves found)

pub plan_switch-requires : goal.plan_switch-requires
plan_switch-requires g c = record { found = told_still c.check_places.ensures.reads.moments c.in_ok-check_places.ensures.others }
