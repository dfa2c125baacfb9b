use Rattle.std.proofs.Common.{◌≡◌, None, Some, ap, subst, sym, ◌∙◌}
use Rattle.std.proofs.lemmas.Result.{IfOk-weaker, on_ok_weaker}
use Rattle.host_trait.specs.Host.{Told}
use Rattle.host_trait.proofs.Moments.{told_as}
use Rattle.host_trait.proofs.Readings.{read_of}
use Rattle.switch_names.proofs.Outcomes.{none_left}
use Rattle.unit_defs.specs.Count.{units_past}
use Rattle.unit_defs.specs.Defs.{AreDefsOf}
use Rattle.unit_defs.specs.Units.{HasNoFault, IsFirstFault, first_fault_of}
use Rattle.unit_defs.proofs.AgreeLemmas.{are_defs}
use Rattle.unit_defs.proofs.CountLemmas.{past_read, same_count}
use Rattle.unit_defs.proofs.FaultLemmas.{first_is, no_fault}
use Rattle.unit_defs.proofs.FirstFaultLemmas.{first_is_found, none_is_found}
use Rattle.unit_defs.proofs.defs.Defs.read_beside.Goals as goal

pub returns-in-Some-clause-many : goal.returns-in-Some-clause-many
returns-in-Some-clause-many g c = λ count same.
    told_as c.in_ok-units.ensures.units (λ w. units_past w.leaves c.args.system.now ≡ Some count)
    (λ w is are.
    past_read w.leaves c.args.system.now c.in_ok-units.units _ c.in_ok-names.names _ c.past.result are c.as_slice.ensures c.in_ok-names.ensures c.as_slice-2.ensures c.past.ensures
    ∙ c.in-Some.is ∙ ap (λ n. Some n) (same_count c.in-Some.count count same))

pub returns-clause-few : goal.returns-clause-few
returns-clause-few g c =
    on_ok_weaker c.from_sound.result (λ none.
    told_as c.in_ok-units.ensures.units (λ w. units_past w.leaves c.args.system.now ≡ None)
    (λ w is are.
    past_read w.leaves c.args.system.now c.in_ok-units.units _ c.in_ok-names.names _ c.past.result are c.as_slice.ensures c.in_ok-names.ensures c.as_slice-2.ensures c.past.ensures
    ∙ sym (none_left c.past.result c.in_default.not-Some)))
    c.from_sound.ensures.sound

pub returns-clause-few_faulty : goal.returns-clause-few_faulty
returns-clause-few_faulty g c = λ unit line same.
    told_as c.in_ok-units.ensures.units (λ w. units_past w.leaves c.args.system.now ≡ None)
    (λ w is are.
    past_read w.leaves c.args.system.now c.in_ok-units.units _ c.in_ok-names.names _ c.past.result are c.as_slice.ensures c.in_ok-names.ensures c.as_slice-2.ensures c.past.ensures
    ∙ sym (none_left c.past.result c.in_default.not-Some))

pub returns-clause-defs : goal.returns-clause-defs
returns-clause-defs g c =
    IfOk-weaker c.from_sound.result _ (λ defs. Told (g.T.Tree.host c.args.host.now) (λ w. AreDefsOf w.leaves c.args.system.now defs))
    (λ defs same.
    told_as c.in_ok-units.ensures.units (λ w. AreDefsOf w.leaves c.args.system.now defs)
    (λ w is are. subst (AreDefsOf w.leaves c.args.system.now) (sym same) (are_defs w.leaves c.args.system.now c.in_ok-units.units are)))
    c.from_sound.ensures.defs

pub returns-clause-sound : goal.returns-clause-sound
returns-clause-sound g c =
    on_ok_weaker c.from_sound.result
    (λ none. told_as c.in_ok-units.ensures.units (λ w. HasNoFault w.leaves c.args.system.now) (λ w is are. no_fault w.leaves c.args.system.now c.in_ok-units.units are none))
    c.from_sound.ensures.sound

pub returns-clause-text : goal.returns-clause-text
returns-clause-text g c = λ unit line same.
    told_as c.in_ok-units.ensures.units (λ w. IsFirstFault w.leaves c.args.system.now unit line)
    (λ w is are.
    first_is w.leaves c.args.system.now c.in_ok-units.units unit line are c.in_ok-units.ensures.sorted (c.from_sound.ensures.text unit line same) (c.from_sound.ensures.named unit line same))

pub returns-clause-not_faulty : goal.returns-clause-not_faulty
returns-clause-not_faulty g c =
    on_ok_weaker c.from_sound.result
    (λ told. told_as told (λ w. first_fault_of w.leaves c.args.system.now ≡ None) (λ w is none. none_is_found w.leaves c.args.system.now none))
    (returns-clause-sound g c)

pub returns-clause-faulty : goal.returns-clause-faulty
returns-clause-faulty g c = λ unit line same.
    told_as (returns-clause-text g c unit line same) (λ w. first_fault_of w.leaves c.args.system.now ≡ Some (unit, line))
    (λ w is first. first_is_found w.leaves c.args.system.now unit line first)

pub returns-clause-short : goal.returns-clause-short
returns-clause-short g c = on_ok_weaker c.from_sound.result (λ none. c.in_ok-units.ensures.short) c.from_sound.ensures.sound

pub returns-clause-reads : goal.returns-clause-reads
returns-clause-reads g c = read_of c.read_units.ensures.reads _ (λ fault. absurd (c.from_sound.ensures.cause fault))
