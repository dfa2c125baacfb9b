use Rattle.std.proofs.Common.{◌≡◌, length, refl, ap, ◌∙◌, rules}
use Rattle.std.proofs.lemmas.List.{take_all}
use Rattle.std.proofs.lemmas.Option.{slice_get_read}
use Rattle.host_trait.specs.declared.entry.Act.TheVariants.{Reload}
use Rattle.host_trait.specs.declared.unit_state.State.TheVariants.{Active}
use Rattle.host_trait.specs.States.{state_of}
use Rattle.host_trait.proofs.Moments.{leads_as, started, told_after}
use Rattle.unit_stage.specs.Acts.{IsPerforming, with_calls}
use Rattle.unit_stage.proofs.CallLemmas.{made_on, ready_in_turn, way_on}
use Rattle.unit_stage.proofs.acting.call_units.Goals as goal

pub loop-call-init : goal.loop-call-init
loop-call-init g c = record {
  way = started (IsPerforming c.args.calls.now) (λ w is. IsPerforming.After 0 refl);
  made = record { to = λ w is. (w, is, refl) };
  cause = search rules;
}

pub call_unit-requires : goal.call_unit-requires
call_unit-requires g c =
    let there = slice_get_read c.args.calls.now (length c.args.calls.now) c.loop-call.call-index c.call-item.result refl c.loop-call-test.true c.call-item.is in
    told_after c.loop-call.invariant.way c.loop-call.invariant.made
    (λ w. c.call-item.result.act ≡ Reload → state_of w.manager.states c.call-item.result.unit ≡ Active)
    (λ w v is so_far. ready_in_turn c.args.calls.now c.loop-call.call-index w v so_far c.call-item.result (c.requires.has w is) there)

pub returns-in_err-call_unit-clause-moments : goal.returns-in_err-call_unit-clause-moments
returns-in_err-call_unit-clause-moments g c =
    let there = slice_get_read c.args.calls.now (length c.args.calls.now) c.loop-call.call-index c.call-item.result refl c.loop-call-test.true c.call-item.is in
    way_on c.args.calls.now c.loop-call.call-index c.call-item.result there c.loop-call.invariant.way c.loop-call.invariant.made c.call_unit.ensures.moments

pub loop-call-preserved : goal.loop-call-preserved
loop-call-preserved g c =
    let there = slice_get_read c.args.calls.now (length c.args.calls.now) c.loop-call.call-index c.call-item.result refl c.loop-call-test.true c.call-item.is in
    record {
      way = way_on c.args.calls.now c.loop-call.call-index c.call-item.result there c.loop-call.invariant.way c.loop-call.invariant.made c.call_unit.ensures.moments;
      made = made_on c.args.calls.now c.loop-call.call-index c.call-item.result there c.loop-call.invariant.made c.in_ok-call_unit.ensures.ok;
      cause = search rules;
    }

pub returns-clause-ok : goal.returns-clause-ok
returns-clause-ok g c =
    leads_as c.loop-call.invariant.made (λ w v. v ≡ with_calls c.args.calls.now w)
    (λ w v is made. made ∙ ap (λ calls. with_calls calls w) (take_all c.loop-call.call-index c.args.calls.now c.loop-call-test.false))
