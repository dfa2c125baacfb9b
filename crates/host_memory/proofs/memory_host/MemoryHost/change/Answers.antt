use Rattle.std.proofs.Common.{Option, ap, length, refl, subst, sym}
use Rattle.std.specs.Option.{ForSome}
use Rattle.host_memory.proofs.Admitted.{begun_at, changed_cause, no_answer, starved_cause, starved_does, within_stood}
use Rattle.host_memory.proofs.Entering.{goes_beside, still_beside}
use Rattle.host_memory.proofs.Hosts.{stands_in, stood, becomes, refused_cause, cut_cause, cut_does, within_fallen, admitted_does, one_at_most, within_admitted}
use Rattle.host_memory.proofs.memory_host.MemoryHost.change.Goals as goal
use Rattle.host_memory.specs.ChangingCall.{change_of}
use Rattle.host_memory.specs.declared.cuts.ArmedCut.{ArmedCut}
use Rattle.host_memory.specs.Troubles.{IsWithin, TroublesState}
use Rattle.host_trait.specs.Change.{finished}

pub returns-in_err-admit-clause-moments : goal.returns-in_err-admit-clause-moments
returns-in_err-admit-clause-moments c = stands_in c.args.self.now.history c.args.self.now.troubles c.admit.new.self (change_of c.args.call)

pub returns-in_err-admit-clause-cause : goal.returns-in_err-admit-clause-cause
returns-in_err-admit-clause-cause c =
    refused_cause c.args.self.now.history c.args.self.now.troubles c.admit.new.self _
    (sym c.in_err-admit.ensures.answer) c.in_err-admit.ensures.new c.admit.ensures.later

pub returns-in_err-make-in-None-clause-moments : goal.returns-in_err-make-in-None-clause-moments
returns-in_err-make-in-None-clause-moments c =
    stood c.args.self.now.history c.make.new.self c.args.self.now.troubles c.admit.new.self (change_of c.args.call) c.in_err-make-in-None.ensures.err

pub returns-in_ok-make-in-None-clause-ok : goal.returns-in_ok-make-in-None-clause-ok
returns-in_ok-make-in-None-clause-ok c =
    becomes c.args.self.now.history c.make.new.self c.args.self.now.troubles c.finish.new.self (finished (change_of c.args.call)) c.in_ok-make-in-None.ensures.ok.world

pub returns-in_ok-make-in-None-clause-moments : goal.returns-in_ok-make-in-None-clause-moments
returns-in_ok-make-in-None-clause-moments c = c.in_ok-make-in-None.ensures.ok.moments.passes _ _ _ _ _ _

pub returns-in_err-cut_call-in-Some-clause-moments : goal.returns-in_err-cut_call-in-Some-clause-moments
returns-in_err-cut_call-in-Some-clause-moments c =
    stood c.args.self.now.history c.cut_call.new.history c.args.self.now.troubles c.admit.new.self (change_of c.args.call) c.in_err-cut_call-in-Some.ensures.err

pub returns-in_ok-cut_call-in-Some-clause-moments : goal.returns-in_ok-cut_call-in-Some-clause-moments
returns-in_ok-cut_call-in-Some-clause-moments c = c.in_ok-cut_call-in-Some.ensures.ok.moments.passes _ _ _ _ _ _

pub returns-in_ok-cut_call-in-Some-clause-cause : goal.returns-in_ok-cut_call-in-Some-clause-cause
returns-in_ok-cut_call-in-Some-clause-cause c =
    cut_cause c.args.self.now.history c.cut_call.new.history c.args.self.now.troubles c.admit.new.self c.fall.new.self c.in-Some.cut c.clock.result _
    c.in_ok-admit.ensures.new (sym c.in-Some.ensures) c.fall.ensures.new c.fall.ensures.later

pub returns-in_ok-cut_call-in-Some-clause-does : goal.returns-in_ok-cut_call-in-Some-clause-does
returns-in_ok-cut_call-in-Some-clause-does c =
    cut_does _ _ (change_of c.args.call) c.admit.new.self c.in-Some.cut c.clock.result _ c.in_ok-admit.ensures.answer c.in_ok-admit.ensures.new (sym c.in-Some.ensures)
    c.clock.ensures c.in_ok-cut_call-in-Some.ensures.ok.world c.fall.ensures.new c.fall.ensures.fault

pub invariant_of-self-in-Some : goal.invariant_of-self-in-Some
invariant_of-self-in-Some c = record {
  within =
      within_fallen c.args.self.now.troubles c.admit.new.self c.fall.new.self c.in-Some.cut c.clock.result _ _ c.args.self.now.within c.clock.ensures
      c.in_ok-admit.ensures.new (sym c.in-Some.ensures) c.fall.ensures.new c.in_ok-cut_call-in-Some.ensures.ok.later c.in_ok-cut_call-in-Some.ensures.ok.clock;
}

pub returns-in_ok-make-in-None-clause-does : goal.returns-in_ok-make-in-None-clause-does
returns-in_ok-make-in-None-clause-does c =
    admitted_does _ _ (change_of c.args.call) c.admit.new.self c.clock.result c.in_ok-admit.ensures.answer c.in_ok-admit.ensures.new (sym c.in-None.ensures)
    c.clock.ensures c.in_ok-make-in-None.ensures.ok.world c.in_ok-make-in-None.ensures.ok.clock c.finish.ensures

pub invariant_of-self-in-None : goal.invariant_of-self-in-None
invariant_of-self-in-None c = record {
  within =
      subst (λ (cut : Option ArmedCut). ForSome cut (λ one. IsWithin one (length c.make.new.self.calls.items))) (sym (ap (λ (t : TroublesState). t.cut) c.finish.ensures))
      (within_admitted c.args.self.now.troubles c.admit.new.self c.clock.result _ _ c.args.self.now.within c.clock.ensures
      c.in_ok-admit.ensures.answer c.in_ok-admit.ensures.new (sym c.in-None.ensures)
      (one_at_most c.args.self.now.history c.make.new.self (change_of c.args.call) _ _ c.make.ensures.ok c.make.ensures.err));
}

pub returns-in_err-make-in-None-clause-does : goal.returns-in_err-make-in-None-clause-does
returns-in_err-make-in-None-clause-does c =
    starved_does _ _ (change_of c.args.call) c.admit.new.self _ c.in_ok-admit.ensures.answer c.in_ok-admit.ensures.new c.in_err-make-in-None.ensures.err refl c.from_residual-in_err-make-in-None.ensures.1

pub returns-in_err-make-in-None-clause-cause : goal.returns-in_err-make-in-None-clause-cause
returns-in_err-make-in-None-clause-cause c =
    starved_cause c.args.self.now.history c.make.new.self c.args.self.now.troubles c.admit.new.self _ c.in_ok-admit.ensures.new c.from_residual-in_err-make-in-None.ensures.1

pub returns-in_err-make-in-None-clause-ok : goal.returns-in_err-make-in-None-clause-ok
returns-in_err-make-in-None-clause-ok c = no_answer _ _ c.from_residual-in_err-make-in-None.ensures.1

pub returns-in_err-cut_call-in-Some-clause-does : goal.returns-in_err-cut_call-in-Some-clause-does
returns-in_err-cut_call-in-Some-clause-does c =
    starved_does _ _ (change_of c.args.call) c.admit.new.self _ c.in_ok-admit.ensures.answer c.in_ok-admit.ensures.new c.in_err-cut_call-in-Some.ensures.err refl c.from_residual-in_err-cut_call-in-Some.ensures.1

pub returns-in_err-cut_call-in-Some-clause-cause : goal.returns-in_err-cut_call-in-Some-clause-cause
returns-in_err-cut_call-in-Some-clause-cause c =
    starved_cause c.args.self.now.history c.cut_call.new.history c.args.self.now.troubles c.admit.new.self _ c.in_ok-admit.ensures.new c.from_residual-in_err-cut_call-in-Some.ensures.1

pub returns-in_err-cut_call-in-Some-clause-ok : goal.returns-in_err-cut_call-in-Some-clause-ok
returns-in_err-cut_call-in-Some-clause-ok c = no_answer _ _ c.from_residual-in_err-cut_call-in-Some.ensures.1

pub returns-in_ok-make-in-None-clause-cause : goal.returns-in_ok-make-in-None-clause-cause
returns-in_ok-make-in-None-clause-cause c =
    changed_cause c.args.self.now.history c.make.new.self c.args.self.now.troubles c.admit.new.self c.finish.new.self _ c.in_ok-admit.ensures.new c.finish.ensures

pub due-requires : goal.due-requires
due-requires c = begun_at c.args.self.now.troubles c.admit.new.self c.clock.result _ c.args.self.now.within c.clock.ensures c.in_ok-admit.ensures.new

pub invariant_of-self-in-Break-branch-3 : goal.invariant_of-self-in-Break-branch-3
invariant_of-self-in-Break-branch-3 c = record {
  within = within_stood c.args.self.now.troubles c.admit.new.self _ _ c.args.self.now.within c.in_ok-admit.ensures.new c.in_err-cut_call-in-Some.ensures.err.1;
}

pub returns-in_err-admit-clause-beside : goal.returns-in_err-admit-clause-beside
returns-in_err-admit-clause-beside c of = still_beside _ _ (change_of c.args.call) refl refl

pub returns-in_err-make-in-None-clause-beside : goal.returns-in_err-make-in-None-clause-beside
returns-in_err-make-in-None-clause-beside c of = still_beside _ _ (change_of c.args.call) c.in_err-make-in-None.ensures.err.0 c.in_err-make-in-None.ensures.err.1

pub returns-in_ok-make-in-None-clause-beside : goal.returns-in_ok-make-in-None-clause-beside
returns-in_ok-make-in-None-clause-beside c of = goes_beside _ _ (change_of c.args.call) (c.in_ok-make-in-None.ensures.ok.beside of)

pub returns-in_err-cut_call-in-Some-clause-beside : goal.returns-in_err-cut_call-in-Some-clause-beside
returns-in_err-cut_call-in-Some-clause-beside c of = still_beside _ _ (change_of c.args.call) c.in_err-cut_call-in-Some.ensures.err.0 c.in_err-cut_call-in-Some.ensures.err.1

pub returns-in_ok-cut_call-in-Some-clause-beside : goal.returns-in_ok-cut_call-in-Some-clause-beside
returns-in_ok-cut_call-in-Some-clause-beside c of = goes_beside _ _ (change_of c.args.call) (c.in_ok-cut_call-in-Some.ensures.ok.beside of)
