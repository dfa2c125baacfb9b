-- How a host in memory goes on.
use Rattle.std.proofs.Common.{◌≡◌, ◌≤◌, ◌&&◌, ◌||◌, ◌==◌, ◌+◌, ℕ, Bool, true, false, cond, List, [], ◌∷◌, Option, None, Some, is_none, Result, Ok, Err, OnOk, OnErr, length, IsTrue, refl, sym, ap, subst, ◌∙◌, inl, inr, arith}
use Rattle.std.proofs.lemmas.Bool.{both_ways, eq-eqb, eqb-true}
use Rattle.std.specs.Option.{ForSome}
use Rattle.host_memory.proofs.Histories.{unchanged}
use Rattle.host_memory.specs.declared.cuts.ArmedCut.{ArmedCut}
use Rattle.host_memory.specs.declared.history.DoneCall.{DoneCall}
use Rattle.host_memory.specs.declared.history.History.{History}
use Rattle.host_memory.specs.Failures.{counted, is_listed}
use Rattle.host_memory.specs.Cuts.{left_by}
use Rattle.host_memory.specs.declared.memory_host.MemoryHost.{MemoryHost}
use Rattle.host_memory.specs.History.{state_of, Makes}
use Rattle.host_memory.specs.MemoryHost.{Admitted, Cut, Does, Refused, clock_of, cut_or_admitted, verdict}
use Rattle.host_memory.specs.Troubles.{IsWithin, TroublesState, admitted, changed, due, fallen, has_fallen, is_empty, is_refused, is_sure, last_moment, refused}
use Rattle.host_trait.specs.Change.{Change, IsMoment, IsSame, finished}
use Rattle.host_trait.specs.declared.tree.HostFault.{HostFault}
use Rattle.host_trait.specs.declared.tree.HostFault.TheVariants.{Device}
use Rattle.host_trait.specs.Host.{HostState, Becomes, HasCause, Passes}
use Rattle.host_trait.specs.World.{WorldState}

-- the host with this history, on which this is to go wrong
abbrev pub host_at : History → TroublesState → HostState
host_at history troubles = state_of history (last_moment troubles.cut) troubles.faults (is_sure troubles)

module _ (history : History) (now then : TroublesState) where
  -- where nothing changed, the one moment is the present world
  pub stands : Passes (host_at history now) (host_at history then) IsSame
  stands = (unchanged history history IsSame refl refl refl).passes _ _ _ _ _ _

  -- and it is a moment of any call
  pub stands_in : (change : Change) → Passes (host_at history now) (host_at history then) (IsMoment change)
  stands_in change = (unchanged history history (IsMoment change) refl refl (inl refl)).passes _ _ _ _ _ _

-- nothing changed where a call wanted memory
pub stood :
    (old new : History) (now then : TroublesState) (change : Change) →
    (new.world ≡ old.world) × (new.calls.items ≡ old.calls.items) → Passes (host_at old now) (host_at new then) (IsMoment change)
stood old new now then change (world, calls) = (unchanged old new (IsMoment change) world calls (inl world)).passes _ _ _ _ _ _

-- the present world is a function of the old one
pub becomes : (old new : History) (now then : TroublesState) (f : WorldState → WorldState) → new.world ≡ f old.world → Becomes (host_at old now) (host_at new then) f
becomes old new now then f is = record { to = λ w told. (new.world, refl, is ∙ ap f (let e : old.world ≡ w = cc in e)) }

no_refusal : (cut : Option ArmedCut) (failing : List ℕ) (next : ℕ) → IsTrue (is_none cut && is_empty failing) → is_listed failing next || has_fallen cut ≡ true → ⊥
no_refusal None [] next sure is = cc
no_refusal None (number ∷ failing) next sure is = cc
no_refusal (Some cut) failing next sure is = cc

-- the cut that falls is the one that is armed
due_is : (cut : Option ArmedCut) (clock : ℕ) (one : ArmedCut) → due cut clock ≡ Some one → cut ≡ Some one
due_is None clock one is = cc
due_is (Some cut) clock one is =
    elim (cut.from + cut.after == clock) as (λ b. cond b (Some cut) None ≡ Some one → Some cut ≡ Some one) [
      | true ↦ λ e. e
      | false ↦ λ e. absurd (let no : None ≡ Some one = e in cc)
    ] is

not_armed : (cut : Option ArmedCut) (failing : List ℕ) (one : ArmedCut) → IsTrue (is_none cut && is_empty failing) → cut ≡ Some one → ⊥
not_armed None failing one sure is = cc
not_armed (Some cut) failing one sure is = cc

-- a refused call has its cause
pub refused_cause :
    {T : Type 0} (history : History) (now then : TroublesState) (result : Result T HostFault) →
    is_refused now ≡ true → then ≡ refused now → now.faults ≤ then.faults → HasCause (host_at history now) (host_at history then) result
refused_cause history now then result is_refused after later =
    let counts = ap (λ (t : TroublesState). t.faults) after in
    record {
      later = later;
      rose = λ device. omega arith;
      stays_sure = λ sure. subst (λ (t : TroublesState). IsTrue (is_sure t)) (sym after) sure;
      never_sure = λ sure device. no_refusal now.cut now.failing now.next sure is_refused;
      same_last = ap (λ (t : TroublesState). last_moment t.cut) after;
    }

-- and so has one that is cut
pub cut_cause :
    {T : Type 0} (old new : History) (now counted then : TroublesState) (cut : ArmedCut) (clock : ℕ) (result : Result T HostFault) →
    counted ≡ admitted now → due counted.cut clock ≡ Some cut → then ≡ record (refused counted) { next = counted.next; calls = counted.calls; cut = Some (fallen cut) } →
    counted.faults ≤ then.faults → HasCause (host_at old now) (host_at new then) result
cut_cause old new now counted then cut clock result first falls after later =
    let before = ap (λ (t : TroublesState). t.faults) first in
    let counts = ap (λ (t : TroublesState). t.faults) after in
    let armed : now.cut ≡ Some cut = sym (ap (λ (t : TroublesState). t.cut) first) ∙ due_is counted.cut clock cut falls in
    record {
      later = omega arith;
      rose = λ device. omega arith;
      stays_sure = λ sure. absurd (not_armed now.cut now.failing cut sure armed);
      never_sure = λ sure device. not_armed now.cut now.failing cut sure armed;
      same_last = ap (λ (t : TroublesState). last_moment t.cut) after ∙ sym (ap last_moment armed);
    }

same_cut : (cut one : ArmedCut) → Some cut ≡ Some one → cut ≡ one
same_cut cut one is = cc

due_at : (cut : Option ArmedCut) (clock : ℕ) (one : ArmedCut) → due cut clock ≡ Some one → one.from + one.after ≡ clock
due_at None clock one is = cc
due_at (Some cut) clock one is =
    elim (cut.from + cut.after == clock) as (λ b. (cut.from + cut.after == clock) ≡ b → cond b (Some cut) None ≡ Some one → one.from + one.after ≡ clock) [
      | true ↦ λ test e. subst (λ (o : ArmedCut). o.from + o.after ≡ clock) (same_cut cut one e) (eqb-true _ _ test)
      | false ↦ λ test e. absurd (let no : None ≡ Some one = e in cc)
    ] refl is

-- a cut falls within where its clock may be
pub within_fallen :
    (now counts then : TroublesState) (cut : ArmedCut) (clock was later : ℕ) →
    ForSome now.cut (λ one. IsWithin one was) → clock ≡ was → counts ≡ admitted now → due counts.cut clock ≡ Some cut →
    then ≡ record (refused counts) { next = counts.next; calls = counts.calls; cut = Some (fallen cut) } → was ≤ later → later ≤ was + 1 →
    ForSome then.cut (λ one. IsWithin one later)
within_fallen now counts then cut clock was later within time first falls after more most =
    let armed : now.cut ≡ Some cut = sym (ap (λ (t : TroublesState). t.cut) first) ∙ due_is counts.cut clock cut falls in
    let place = due_at counts.cut clock cut falls in
    let begun = (within cut armed).begun in
    λ one is. subst (λ (o : ArmedCut). IsWithin o later) (same_cut (fallen cut) one (sym (ap (λ (t : TroublesState). t.cut) after) ∙ is))
    (record { begun = omega arith; ends = omega arith; before = λ no. absurd (both_ways _ no refl) })

-- and what becomes of the call is what its verdict says
pub cut_does :
    (old new : MemoryHost) (change : Change) (counts : TroublesState) (cut : ArmedCut) (clock : ℕ) (fault : HostFault) →
    false ≡ is_refused old.troubles → counts ≡ admitted old.troubles → due counts.cut clock ≡ Some cut → clock ≡ clock_of old →
    new.history.world ≡ left_by change cut.pick old.history.world → new.troubles ≡ record counts { cut = Some (fallen cut); faults = counted counts.faults } →
    fault ≡ Device → Does change (verdict old) old new (Err fault)
cut_does old new change counts cut clock fault calm first falls time world after device =
    let is : verdict old ≡ Cut cut =
    ap (λ b. cond b Refused (cut_or_admitted (due old.troubles.cut (clock_of old)))) (sym calm)
    ∙ ap cut_or_admitted ((λ i. due (sym first i).cut (sym time i)) ∙ falls) in
    subst (λ v. Does change v old new (Err fault)) (sym is)
    (inr (ap (λ f. Err f) device, record { world = world; troubles = after ∙ ap (λ (t : TroublesState). record t { cut = Some (fallen cut); faults = counted t.faults }) first }))

right_off : (a b : Bool) → false ≡ (a || b) → b ≡ false
right_off true b is = absurd (both_ways true (sym is) refl)
right_off false b is = sym is

no_cut : (one : ArmedCut) → Some one ≡ None → ⊥
no_cut one is = cc

not_due : (one : ArmedCut) (clock : ℕ) → due (Some one) clock ≡ None → one.from + one.after ≡ clock → ⊥
not_due one clock none is = no_cut one (sym (ap (λ b. cond b (Some one) None) (eq-eqb _ _ is)) ∙ none)

-- a call of the history counts one, or none where it fails
pub one_at_most :
    {T E : Type 0} (old new : History) (change : Change) (after : WorldState) (result : Result T E) →
    OnOk result (Makes change after old new) → OnErr result ((new.world ≡ old.world) × (new.calls.items ≡ old.calls.items)) →
    (length old.calls.items ≤ length new.calls.items) × (length new.calls.items ≤ length old.calls.items + 1)
one_at_most old new change after (Ok x) ok err = let clock = ok.clock in (omega arith, omega arith)
one_at_most old new change after (Err e) ok (world, calls) = let same = ap (λ (us : List DoneCall). length us) calls in (omega arith, omega arith)

-- a call that isn't cut leaves the clock where the cut lets it be
pub within_admitted :
    (now counts : TroublesState) (clock was later : ℕ) →
    ForSome now.cut (λ one. IsWithin one was) → clock ≡ was → false ≡ is_refused now → counts ≡ admitted now → due counts.cut clock ≡ None →
    (was ≤ later) × (later ≤ was + 1) → ForSome counts.cut (λ one. IsWithin one later)
within_admitted now counts clock was later within time calm first none (more, less) = λ one is.
    let armed : now.cut ≡ Some one = sym (ap (λ (t : TroublesState). t.cut) first) ∙ is in
    let before = within one armed in
    let most : was ≤ one.from + one.after =
    before.before (sym (ap has_fallen armed) ∙ right_off (is_listed now.failing now.next) (has_fallen now.cut) calm) in
    let begun = before.begun in
    let apart : one.from + one.after ≡ was → ⊥ = λ same. not_due one clock (ap (λ o. due o clock) (sym is) ∙ none) (same ∙ sym time) in
    record { begun = omega arith; ends = omega arith; before = λ no. omega (arith, apart) }

-- and what becomes of it is what its verdict says
pub admitted_does :
    (old new : MemoryHost) (change : Change) (counts : TroublesState) (clock : ℕ) →
    false ≡ is_refused old.troubles → counts ≡ admitted old.troubles → due counts.cut clock ≡ None → clock ≡ clock_of old →
    new.history.world ≡ finished change old.history.world → clock_of new ≡ clock_of old + 1 → new.troubles ≡ changed counts →
    Does change (verdict old) old new (Ok tt)
admitted_does old new change counts clock calm first none time world grown after =
    let is : verdict old ≡ Admitted =
    ap (λ b. cond b Refused (cut_or_admitted (due old.troubles.cut (clock_of old)))) (sym calm)
    ∙ ap cut_or_admitted ((λ i. due (sym first i).cut (sym time i)) ∙ none) in
    subst (λ v. Does change v old new (Ok tt)) (sym is) (inr (refl, record { world = world; clock = grown; troubles = after ∙ ap changed first }))
