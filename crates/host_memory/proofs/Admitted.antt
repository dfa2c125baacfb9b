-- What a call leaves that was admitted, where no cut fell on it.
use Rattle.std.proofs.Common.{◌≡◌, ◌≤◌, ◌↔◌, ◌&&◌, ℕ, true, false, cond, List, length, Option, None, Some, Result, Ok, Err, IsErrOf, IsErrAnd, IfOk, IsTrue, is_none, refl, sym, ap, subst, ◌∙◌, inl, arith}
use Rattle.std.proofs.lemmas.Bool.{both_ways}
use Rattle.std.specs.Option.{ForSome}
use Rattle.host_memory.proofs.Hosts.{host_at, becomes, refused_cause, stands}
use Rattle.host_memory.specs.declared.cuts.ArmedCut.{ArmedCut}
use Rattle.host_memory.specs.declared.history.DoneCall.{DoneCall}
use Rattle.host_memory.specs.declared.history.History.{History}
use Rattle.host_memory.specs.declared.memory_host.MemoryHost.{MemoryHost}
use Rattle.host_memory.specs.MemoryHost.{Does, Keeps, Refused, after_read, clock_of, cut_or_admitted, is_refusing, verdict}
use Rattle.host_memory.specs.Troubles.{IsWithin, TroublesState, admitted, changed, due, is_empty, is_refused, last_moment, refused}
use Rattle.host_trait.specs.Change.{Change}
use Rattle.host_trait.specs.declared.tree.HostFault.{HostFault}
use Rattle.host_trait.specs.declared.tree.HostFault.TheVariants.{Memory, Device}
use Rattle.host_trait.specs.Host.{Becomes, HasCause, Told}
use Rattle.host_trait.specs.Reading.{IsReading}
use Rattle.host_trait.specs.World.{WorldState}
use Rattle.host_trait.proofs.Moments.{one_world}
use Rattle.host_trait.proofs.Causes.{ok_no_device}
use Rattle.host_trait.proofs.Readings.{no_device}

-- the answer of a call that wanted memory
abbrev pub Starves : {T : Type 0} → Result T HostFault → Type 0
Starves result = IsErrAnd result (λ fault. fault ≡ Memory)

starved : {T : Type 0} (result : Result T HostFault) → Starves result → IsErrOf result Memory
starved (Ok x) never = absurd never
starved (Err fault) is = ap (λ f. Err f) is

-- it says nothing of what it would have answered
pub no_answer : {T : Type 0} (result : Result T HostFault) (P : T → Type 0) → Starves result → IfOk result P
no_answer (Ok x) P never = absurd never
no_answer (Err fault) P is = tt

caused :
    {T : Type 0} (old new : History) (now then : TroublesState) (result : Result T HostFault) →
    then.faults ≡ now.faults → then.cut ≡ now.cut → then.failing ≡ now.failing → (IsErrOf result Device → ⊥) → HasCause (host_at old now) (host_at new then) result
caused old new now then result counts cut failing never = record {
  later = omega arith;
  rose = λ device. absurd (never device);
  stays_sure = λ sure. subst (λ b. IsTrue b) (sym (λ i. is_none (cut i) && is_empty (failing i))) sure;
  never_sure = λ sure device. never device;
  same_last = ap last_moment cut;
}

counted_cause :
    {T : Type 0} (old new : History) (now then : TroublesState) (result : Result T HostFault) →
    then ≡ admitted now → (IsErrOf result Device → ⊥) → HasCause (host_at old now) (host_at new then) result
counted_cause old new now then result first never =
    caused old new now then result (ap (λ (t : TroublesState). t.faults) first) (ap (λ (t : TroublesState). t.cut) first) (ap (λ (t : TroublesState). t.failing) first) never

-- a call that reads and finished has its cause
done_cause : {T : Type 0} (old new : History) (now then : TroublesState) (x : T) → then ≡ admitted now → HasCause (host_at old now) (host_at new then) (Ok x)
done_cause old new now then x first = counted_cause old new now then (Ok x) first (ok_no_device x)

-- and so has one that changes and finished
pub changed_cause :
    {T : Type 0} (old new : History) (now counts then : TroublesState) (x : T) → counts ≡ admitted now → then ≡ changed counts → HasCause (host_at old now) (host_at new then) (Ok x)
changed_cause old new now counts then x first last =
    let after = last ∙ ap changed first in
    caused old new now then (Ok x) (ap (λ (t : TroublesState). t.faults) after) (ap (λ (t : TroublesState). t.cut) after) (ap (λ (t : TroublesState). t.failing) after) (ok_no_device x)

-- and so has one that wanted memory
pub starved_cause :
    {T : Type 0} (old new : History) (now then : TroublesState) (result : Result T HostFault) →
    then ≡ admitted now → Starves result → HasCause (host_at old now) (host_at new then) result
starved_cause old new now then result first is = counted_cause old new now then result first (no_device result is)

-- a call that reads and finishes, wants memory or is refused
pub done_reads : {T : Type 0} (history : History) (now then : TroublesState) (x : T) → then ≡ admitted now → IsReading (host_at history now) (host_at history then) (Ok x)
done_reads history now then x first = record { moments = stands history now then; cause = done_cause history history now then x first }

pub starved_reads :
    {T : Type 0} (history : History) (now then : TroublesState) (result : Result T HostFault) →
    then ≡ admitted now → Starves result → IsReading (host_at history now) (host_at history then) result
starved_reads history now then result first is = record { moments = stands history now then; cause = starved_cause history history now then result first is }

pub refused_reads :
    {T : Type 0} (history : History) (now then : TroublesState) (result : Result T HostFault) →
    is_refused now ≡ true → then ≡ refused now → now.faults ≤ then.faults → IsReading (host_at history now) (host_at history then) result
refused_reads history now then result is after later = record { moments = stands history now then; cause = refused_cause history now then result is after later }

by_due :
    (change : Change) (cut : Option ArmedCut) (old new : MemoryHost) (result : Result (Unit {0}) HostFault) →
    IsErrOf result Memory × Keeps old new (admitted old.troubles) → Does change (cut_or_admitted cut) old new result
by_due change None old new result kept = inl kept
by_due change (Some cut) old new result kept = inl kept

-- what becomes of a call that wanted memory is what its verdict says, whether a cut falls on it or not
pub starved_does :
    (old new : MemoryHost) (change : Change) (counts : TroublesState) (result : Result (Unit {0}) HostFault) →
    false ≡ is_refused old.troubles → counts ≡ admitted old.troubles →
    (new.history.world ≡ old.history.world) × (new.history.calls.items ≡ old.history.calls.items) → new.troubles ≡ counts → Starves result →
    Does change (verdict old) old new result
starved_does old new change counts result calm first (world, calls) after is =
    let kept : Keeps old new (admitted old.troubles) = record { world = world; clock = ap (λ (us : List DoneCall). length us) calls; troubles = after ∙ first } in
    let cut = due old.troubles.cut (clock_of old) in
    subst (λ v. Does change v old new result) (ap (λ b. cond b Refused (cut_or_admitted cut)) calm)
    (by_due change cut old new result (starved result is, kept))

-- and it leaves the clock where the cut lets it be
pub within_stood :
    (now counts : TroublesState) (was later : List DoneCall) →
    ForSome now.cut (λ one. IsWithin one (length was)) → counts ≡ admitted now → later ≡ was → ForSome counts.cut (λ one. IsWithin one (length later))
within_stood now counts was later within first same = λ one is.
    subst (λ (us : List DoneCall). IsWithin one (length us)) (sym same) (within one (sym (ap (λ (t : TroublesState). t.cut) first) ∙ is))

-- the clock is not before the time when the cut was armed
pub begun_at :
    (now counts : TroublesState) (clock was : ℕ) →
    ForSome now.cut (λ one. IsWithin one was) → clock ≡ was → counts ≡ admitted now → ForSome counts.cut (λ one. one.from ≤ clock)
begun_at now counts clock was within time first = λ one is.
    let begun = (within one (sym (ap (λ (t : TroublesState). t.cut) first) ∙ is)).begun in omega arith

-- a call that reads leaves the world as it was
pub still : (history : History) (now then : TroublesState) → Becomes (host_at history now) (host_at history then) (λ w. w)
still history now then = becomes history history now then (λ w. w) refl

-- and tells of the present one
pub told : (history : History) (now : TroublesState) (P : WorldState → Type 0) → P history.world → Told (host_at history now) P
told history now P has = record { has = λ w is. subst P (one_world (Some history.world) history.world w refl is) has }

module _ (host : MemoryHost) (calm : false ≡ is_refusing host) where
  -- it is counted
  pub counted_read : (then : TroublesState) → then ≡ admitted host.troubles → then ≡ after_read host
  counted_read then first = first ∙ ap (λ b. cond b (refused host.troubles) (admitted host.troubles)) calm

  -- and not refused
  pub not_refused : {T : Type 0} (x : T) → IsErrOf {T = T} {E = HostFault} (Ok x) Device ↔ IsTrue (is_refusing host)
  not_refused x = (λ device. absurd (ok_no_device x device), λ is. absurd (both_ways (is_refusing host) (sym calm) is))
