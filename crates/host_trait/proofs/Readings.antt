-- Calls that change nothing, one after the other.
use Rattle.std.proofs.Common.{◌≡◌, Result, Ok, Err, IsErrAnd, IsErrOf, refl}
use Rattle.host_trait.specs.declared.tree.HostFault.{HostFault}
use Rattle.host_trait.specs.declared.tree.HostFault.TheVariants.{Device, Memory}
use Rattle.host_trait.specs.Change.{IsSame}
use Rattle.host_trait.specs.Host.{HostState, Passes, Told}
use Rattle.host_trait.specs.Reading.{IsReading, IsReadingOf}
use Rattle.host_trait.specs.World.{WorldState}
use Rattle.host_trait.proofs.Causes.{cause_as, cause_none, cause_of, causes, ok_no_device, started_of}
use Rattle.host_trait.proofs.Moments.{started, same_then, told_before}

-- two stretches in which nothing changes
pub same_twice : {a b c : HostState} → Passes a b IsSame → Passes b c IsSame → Passes a c IsSame
same_twice first second = same_then first second IsSame (λ w is. refl) (λ w m is same. same)

-- an answer that hands a fault on has a fault of the device only where that one is
pub handed_on : {T U : Type 0} (f : HostFault) (s : Result U HostFault) → IsErrAnd s (λ x. x ≡ f) → IsErrOf s Device → IsErrOf {T = T} (Err f) Device
handed_on f (Ok x) never is = absurd never
handed_on f (Err x) same is = cc

-- want of memory is no fault of the device
pub no_device : {U : Type 0} (s : Result U HostFault) → IsErrAnd s (λ x. x ≡ Memory) → IsErrOf s Device → ⊥
no_device (Ok x) never is = absurd never
no_device (Err x) same is = cc

module _ {a : HostState} where
  -- where nothing was called, nothing was read
  pub nothing_read : {T : Type 0} → (s : Result T HostFault) → (IsErrOf s Device → ⊥) → IsReading a a s
  nothing_read s none = record { moments = started IsSame (λ w is. refl); cause = cause_none s none }

  pub nothing_read_ok : {T : Type 0} → (x : T) → IsReading {T = T} a a (Ok x)
  nothing_read_ok x = nothing_read (Ok x) (ok_no_device x)

  pub nothing_read_of : (F : Type 0) → (F → ⊥) → IsReadingOf a a F
  nothing_read_of F none = record { moments = started IsSame (λ w is. refl); cause = started_of F none }

module _ {a b : HostState} where
  -- another answer, that has no fault of the device but where the call had one
  pub read_as : {T U : Type 0} {r : Result T HostFault} → IsReading a b r → (s : Result U HostFault) → (IsErrOf s Device → IsErrOf r Device) → IsReading a b s
  read_as reads s from = record { moments = reads.moments; cause = cause_as reads.cause s from }

  -- a call that goes well, whatever is answered
  pub read_ok : {T U : Type 0} {r : Result T HostFault} → IsReading a b r → (x : U) → IsReading {T = U} a b (Ok x)
  read_ok reads x = read_as reads (Ok x) (λ is. absurd (ok_no_device x is))

  -- a fault that is handed on
  pub read_handed : {T U : Type 0} {f : HostFault} → IsReading {T = T} a b (Err f) → (s : Result U HostFault) → IsErrAnd s (λ x. x ≡ f) → IsReading a b s
  read_handed {f = f} reads s is = read_as reads s (handed_on f s is)

  -- want of memory after a call
  pub read_starved : {T U : Type 0} {r : Result T HostFault} → IsReading a b r → (s : Result U HostFault) → IsErrAnd s (λ x. x ≡ Memory) → IsReading a b s
  read_starved reads s is = read_as reads s (λ device. absurd (no_device s is device))

  -- an answer of one's own
  pub read_of : {T : Type 0} {r : Result T HostFault} → IsReading a b r → (F : Type 0) → (F → IsErrOf r Device) → IsReadingOf a b F
  read_of reads F from = record { moments = reads.moments; cause = causes (started_of ⊥ (λ none. none)) (cause_of reads.cause) from }

  pub reads_of : {G : Type 0} → IsReadingOf a b G → (F : Type 0) → (F → G) → IsReadingOf a b F
  reads_of reads F from = record { moments = reads.moments; cause = causes (started_of ⊥ (λ none. none)) reads.cause from }

  -- what was told after a call was so before it
  pub told_read : {T : Type 0} {r : Result T HostFault} {P : WorldState → Type 0} → IsReading a b r → Told b P → Told a P
  told_read reads told = told_before reads.moments told

module _ {a b c : HostState} where
  -- two calls, one after the other, have the answer of the second
  pub read_then : {T U : Type 0} {r : Result T HostFault} {s : Result U HostFault} → IsReading a b r → IsReading b c s → IsReading a c s
  read_then {s = s} first second =
      let cause = causes {H = IsErrOf s Device} (cause_of first.cause) (cause_of second.cause) (λ fault. fault) in
      record {
        moments = same_twice first.moments second.moments;
        cause = record { later = cause.later; rose = cause.rose; stays_sure = cause.stays_sure; never_sure = cause.never_sure; same_last = cause.same_last };
      }

  pub reads_then : {F G : Type 0} → IsReadingOf a b F → IsReadingOf b c G → IsReadingOf a c G
  reads_then first second = record { moments = same_twice first.moments second.moments; cause = causes first.cause second.cause (λ fault. fault) }
