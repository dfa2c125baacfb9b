-- Causes of faults, from one call to the next.
use Rattle.std.proofs.Common.{◌≡◌, ◌≤◌, ℕ, Result, Ok, Err, IsErrOf, refl, ◌∙◌, arith}
use Rattle.host_trait.specs.declared.tree.HostFault.{HostFault}
use Rattle.host_trait.specs.declared.tree.HostFault.TheVariants.{Device, Memory}
use Rattle.host_trait.specs.Host.{HostState, HasCause, HasCauseOf, Rose}

pub ok_no_device : {T : Type 0} (x : T) → IsErrOf {T = T} (Ok x) Device → ⊥
ok_no_device x is = cc

-- want of memory is no fault of the device
pub memory_no_device : {T : Type 0} (f : HostFault) → f ≡ Memory → IsErrOf {T = T} (Err f) Device → ⊥
memory_no_device f memory is = cc

-- a count that rises later has risen since the beginning
pub rose_then : (a b c : ℕ) → a ≤ b → Rose b c → Rose a c
rose_then a b c later rose = omega (arith, later, rose)

module _ {a : HostState} where
  -- where nothing was called, nothing has failed
  pub started_of : (F : Type 0) → (F → ⊥) → HasCauseOf a a F
  started_of F none = record {
    later = omega arith;
    rose = λ is. absurd (none is);
    stays_sure = λ sure. sure;
    never_sure = λ sure is. none is;
    same_last = refl;
  }

  pub cause_none : {T : Type 0} → (s : Result T HostFault) → (IsErrOf s Device → ⊥) → HasCause a a s
  cause_none s none = record {
    later = omega arith;
    rose = λ is. absurd (none is);
    stays_sure = λ sure. sure;
    never_sure = λ sure is. none is;
    same_last = refl;
  }

  pub cause_started : {T : Type 0} → (x : T) → HasCause {T = T} a a (Ok x)
  cause_started x = cause_none (Ok x) (ok_no_device x)

module _ {a b : HostState} where
  -- another answer, that has no fault of the device but where the call had one
  pub cause_as : {T U : Type 0} {r : Result T HostFault} → HasCause a b r → (s : Result U HostFault) → (IsErrOf s Device → IsErrOf r Device) → HasCause a b s
  cause_as cause s from = record {
    later = cause.later;
    rose = λ is. cause.rose (from is);
    stays_sure = cause.stays_sure;
    never_sure = λ sure is. cause.never_sure sure (from is);
    same_last = cause.same_last;
  }

  -- a call that goes well needs no cause
  pub cause_ok : {T U : Type 0} {r : Result T HostFault} → HasCause a b r → (x : U) → HasCause {T = U} a b (Ok x)
  cause_ok cause x = cause_as cause (Ok x) (λ is. absurd (ok_no_device x is))

  -- the cause of a call's fault of the device
  pub cause_of : {T : Type 0} {r : Result T HostFault} → HasCause a b r → HasCauseOf a b (IsErrOf r Device)
  cause_of cause = record { later = cause.later; rose = cause.rose; stays_sure = cause.stays_sure; never_sure = cause.never_sure; same_last = cause.same_last }

module _ {a b c : HostState} where
  -- a stretch without a fault, and then a call that may have one
  pub causes : {F G H : Type 0} → HasCauseOf a b F → HasCauseOf b c G → (H → G) → HasCauseOf a c H
  causes first second from = record {
    later = omega (arith, first.later, second.later);
    rose = λ fault. rose_then a.faults b.faults c.faults first.later (second.rose (from fault));
    stays_sure = λ sure. second.stays_sure (first.stays_sure sure);
    never_sure = λ sure fault. second.never_sure (first.stays_sure sure) (from fault);
    same_last = second.same_last ∙ first.same_last;
  }

  -- two calls, one after the other, and an answer that has no fault of the device but where the second had one
  pub cause_on : {T U V : Type 0} {r : Result T HostFault} {s : Result U HostFault} {t : Result V HostFault} → HasCause a b r → HasCause b c s → (IsErrOf t Device → IsErrOf s Device) → HasCause a c t
  cause_on {t = t} first second from =
      let both = causes {H = IsErrOf t Device} (cause_of first) (cause_of second) from in
      record { later = both.later; rose = both.rose; stays_sure = both.stays_sure; never_sure = both.never_sure; same_last = both.same_last }

  -- two calls, one after the other, have the cause of the second
  pub cause_then : {T U : Type 0} {r : Result T HostFault} {s : Result U HostFault} → HasCause a b r → HasCause b c s → HasCause a c s
  cause_then first second = cause_on first second (λ fault. fault)
