-- Faults of a plan that are handed on.
use Rattle.std.proofs.Common.{◌≡◌, Result, Ok, Err, IsErrOf, sym, ap, ◌∙◌}
use Rattle.host_trait.specs.declared.tree.HostFault.{HostFault}
use Rattle.host_trait.specs.declared.tree.HostFault.TheVariants.{Device, Memory}
use Rattle.switch_parts.specs.declared.plan_fault.PlanFault.{PlanFault}
use Rattle.switch_parts.specs.declared.plan_fault.PlanFault.TheVariants.{Host, Refused}
use Rattle.switch_parts.specs.declared.refusal.Refusal.{Refusal}

pub same_err : {T E : Type 0} (x y : E) → IsErrOf {T = T} (Err x) y → x ≡ y
same_err x y e = cc

pub no_err : {T E : Type 0} (x : T) (y : E) → IsErrOf (Ok x) y → ⊥
no_err x y e = cc

pub handed : {T U E : Type 0} (r : Result T E) (x f y : E) → r ≡ Err x → x ≡ f → IsErrOf r y → IsErrOf {T = U} (Err f) y
handed r x f y is from e = ap (λ f. Err f) (sym from ∙ same_err x y (sym is ∙ e))

-- a fault of the host is no refusal
pub host_no_refusal : {T : Type 0} (r : Result T PlanFault) (x : PlanFault) (f : HostFault) (why : Refusal) → r ≡ Err x → x ≡ Host f → IsErrOf r (Refused why) → ⊥
host_no_refusal r x f why is from e = cc

pub host_device : {T U : Type 0} (r : Result T PlanFault) (x : PlanFault) (f : HostFault) → r ≡ Err x → x ≡ Host f → IsErrOf r (Host Device) → IsErrOf {T = U} (Err f) Device
host_device r x f is from e = let same : f ≡ Device = cc in ap (λ f. Err f) same

-- want of memory is no fault of the device
pub memory_no_device : {T : Type 0} (r : Result T PlanFault) (x : PlanFault) → r ≡ Err x → x ≡ Host Memory → IsErrOf r (Host Device) → ⊥
memory_no_device r x is from e = cc

pub refused_is : {T : Type 0} (a b : Refusal) → IsErrOf {T = T} (Err (Refused a)) (Refused b) → a ≡ b
refused_is a b e = cc

pub refused_no_device : {T : Type 0} (why : Refusal) → IsErrOf {T = T} (Err (Refused why)) (Host Device) → ⊥
refused_no_device why e = cc
