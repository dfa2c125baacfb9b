-- Faults of a plan: what an answer hands on.
use Rattle.std.proofs.Common.{◌≡◌, Result, Ok, Err, IsErrOf, Option, None, Some, List, ℕ, [], ◌∷◌, false, true, is_none, refl}
use Rattle.host_trait.specs.declared.tree.HostFault.{HostFault}
use Rattle.host_trait.specs.declared.tree.HostFault.TheVariants.{Device, Memory}
use Rattle.host_trait.specs.Host.{HostState}
use Rattle.host_trait.specs.Reading.{IsReading, IsReadingOf}
use Rattle.host_trait.proofs.Readings.{read_of}
use Rattle.switch_names.specs.Names.{Name}
use Rattle.boot_entries.specs.Places.{loader_path}
use Rattle.store_collect.specs.declared.collection.CollectFault.{CollectFault}
use Rattle.store_collect.specs.declared.collection.CollectFault.TheVariants.{Host, Refused}
use Rattle.store_collect.specs.declared.collection.CollectRefusal.{CollectRefusal}
use Rattle.store_collect.specs.declared.collection.CollectRefusal.TheVariants.{InTheWay, LeafBytes}
use Rattle.store_collect.specs.Collection.{loader_places}

-- a fault of the host is no refusal, and is that fault alone
pub handed_device : {T U : Type 0} (r : Result T CollectFault) (x : CollectFault) (f : HostFault) → r ≡ Err x → x ≡ Host f → IsErrOf r (Host Device) → IsErrOf {T = U} (Err f) Device
handed_device (Ok y) x f is same device = absurd cc
handed_device (Err y) x f is same device = let that : f ≡ Device = cc in cc

pub memory_device : {T : Type 0} (r : Result T CollectFault) (x : CollectFault) → r ≡ Err x → x ≡ Host Memory → IsErrOf r (Host Device) → ⊥
memory_device (Ok y) x is same device = absurd cc
memory_device (Err y) x is same device = absurd cc

pub refused_device : {T : Type 0} (why : CollectRefusal) → IsErrOf {T = T} (Err (Refused why)) (Host Device) → ⊥
refused_device why is = absurd cc

pub planned_device : {T : Type 0} (x : T) → IsErrOf {E = CollectFault} (Ok x) (Host Device) → ⊥
planned_device x is = absurd cc

pub same_place : {T : Type 0} (at other : Name) → IsErrOf {T = T} (Err (Refused (InTheWay at))) (Refused (InTheWay other)) → at ≡ other
same_place at other is = cc

pub same_count : {T : Type 0} (count other : ℕ) → IsErrOf {T = T} (Err (Refused (LeafBytes count))) (Refused (LeafBytes other)) → count ≡ other
same_count count other is = cc

-- readings after which no fault of the device is answered
pub reads_none : {a b : HostState} {T : Type 0} {r : Result T HostFault} → IsReading a b r → (F : Type 0) → (F → ⊥) → IsReadingOf a b F
reads_none reads F none = read_of reads F (λ e. absurd (none e))

-- where a text of what the boot loader reads first is put
pub some_loader : (loader : Option (List ℕ)) → is_none loader ≡ false → loader_places loader ≡ loader_path ∷ []
some_loader None is = absurd cc
some_loader (Some text) is = refl

pub no_loader : (loader : Option (List ℕ)) → is_none loader ≡ true → loader_places loader ≡ []
no_loader None is = refl
no_loader (Some text) is = absurd cc
