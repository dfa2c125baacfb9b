-- What a host means, and how its world goes on from one call to the next.
use Rattle.std.specs.Prelude.{◌≡◌, ◌≤◌, ◌+◌, ◌-◌, ◌^◌, ◌⊎◌, ℕ, min, Bool, IsTrue, Option, None, Some, Result, IsErrOf}
use Rattle.host_trait.specs.declared.tree.HostFault.{HostFault}
use Rattle.host_trait.specs.declared.tree.HostFault.TheVariants.{Device}
use Rattle.host_trait.specs.Manager.{HasPlainTexts}
use Rattle.host_trait.specs.States.{AreStates}
use Rattle.host_trait.specs.World.{WorldState, IsSound, seen}

-- the five meanings of a host
pub record HostState : Type 1 where
  -- its world, where it tells that
  pub world : Option WorldState
  -- how often its world has changed
  pub clock : ℕ
  -- the worlds that a cut since a time may have left
  pub left_since : ℕ → WorldState → Type 0
  -- the time that its clock never passes, where there is one
  pub last : Option ℕ
  -- how many calls have failed
  pub faults : ℕ
  -- whether no call will fail
  pub is_sure : Bool

-- the world, where the host tells it, has this property
pub record Told (host : HostState) (P : WorldState → Type 0) : Type 0 where
  pub has : (w : WorldState) → host.world ≡ Some w → P w

-- from the old world, where the host tells it, it has come to one in this relation to it
pub record Leads (old new : HostState) (R : WorldState → WorldState → Type 0) : Type 0 where
  pub to : (w : WorldState) → old.world ≡ Some w → (v : WorldState) × (new.world ≡ Some v) × R w v

-- the new world is this function of the old one
abbrev pub Becomes : HostState → HostState → (WorldState → WorldState) → Type 0
Becomes old new f = Leads old new (λ w v. v ≡ f w)

-- but for the stage, the new world is this function of the old one
abbrev pub Comes : HostState → HostState → (WorldState → WorldState) → Type 0
Comes old new f = Leads old new (λ w v. seen v ≡ seen (f w))

-- time goes on from old to new, and each moment on the way has this relation to the world at the start
pub record Passes (old new : HostState) (R : WorldState → WorldState → Type 0) : Type 0 where
  pub later : old.clock ≤ new.clock
  pub nothing_else :
      (t : ℕ) (m : WorldState) → t ≤ old.clock → new.left_since t m →
      old.left_since t m ⊎ ((w : WorldState) × (old.world ≡ Some w) × R w m)
  pub keeps : (t : ℕ) (m : WorldState) → t ≤ old.clock → old.left_since t m → new.left_since t m
  pub tells : Leads old new R
  pub silent : old.world ≡ None → new.world ≡ None

-- each moment since the old time has this relation to the world of then
abbrev pub EachMoment : HostState → HostState → (WorldState → WorldState → Type 0) → Type 0
EachMoment old new R = (w m : WorldState) → old.world ≡ Some w → new.left_since old.clock m → R w m

-- a count rose, or stands at its last value
abbrev pub Rose : ℕ → ℕ → Type 0
Rose before now = min (before + 1) (2 ^ 64 - 1) ≤ now

-- a fault of the device comes only where the count of faults rose, and never from a sure host
pub record HasCause {T : Type 0} (old new : HostState) (result : Result T HostFault) : Type 0 where
  pub later : old.faults ≤ new.faults
  pub rose : IsErrOf result Device → Rose old.faults new.faults
  pub stays_sure : IsTrue old.is_sure → IsTrue new.is_sure
  pub never_sure : IsTrue old.is_sure → IsErrOf result Device → ⊥
  pub same_last : new.last ≡ old.last

-- the same of a call whose own answer hands a fault of the device on
pub record HasCauseOf (old new : HostState) (fault : Type 0) : Type 0 where
  pub later : old.faults ≤ new.faults
  pub rose : fault → Rose old.faults new.faults
  pub stays_sure : IsTrue old.is_sure → IsTrue new.is_sure
  pub never_sure : IsTrue old.is_sure → fault → ⊥
  pub same_last : new.last ≡ old.last

-- what holds of every host
pub record IsHost (host : HostState) : Type 0 where
  pub sound : (w : WorldState) → host.world ≡ Some w → IsSound w.leaves
  pub plain : (w : WorldState) → host.world ≡ Some w → HasPlainTexts w.manager
  pub states : (w : WorldState) → host.world ≡ Some w → AreStates w.manager.states
  pub counts_now : (t : ℕ) (m : WorldState) → t ≤ host.clock → host.world ≡ Some m → host.left_since t m
  pub only_now : (m : WorldState) → host.left_since host.clock m → host.world ≡ Some m
  pub ends : (n : ℕ) → host.last ≡ Some n → host.clock ≤ n
