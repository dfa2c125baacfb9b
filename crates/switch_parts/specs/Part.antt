-- Parts of a switch, each with places of its own: NixOS manual, "What happens during a system switch?".
use Rattle.std.specs.Prelude.{◌≡◌, ◌≢◌, ◌&&◌, ◌||◌, ◌++◌, Bool, true, false, List, [], Option, None, if◌then◌else◌}
use Rattle.std.specs.FinMap.{get}
use Rattle.std.specs.Option.{option_or}
use Rattle.host_trait.specs.declared.leaf.LeafKind.{LeafKind}
use Rattle.host_trait.specs.World.{Leaves, WorldState, stage}
use Rattle.leaf_limits.specs.declared.too_long.TooLong.{TooLong}
use Rattle.leaf_limits.specs.Limits.{first_long}
use Rattle.switch_names.specs.Names.{Name}
use Rattle.switch_parts.specs.declared.refusal.Refusal.{Refusal}
use Rattle.tree_put.specs.declared.written_place.WrittenPlace.{WrittenPlace}
use Rattle.tree_put.specs.WrittenPlace.{in_the_way}

-- a part of a switch
pub record Part : Type 1 where
  -- whether it owns a place
  pub owns : Name → Bool
  -- whether it looks at a place
  pub reads : Name → Bool
  -- whether it calls the service manager
  pub calls : Bool
  -- the places that it writes
  pub places : Leaves → List WrittenPlace
  -- why it is refused, but for what is in the way and for what it puts
  pub refusal : Leaves → Option Refusal
  -- the first in byte order of what it puts longer than can be read again, where there is any
  pub long : Leaves → Option TooLong
  -- what it leaves at a place that it owns
  pub end : Leaves → Name → Option LeafKind
  -- what each moment of its work keeps of the world at its beginning
  pub Keeps : WorldState → WorldState → Type 0

-- nothing is in its way, it isn't refused, and nothing that it puts is too long to be read again
pub record IsFree (part : Part) (leaves : Leaves) : Type 0 where
  pub way : in_the_way (part.places leaves) leaves ≡ None
  pub refusal : part.refusal leaves ≡ None
  pub short : part.long leaves ≡ None

-- two worlds have the same wherever a part looks
pub record IsSameFor (part : Part) (w m : WorldState) : Type 0 where
  pub leaves : (q : Name) → part.reads q ≡ true → get m.leaves q ≡ get w.leaves q
  pub manager : part.calls ≡ true → m.manager ≡ w.manager

-- nothing has changed but what a part owns, and the stage
pub record IsOnly (part : Part) (w m : WorldState) : Type 0 where
  pub leaves : (q : Name) → part.owns q ≡ false → q ≢ stage → get m.leaves q ≡ get w.leaves q
  pub manager : part.calls ≡ false → m.manager ≡ w.manager

-- what holds of every part
pub record IsPart (part : Part) : Type 0 where
  pub keeps_self : (w : WorldState) → part.Keeps w w
  pub keeps_then : (w v m : WorldState) → part.Keeps w v → part.Keeps v m → part.Keeps w m
  pub same_end : (w m : WorldState) → part.Keeps w m → (q : Name) → part.owns q ≡ true → part.end m.leaves q ≡ part.end w.leaves q
  pub stays_free : (w m : WorldState) → part.Keeps w m → IsFree part w.leaves → IsFree part m.leaves
  pub frame : (w m : WorldState) → IsSameFor part w m → part.Keeps w m
  pub reads_own : (q : Name) → part.owns q ≡ true → part.reads q ≡ true
  pub no_stage : part.reads stage ≡ false

-- each moment of a part's work
pub record IsPartMoment (part : Part) (w m : WorldState) : Type 0 where
  pub keeps : part.Keeps w m
  pub only : IsOnly part w m

-- each place that a part owns is at its end
abbrev pub IsAtEnd : Part → WorldState → WorldState → Type 0
IsAtEnd part w v = (q : Name) → part.owns q ≡ true → get v.leaves q ≡ part.end w.leaves q

-- each place that a part owns is at its end, and nothing else that it looks at has changed
pub record IsDone (part : Part) (w v : WorldState) : Type 0 where
  pub end : IsAtEnd part w v
  pub beside : (q : Name) → part.reads q ≡ true → part.owns q ≡ false → get v.leaves q ≡ get w.leaves q

-- neither of two parts looks at what the other owns
pub record AreParted (p q : Part) : Type 0 where
  pub first : (at : Name) → p.owns at ≡ true → q.reads at ≡ false
  pub second : (at : Name) → q.owns at ≡ true → p.reads at ≡ false
  pub manager : p.calls && q.calls ≡ false

-- a part that does nothing
abbrev pub no_part : Part
no_part = record {
  owns = λ at. false;
  reads = λ at. false;
  calls = false;
  places = λ leaves. [];
  refusal = λ leaves. None;
  long = λ leaves. None;
  end = λ leaves at. get leaves at;
  Keeps = λ w m. Unit {0};
}

-- two parts together: each place has the end of its owner, the first refusal counts, and of what is put too long the first in
-- byte order
abbrev pub both : Part → Part → Part
both p q = record {
  owns = λ at. p.owns at || q.owns at;
  reads = λ at. p.reads at || q.reads at;
  calls = p.calls || q.calls;
  places = λ leaves. p.places leaves ++ q.places leaves;
  refusal = λ leaves. option_or (p.refusal leaves) (q.refusal leaves);
  long = λ leaves. first_long (p.long leaves) (q.long leaves);
  end = λ leaves at. if p.owns at then p.end leaves at else q.end leaves at;
  Keeps = λ w m. p.Keeps w m × q.Keeps w m;
}

-- the leaf at a place after a switch: its owner's end, else as it was
abbrev pub final_leaf : Part → Leaves → Name → Option LeafKind
final_leaf part leaves q = if part.owns q then part.end leaves q else get leaves q
