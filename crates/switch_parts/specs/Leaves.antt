-- Parts of leaves alone, whose moments keep what they leave: rename(2), unlink(2).
use Rattle.std.specs.Prelude.{◌≡◌, Bool, true, false, List, Option, None}
use Rattle.std.specs.List.{list_any}
use Rattle.host_trait.specs.declared.leaf.LeafKind.{LeafKind}
use Rattle.host_trait.specs.World.{Leaves, WorldState, is_in_line, is_path}
use Rattle.switch_names.specs.Names.{Name}
use Rattle.switch_parts.specs.declared.refusal.Refusal.{Refusal}
use Rattle.switch_parts.specs.Part.{Part}
use Rattle.tree_put.specs.declared.written_place.WrittenPlace.{WrittenPlace}
use Rattle.tree_put.specs.WrittenPlace.{in_the_way}

-- what a part leaves at a place, given the leaves at the beginning
abbrev pub End : Type 0
End = Leaves → Name → Option LeafKind

-- whether a path is one of these places
abbrev pub is_among : List Name → Name → Bool
is_among places q = list_any (is_path q) places

-- whether a path lies above or below one of these places
abbrev pub is_near : List WrittenPlace → Name → Bool
is_near places q = list_any (λ place. is_in_line q place.at) places

-- the same is left at the places that are owned, and what isn't refused stays so
pub record EndsSame (owns : Name → Bool) (places : Leaves → List WrittenPlace) (refusal : Leaves → Option Refusal) (end : End) (w m : WorldState) : Type 0 where
  pub ends : (q : Name) → owns q ≡ true → end m.leaves q ≡ end w.leaves q
  pub free : in_the_way (places w.leaves) w.leaves ≡ None → refusal w.leaves ≡ None → (in_the_way (places m.leaves) m.leaves ≡ None) × (refusal m.leaves ≡ None)

-- the part that owns places, looks at some, writes some of them by way of the stage, and leaves this there, nothing of which is too
-- long to be read again
abbrev pub leaf_part : (Name → Bool) → (Name → Bool) → (Leaves → List WrittenPlace) → (Leaves → Option Refusal) → End → Part
leaf_part owns reads places refusal end = record {
  owns = owns;
  reads = reads;
  calls = false;
  places = places;
  refusal = refusal;
  long = λ leaves. None;
  end = end;
  Keeps = λ w m. EndsSame owns places refusal end w m;
}
