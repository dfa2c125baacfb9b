-- An activation writes no leaf that stands: NixOS manual, "What happens during a system switch?".
use Rattle.std.specs.Prelude.{◌++◌, List}
use Rattle.accounts_stage.specs.OnTheWay.{names_first}
use Rattle.etc_farm.specs.Written.{clean_first}
use Rattle.host_trait.specs.declared.leaf.LeafKind.{LeafKind}
use Rattle.host_trait.specs.World.{Leaves, WorldState}
use Rattle.switch_names.specs.Names.{Name}
use Rattle.switch_parts.specs.Part.{final_leaf}
use Rattle.switch_parts.specs.Quiet.{IsQuiet}
use Rattle.activation_stage.specs.ActivationPart.{activation_in}
use Rattle.activation_stage.specs.Owners.{owners_after}

-- the leaves that an activation puts at a place before its end: declared names, and the first clean list
abbrev pub activation_first : Name → Leaves → Name → List LeafKind
activation_first system leaves q = names_first system leaves q ++ clean_first system (owners_after system leaves) leaves q

-- each place is written at most once for each leaf that it gets, and not at all where what it gets stands
abbrev pub ActivatesQuietly : Name → WorldState → WorldState → Type 0
ActivatesQuietly system w v = IsQuiet (activation_first system) (λ leaves. final_leaf (activation_in system leaves) leaves) w v
