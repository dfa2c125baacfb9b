-- What stands on the way while accounts are set: nixpkgs, update-users-groups.pl.
use Rattle.std.specs.Prelude.{◌∷◌, List, [], Option, None, Some, if◌then◌else◌}
use Rattle.host_trait.specs.Leaf.{open_file}
use Rattle.host_trait.specs.declared.leaf.LeafKind.{LeafKind}
use Rattle.host_trait.specs.World.{Leaves, is_path}
use Rattle.switch_names.specs.Names.{Name}
use Rattle.users_merge.specs.Stored.{Merged}
use Rattle.accounts_stage.specs.AccountsPart.{merged_in}
use Rattle.accounts_stage.specs.Files.{names_text}
use Rattle.accounts_stage.specs.Places.{groups_place, users_place}

-- the leaves that a merge puts at a place before its end: the names of old with those that are declared now
abbrev pub merged_first : Merged → Name → List LeafKind
merged_first m q =
    if is_path q users_place then open_file (names_text m.all_users) ∷ []
    else if is_path q groups_place then open_file (names_text m.all_groups) ∷ []
    else []

-- the same, and none without a merge
abbrev pub first_by : Option Merged → Name → List LeafKind
first_by None q = []
first_by (Some m) q = merged_first m q

-- the leaves that a switch to a system puts at a place of accounts before its end
abbrev pub names_first : Name → Leaves → Name → List LeafKind
names_first system leaves q = first_by (merged_in system leaves) q
