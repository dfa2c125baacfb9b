-- What a reboot leaves of a world: file-hierarchy(7), "/run/", and systemd(1), "Concepts".
use Rattle.std.specs.Prelude.{◌&&◌, ◌||◌, ℕ, not, Bool, List, [], codes}
use Rattle.std.specs.FinMap.{empty, retain_keys}
use Rattle.switch_names.specs.Path.{is_below}
use Rattle.host_trait.specs.declared.leaf.LeafKind.{LeafKind}
use Rattle.host_trait.specs.declared.leaf.LeafKind.TheVariants.{File}
use Rattle.host_trait.specs.World.{WorldState, is_elsewhere, is_path, stage, with_leaf}

-- the folder that a reboot empties
unfoldable pub run_folder : List ℕ
run_folder = codes "run"

-- whether a path is that folder's, or lies below it
abbrev pub is_in_run : List ℕ → Bool
is_in_run q = is_path q run_folder || is_below q run_folder

-- whether the leaf at a path outlasts a reboot
abbrev pub outlasts : List ℕ → Bool
outlasts q = not (is_in_run q) && is_elsewhere q

-- the world after a reboot: no unit is active, nothing is loaded, and what was done and written stays told
abbrev pub rebooted : WorldState → WorldState
rebooted w = record w { leaves = retain_keys w.leaves outlasts; manager = record w.manager { states = empty; loaded = [] } }

-- an empty file, which a loss of power may leave at the stage
abbrev pub blank : LeafKind
blank = File [] 0 0 0

-- the world after a reboot that left an empty file at the stage
abbrev pub rebooted_with_blank : WorldState → WorldState
rebooted_with_blank w = with_leaf stage blank (rebooted w)
