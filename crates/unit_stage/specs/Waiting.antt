-- What waits for a start in a world: NixOS manual, "Unit handling"; bootup(7), "multi-user.target".
use Rattle.std.specs.Prelude.{◌≡◌, ◌≢◌, ◌&&◌, ◌||◌, Bool, codes, is_some}
use Rattle.host_trait.specs.World.{Leaves}
use Rattle.log_text.specs.declared.lists.Lists.{Lists}
use Rattle.log_text.specs.declared.lists.Which.{Which}
use Rattle.log_text.specs.declared.lists.Which.TheVariants.{Starts}
use Rattle.log_text.specs.Lists.{list_names}
use Rattle.owed_log.specs.Standing.{AreListsAt}
use Rattle.owed_plan.specs.Collected.{IsListBy}
use Rattle.switch_names.specs.Names.{Name, has, is_name}
use Rattle.unit_defs.specs.Units.{text_of}

-- the target to which a machine starts up
unfoldable pub start_up_target : Name
start_up_target = codes "multi-user.target"

-- whether a unit waits for a start besides those that are listed: as the machine starts up its target does, where the system defines it
abbrev pub waits_besides : Bool → Leaves → Name → Name → Bool
waits_besides start_up leaves system unit = start_up && (is_name unit start_up_target && is_some (text_of leaves system unit))

-- the lists of a world, as a switch to a system takes them: those that stand, with what waits besides among the units to start
pub record AreListsFor (start_up : Bool) (leaves : Leaves) (system : Name) (lists : Lists) : Type 0 where
  pub stored : Lists
  pub standing : AreListsAt leaves stored
  pub starts : IsListBy lists.starts (λ unit. waits_besides start_up leaves system unit || has stored.starts unit)
  pub others : (which : Which) → which ≢ Starts → list_names lists which ≡ list_names stored which
