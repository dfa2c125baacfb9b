-- The contents that the units of a system are read from: systemd.unit(5), "Description", and fstab(5).
use Rattle.std.specs.Prelude.{◌≡◌, ◌||◌, not, Bool, true, false, List, Option, None, Some, is_some}
use Rattle.host_trait.specs.World.{Leaves}
use Rattle.leaf_limits.specs.Limits.{is_long}
use Rattle.switch_names.specs.Names.{Name, is_name}
use Rattle.unit_text.specs.declared.assignment.Assignment.{Assignment}
use Rattle.unit_defs.specs.declared.place.UnitPlace.{UnitPlace}
use Rattle.unit_defs.specs.declared.place.UnitPlace.TheVariants.{File, DropIn, Want}
use Rattle.unit_defs.specs.Fstab.{fstab_path}
use Rattle.unit_defs.specs.Place.{is_want, place_of}
use Rattle.unit_defs.specs.Units.{file_text}

-- whether what stands at a place is taken, by the texts that the files of units say: a unit's file, or a drop-in of a unit with such a text
abbrev pub takes_place : (Name → Option (List Assignment)) → Option UnitPlace → Bool
takes_place texts None = false
takes_place texts (Some (File unit)) = true
takes_place texts (Some (DropIn unit name)) = is_some (texts unit)
takes_place texts (Some (Want unit name)) = false

-- whether the units of a system take the content at a path: it is the fstab, a unit's file, or a drop-in of a unit whose files have a base
abbrev pub takes_units : Leaves → Name → Name → Bool
takes_units leaves system q = is_name q (fstab_path system) || takes_place (file_text leaves system) (place_of system q)

-- whether the content is read of what stands at a place
abbrev pub is_read : Option UnitPlace → Bool
is_read None = false
is_read (Some place) = not (is_want place)

-- no content that is taken is too long
abbrev pub AreShort : (Name → Bool) → Leaves → Type 0
AreShort is_taken leaves = (q : Name) → is_taken q ≡ true → is_long leaves q ≡ false

-- where no content that is too long has been noted, none was before, and none that is taken is too long
abbrev pub NotesLong : Bool → Bool → (Name → Bool) → Leaves → Type 0
NotesLong old new is_taken leaves = new ≡ false → (old ≡ false) × AreShort is_taken leaves
