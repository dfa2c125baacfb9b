-- Accounts that aren't declared: NixOS manual, option `users.mutableUsers`.
use Rattle.std.specs.Prelude.{◌&&◌, Bool, not, List}
use Rattle.switch_names.specs.Names.{Name, has}
use Rattle.users_merge.specs.declared.staying.Staying.{Staying}

-- whether what has a name stays: such things may stay, and the name isn't declared and wasn't before
abbrev pub undeclared : Bool → List Name → List Name → Name → Bool
undeclared mutable declared earlier name = mutable && not (has declared name) && not (has earlier name)

-- the same by the names that are held
abbrev pub stays_by : Staying → Name → Bool
stays_by staying name = undeclared staying.mutable staying.declared.now staying.earlier.now name
