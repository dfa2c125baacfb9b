-- The files that the boot menu is made of: Boot Loader Specification, "Type #1 Boot Loader Specification Entries".
use Rattle.std.specs.Prelude.{◌∷◌, List, [], Option}
use Rattle.std.specs.List.{flat_map}
use Rattle.std.specs.Option.{option_map_or}
use Rattle.generations.specs.declared.gens.Gen.{Gen}
use Rattle.generations.specs.declared.gens.Gens.{Gens}
use Rattle.host_trait.specs.World.{Leaves}
use Rattle.leaf_limits.specs.Limits.{long_past}
use Rattle.switch_names.specs.Names.{Name, has}
use Rattle.switch_parts.specs.declared.refusal.Refusal.{Refusal}
use Rattle.switch_parts.specs.declared.refusal.What.TheVariants.{LeafBytes}
use Rattle.switch_parts.specs.Limits.{too_many}
use Rattle.boot_entries.specs.Entries.{params_path, version_path}

-- the files of a system that its entry is made of: its version and the parameters of its kernel
abbrev pub files_of : Name → List Name
files_of system = version_path system ∷ params_path system ∷ []

-- the files that the entry of a generation is made of, where it names a system
abbrev pub sources_of : Gen → List Name
sources_of gen = option_map_or files_of gen.target []

-- the files that the boot menu of some generations is made of
abbrev pub taken_of : Gens → List Name
taken_of gens = flat_map sources_of gens.list

-- the refusal of the first of these in byte order that is too long, where there is one
abbrev pub menu_too_long : Gens → Leaves → Option Refusal
menu_too_long gens leaves = too_many LeafBytes (long_past (has (taken_of gens)) leaves)
