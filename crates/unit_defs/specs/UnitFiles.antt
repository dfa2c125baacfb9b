-- What was found of one unit, and of its template where it is an instance: systemd.unit(5), "Description".
use Rattle.std.specs.Prelude.{List, [], Option, option_map, option_and_then}
use Rattle.std.specs.Option.{option_map_or, option_or}
use Rattle.unit_defs.specs.declared.reading.found.UnitFiles.{UnitFiles}
use Rattle.unit_defs.specs.declared.part.FilePart.{FilePart}
use Rattle.unit_defs.specs.Files.{base_of}
use Rattle.unit_defs.specs.Found.{in_name_order}
use Rattle.unit_defs.specs.Part.{added, line_part}

-- a unit's drop-ins in the order of their names
abbrev pub ordered_drop_ins : UnitFiles → List FilePart
ordered_drop_ins own = in_name_order own.drop_ins.entries

-- the file on which the text of a unit is based
abbrev pub base_from : UnitFiles → Option UnitFiles → Option FilePart
base_from own template = base_of own.file (ordered_drop_ins own) (option_and_then (λ files. files.file) template)

-- a file with the drop-ins of the template applied to it, and then those of the unit
abbrev pub with_drop_ins : UnitFiles → Option UnitFiles → FilePart → FilePart
with_drop_ins own template base = added (added base (option_map_or ordered_drop_ins template [])) (ordered_drop_ins own)

-- what the files of a unit say, or else its line
abbrev pub part_from : UnitFiles → Option UnitFiles → Option FilePart
part_from own template = option_or (option_map (with_drop_ins own template) (base_from own template)) (option_map line_part own.line)
