use Rattle.std.proofs.Common.{◌≡◌, ◌||◌, ◌&&◌, take}
use Rattle.switch_names.specs.Names.{Name, has, is_name}
use Rattle.unit_defs.specs.Defs.{own_in}
use Rattle.unit_defs.specs.Place.{place_after}
use Rattle.unit_defs.specs.Taken.{takes_place}
use Rattle.unit_defs.proofs.taken_paths.taken_among.Given as goal

-- the path of the fstab and those so far at which something stands that is taken
abbrev pub invariant-loop-path : goal.invariant-loop-path
invariant-loop-path l = (q : Name) → has l.taken.keys q ≡ (is_name q l.fn.fstab || (has (take l.path-index l.paths) q && takes_place (own_in l.units) (place_after l.front q)))
