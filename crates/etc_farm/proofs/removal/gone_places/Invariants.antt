use Rattle.std.proofs.Common.{◌≡◌, map, take}
use Rattle.etc_clean.specs.Names.{place}
use Rattle.etc_farm.proofs.removal.gone_places.Given as goal

-- the places of the names so far
abbrev pub invariant-loop-name : goal.invariant-loop-name
invariant-loop-name l = l.places ≡ map place (take l.name-index l.names)
