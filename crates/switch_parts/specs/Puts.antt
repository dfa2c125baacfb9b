-- What is put longer than can be read again. The greatest length is this project's own.
use Rattle.std.specs.Prelude.{List, [], ◌∷◌, Option, None, Some, option_map}
use Rattle.host_trait.specs.World.{file_bytes}
use Rattle.leaf_limits.specs.declared.too_long.TooLong.{TooLong}
use Rattle.leaf_limits.specs.Limits.{content_past, first_long}
use Rattle.tree_put.specs.declared.leaf_put.LeafPut.{LeafPut}

-- the file that a put puts, where it is too long: a link has no content
abbrev pub long_put : LeafPut → Option TooLong
long_put put = option_map (λ count. record { at = put.at; count = count }) (content_past (file_bytes (Some put.leaf)))

-- the first in byte order of what was found too long and of what some puts put too long, where there is any: of one place what is put first
abbrev pub long_with : Option TooLong → List LeafPut → Option TooLong
long_with found [] = found
long_with found (put ∷ puts) = first_long (long_put put) (long_with found puts)

-- the first in byte order of what some puts put too long, where there is any
abbrev pub long_among : List LeafPut → Option TooLong
long_among puts = long_with None puts
