-- Ids of users and groups: passwd(5), group(5) and chown(2).
use Rattle.std.specs.Prelude.{ℕ}

-- the greatest id: the number after it means none
abbrev pub id_max : ℕ
id_max = 4294967294
