use Rattle.std.proofs.Common.{◌≡◌, take}
use Rattle.serde_json.specs.View.{members_view}
use Rattle.id_memory.specs.Json.{members_of}
use Rattle.id_memory.proofs.members.members_of_rows.Given as goal

-- the rows so far are members
abbrev pub invariant-loop-row : goal.invariant-loop-row
invariant-loop-row l = members_view l.members.entries ≡ members_of (take l.row-index l.rows)
