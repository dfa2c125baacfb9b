use Rattle.std.proofs.Common.{◌≡◌, ◌++◌, option_map}
use Rattle.serde_json.specs.View.{members_view}
use Rattle.id_memory.specs.Json.{rows_in}
use Rattle.id_memory.proofs.members.rows_of_members.Given as goal

-- the rows so far go before those of the members that are left
abbrev pub invariant-loop-name : goal.invariant-loop-name
invariant-loop-name l =
    option_map (λ rest. l.rows.items ++ rest) (rows_in (members_view l.name-iterator)) ≡ rows_in (members_view l.fn.members.entries)
