use Rattle.std.proofs.Common.{◌≡◌, ◌≤◌}
use Rattle.made_world.specs.Draws.{state_at}
use Rattle.made_world.specs.Entries.{entries_leaves}
use Rattle.made_world.specs.Putting.{with_leaves}
use Rattle.made_world.proofs.entries.make_entries.Given as goal

-- the first so many entries are made
abbrev pub invariant-loop-number : goal.invariant-loop-number
invariant-loop-number l =
    let seed = l.fn.draws.state in
    record {
      draws : l.draws.state ≡ state_at seed l.number;
      world : l.world ≡ with_leaves (entries_leaves seed l.number) l.fn.world;
      within : l.number ≤ l.entries;
    }
