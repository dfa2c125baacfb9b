use Rattle.std.proofs.Common.{◌≡◌, ◌≤◌, string_bytes}
use Rattle.made_world.specs.Draws.{state_at}
use Rattle.made_world.specs.Users.{new_users, old_users}
use Rattle.made_world.proofs.users.make_users.Given as goal

-- the first so many users are declared
abbrev pub invariant-loop-number : goal.invariant-loop-number
invariant-loop-number l =
    let seed = l.fn.draws.state in
    record {
      draws : l.draws.state ≡ state_at seed l.number;
      old : string_bytes l.old_users ≡ old_users seed l.number;
      new : string_bytes l.new_users ≡ new_users seed l.number;
      within : l.number ≤ l.users;
    }
