use Rattle.std.proofs.Common.{◌≡◌, ◌≤◌}
use Rattle.made_world.specs.Draws.{state_at}
use Rattle.rehearse.proofs.generated.skip.Given as goal

-- so many draws are left out
abbrev pub invariant-loop-number : goal.invariant-loop-number
invariant-loop-number l = record {
  draws : l.draws.state ≡ state_at l.fn.draws.state l._number;
  within : l._number ≤ l.count;
}
