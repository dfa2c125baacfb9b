use Rattle.std.proofs.Common.{◌≡◌, ◌≤◌}
use Rattle.made_world.specs.Draws.{state_at}
use Rattle.made_world.specs.Units.{units_bad, units_leaves, units_states}
use Rattle.made_world.proofs.PuttingLemmas.{with_both}
use Rattle.made_world.proofs.units.make_units.Given as goal

-- the first so many units are made
abbrev pub invariant-loop-number : goal.invariant-loop-number
invariant-loop-number l =
    let seed = l.fn.draws.state in
    record {
      draws : l.draws.state ≡ state_at seed l.number;
      world : l.world ≡ with_both (units_leaves seed l.number) (units_bad seed l.number) l.fn.world;
      states : l.states ≡ units_states seed l.number;
      within : l.number ≤ l.units;
    }
