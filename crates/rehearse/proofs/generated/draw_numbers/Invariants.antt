use Rattle.std.proofs.Common.{◌≡◌, ◌≤◌}
use Rattle.made_world.specs.Draws.{state_at}
use Rattle.rehearse.specs.Generated.{drawn_numbers}
use Rattle.rehearse.proofs.generated.draw_numbers.Given as goal

-- the first so many numbers are drawn
abbrev pub invariant-loop-number : goal.invariant-loop-number
invariant-loop-number l =
    let seed = l.fn.draws.state in
    record {
      draws : l.draws.state ≡ state_at seed l._number;
      numbers : l.numbers ≡ drawn_numbers seed l._number;
      within : l._number ≤ l.count;
    }
