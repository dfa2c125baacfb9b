use Rattle.std.proofs.Common.{◌≡◌, ◌≤◌, ◌*◌}
use Rattle.made_world.specs.Draws.{state_at}
use Rattle.rehearse.specs.Generated.{drawn_cuts}
use Rattle.rehearse.proofs.generated.draw_cuts.Given as goal

-- the first so many cuts are drawn
abbrev pub invariant-loop-number : goal.invariant-loop-number
invariant-loop-number l =
    let seed = l.fn.draws.state in
    record {
      draws : l.draws.state ≡ state_at seed (2 * l._number);
      cuts : l.cuts ≡ drawn_cuts seed l._number;
      within : l._number ≤ 64;
    }
