use Rattle.std.proofs.Common.{◌≡◌, ◌++◌, length, min}
use Rattle.manager_core.specs.StateText.{IsReadable, line_max, state_lines, state_text}
use Rattle.manager_core.proofs.reading.read_state.Given as goal

-- what was read makes up the state, each line of it
abbrev pub invariant-loop-line : goal.invariant-loop-line
invariant-loop-line l = record {
  whole : l.fn.bytes ≡ state_text l.state ++ l.rest;
  readable : IsReadable l.state;
  counted : l.count ≡ min (length (state_lines l.state)) line_max;
}

abbrev pub decreases-loop-line : goal.decreases-loop-line
decreases-loop-line l = length l.rest
