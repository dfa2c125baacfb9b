use Rattle.std.proofs.Common.{◌≡◌, ◌≤◌, drop, length}
use Rattle.switch_parts.specs.Puts.{long_with}
use Rattle.switch_parts.proofs.puts.long_with.Given as goal

-- what is found is the first among the puts that have been looked at, which are the last
abbrev pub invariant-loop-k : goal.invariant-loop-k
invariant-loop-k l = record {
  inside : l.k ≤ length l.puts;
  first : l.first ≡ long_with l.fn.found (drop l.k l.puts);
}
