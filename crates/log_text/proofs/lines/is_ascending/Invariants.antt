use Rattle.std.proofs.Common.{◌≡◌, ◌<◌, ◌+◌, ◌≤◌, ℕ, [], slice_index_or}
use Rattle.std.specs.declared.cmp.Ordering.TheVariants.{Less}
use Rattle.host_trait.specs.Bytes.{bytes_cmp}
use Rattle.log_text.proofs.lines.is_ascending.Given as goal

abbrev pub invariant-loop-at : goal.invariant-loop-at
invariant-loop-at l = (1 ≤ l.at) × ((k : ℕ) → k + 1 < l.at → bytes_cmp (slice_index_or l.names k []) (slice_index_or l.names (k + 1) []) ≡ Less)
