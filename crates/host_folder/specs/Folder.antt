-- A host that tells nothing of its world.
use Rattle.std.specs.Prelude.{ℕ, false, None}
use Rattle.std.proofs.lemmas.Option.{none-some}
use Rattle.host_trait.specs.Host.{HostState, IsHost}

-- nothing but the count of faults is told
abbrev pub silent_state : ℕ → HostState
silent_state faults = record {
  world = None;
  clock = 0;
  left_since = λ t m. ⊥;
  last = None;
  faults = faults;
  is_sure = false;
}

-- the laws of a host hold of it
pub silent_is_host : (faults : ℕ) → IsHost (silent_state faults)
silent_is_host faults = record {
  sound = λ w is. absurd (none-some w is);
  plain = λ w is. absurd (none-some w is);
  states = λ w is. absurd (none-some w is);
  counts_now = λ t m early is. absurd (none-some m is);
  only_now = λ m left. absurd left;
  ends = λ n is. absurd (none-some n is);
}
