use Rattle.std.proofs.Common.{◌≡◌, ℕ, take}
use Rattle.std.specs.BTreeSet.{contains}
use Rattle.std.specs.Ordering.{nat_cmp}
use Rattle.boot_entries.specs.Texts.{has_target}
use Rattle.boot_entries.proofs.gone.targeted.Given as goal

-- the set has the numbers so far
abbrev pub invariant-loop-generation : goal.invariant-loop-generation
invariant-loop-generation l = (n : ℕ) → contains nat_cmp l.numbers n ≡ has_target (take l.generation-index l.list) n
