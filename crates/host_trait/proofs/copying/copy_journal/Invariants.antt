use Rattle.std.proofs.Common.{◌≡◌, take}
use Rattle.host_trait.proofs.copying.copy_journal.Given as goal

-- the acts so far are copied
abbrev pub invariant-loop-entry : goal.invariant-loop-entry
invariant-loop-entry l = l.copied ≡ take l.entry-index l.journal
