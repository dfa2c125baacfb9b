use Rattle.std.proofs.Common.{subst, sym}
use Rattle.tree_put.specs.Found.{IsFound}
use Rattle.tree_put.proofs.FoundLemmas.{found_more}
use Rattle.tree_put.proofs.found.note.Goals as goal

pub returns : goal.returns
returns c leaves are this =
    found_more leaves c.args.findings.now c.insert.new.self c.in_ok-copy.field-0 c.args.found are
    (subst (λ p. IsFound leaves p c.args.found) (sym c.in_ok-copy.ensures) this) c.in_ok-insert.ensures.updates.0
