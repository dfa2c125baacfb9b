use Rattle.boot_entries.proofs.NumberLemmas.{bears_entry}
use Rattle.boot_entries.proofs.number.number_of_entry.Goals as goal

pub returns : goal.returns
returns c = bears_entry c.args.path.now c.in_ok-number.number c.in_ok-number.ensures
