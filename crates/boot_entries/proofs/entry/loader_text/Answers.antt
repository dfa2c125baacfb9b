use Rattle.std.proofs.Common.{rules}
use Rattle.boot_entries.proofs.TextLemmas.{loader_is}
use Rattle.boot_entries.proofs.entry.loader_text.Goals as goal

pub returns : goal.returns
returns c = loader_is c.args.number c.in_ok-text.text (search rules)
