use Rattle.std.proofs.Common.{◌∙◌}
use Rattle.boot_entries.proofs.TextLemmas.{entry_is}
use Rattle.boot_entries.proofs.entry.entry_text.Goals as goal

pub returns : goal.returns
returns c =
    c.in_ok-text.ensures
    ∙ entry_is c.args.number c.args.system.now c.args.version.now c.args.params.now c.in_ok-head.head c.in_ok-middle.middle c.in_ok-head.ensures c.in_ok-middle.ensures
