use Rattle.std.proofs.Common.{rules}
use Rattle.std.proofs.lemmas.Iterator.Consumers.{YieldsList-from_filter, map_from_collect}
use Rattle.std.proofs.lemmas.Iterator.Splits.{YieldsList-from_str_split}
use Rattle.fstab_mounts.specs.Escape.{is_some_name}
use Rattle.fstab_mounts.proofs.fields.parts_of.Goals as goal
use borrow.Author.Tests.{tests}

pub returns : goal.returns
returns c =
    map_from_collect _ c.collect.ensures.ran
    (YieldsList-from_filter _ is_some_name
    (YieldsList-from_str_split c.args.separator c.args.text.now c.requires (cc) (cc) (cc))
    c.filter.ensures.closure (λ part b q k. search (rules, tests)))
