use Rattle.std.proofs.Common.{codes, not, ap, rules, lit<}
use Rattle.std.proofs.lemmas.Iterator.Search.{any_from_yields_List}
use Rattle.std.proofs.lemmas.Iterator.Splits.{YieldsList-from_str_split}
use Rattle.fstab_mounts.specs.Fields.{is_word}
use Rattle.fstab_mounts.proofs.fields.is_auto.Goals as goal
use borrow.Author.Tests.{tests}

-- the options are the pieces at which the text is cut
pub returns : goal.returns
returns c =
    ap not
    (any_from_yields_List (λ option. is_word option (codes "noauto")) _ _ _ c.any.ensures.ran
    (YieldsList-from_str_split 44 c.args.options.now (lit< tt) c.split.ensures.text c.split.ensures.has_more c.split.ensures.pattern)
    (λ option b q k. search (rules, tests)))
