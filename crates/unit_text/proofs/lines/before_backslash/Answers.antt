use Rattle.std.proofs.Common.{lit<}
use Rattle.std.proofs.lemmas.Str.Pattern.{strip_suffix_char}
use Rattle.unit_text.proofs.EndLemmas.{split_at_backslash}
use Rattle.unit_text.proofs.lines.before_backslash.Goals as goal

pub returns : goal.returns
returns c = split_at_backslash _ _ (strip_suffix_char 92 c.args.line.now c.strip_suffix.result c.strip_suffix.ensures.cases (lit< tt))
