use Rattle.std.proofs.Common.{lit<}
use Rattle.std.proofs.lemmas.Str.Pattern.{strip_prefix_char}
use Rattle.switch_names.specs.Path.{slash}
use Rattle.switch_names.proofs.Below.{below_stripped}
use Rattle.switch_names.proofs.path.text_below.Goals as goal

pub returns-clause-name : goal.returns-clause-name
returns-clause-name c =
    (below_stripped c.args.text.now c.args.other.now c.in-Some.rest.now c.strip_prefix.result c.in-Some.ensures.0 c.in-Some.ensures.1
    (strip_prefix_char slash c.in-Some.rest.now c.strip_prefix.result c.strip_prefix.ensures.cases (lit< tt))).0

pub returns-clause-cut : goal.returns-clause-cut
returns-clause-cut c =
    (below_stripped c.args.text.now c.args.other.now c.in-Some.rest.now c.strip_prefix.result c.in-Some.ensures.0 c.in-Some.ensures.1
    (strip_prefix_char slash c.in-Some.rest.now c.strip_prefix.result c.strip_prefix.ensures.cases (lit< tt))).1
