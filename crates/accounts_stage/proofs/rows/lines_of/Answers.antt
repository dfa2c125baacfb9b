use Rattle.std.proofs.Common.{not, ◌∙◌, rules, tests}
use Rattle.std.proofs.lemmas.Iterator.Consumers.{YieldsList-at, YieldsList-from_filter, count_from_yields_List}
use Rattle.std.proofs.lemmas.Iterator.Splits.{YieldsList-from_slice_split}
use Rattle.std.proofs.lemmas.List.Sums.{length-filter}
use Rattle.switch_names.specs.Texts.{is_empty, is_line_feed}
use Rattle.account_text.specs.Field.{lines}
use Rattle.accounts_stage.proofs.rows.lines_of.Goals as goal

pub returns : goal.returns
returns c =
    let split = c.split.ensures in
    count_from_yields_List _ c.count.result c.count.ensures.ran
    (YieldsList-from_filter _ (λ line. not (is_empty line))
    (YieldsList-at c.filter.ensures.source (YieldsList-from_slice_split _ is_line_feed c.args.text.now (cc) (cc) split.closure (λ x b q k. search (rules, tests))))
    c.filter.ensures.closure (λ x b q k. search (rules, tests)))
    ∙ length-filter (λ line. not (is_empty line)) (lines c.args.text.now)
