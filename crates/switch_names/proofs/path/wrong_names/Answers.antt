use Rattle.std.proofs.Common.{◌≡◌, ap, sym, ◌∙◌, ◌||◌, lit<}
use Rattle.std.specs.List.{list_any}
use Rattle.std.proofs.lemmas.Iterator.Consumers.{YieldsList-at, YieldsList-end}
use Rattle.std.proofs.lemmas.Iterator.Splits.{YieldsList-from_str_split}
use Rattle.switch_names.specs.Path.{is_dots}
use Rattle.switch_names.specs.Texts.{is_empty}
use Rattle.switch_names.proofs.Joined.{any_more}
use Rattle.switch_names.proofs.path.wrong_names.Goals as goal

pub loop-name-preserved : goal.loop-name-preserved
loop-name-preserved c =
    let is_dots_now : c.is_dots-has_dots.result ≡ is_dots c.in-Some.name.now = c.is_dots-has_dots.ensures ∙ ap is_dots c.as_bytes.ensures.value in
    record {
      empty = (λ i. c.loop-name.invariant.empty i || c.is_empty-has_empty.ensures i) ∙ sym (any_more is_empty c.loop-name.yielded c.in-Some.name);
      dots = (λ i. c.loop-name.invariant.dots i || is_dots_now i) ∙ sym (any_more is_dots c.loop-name.yielded c.in-Some.name);
    }

-- the names are the pieces at which the text is cut
pub returns : goal.returns
returns c =
    let split = c.split-name-items.ensures in
    let end = YieldsList-end
    (YieldsList-at c.into_iter-name-iterator.ensures.into_iter_gives (YieldsList-from_str_split 47 c.args.text.now (lit< tt) split.text split.has_more split.pattern))
    c.loop-name.yielded _ c.loop-name.yielded_by _ _ c.in-None.is c.next.ensures.steps in
    record {
      empty = c.loop-name.invariant.empty ∙ ap (list_any is_empty) end.0;
      dots = c.loop-name.invariant.dots ∙ ap (list_any is_dots) end.0;
    }
