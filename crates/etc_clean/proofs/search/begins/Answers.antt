use Rattle.std.proofs.Common.{nat_eq, List, ℕ, ap, ◌∙◌}
use Rattle.std.proofs.lemmas.Str.Pattern.{starts_text}
use Rattle.std.specs.List.{starts_with}
use Rattle.etc_clean.proofs.search.begins.Goals as goal

pub returns : goal.returns
returns c =
    starts_text c.starts_with.result c.args.front.now c.as_str.result.now c.starts_with.ensures.cases ∙ ap (λ (text : List ℕ). starts_with nat_eq text c.args.front.now) c.as_str.ensures.text
