use Rattle.std.proofs.Common.{nat_eq, List, ℕ, ap, ◌∙◌}
use Rattle.std.specs.List.{list_any, starts_with}
use Rattle.etc_clean.proofs.SearchLemmas.{any_below}
use Rattle.etc_clean.proofs.search.has_below.Goals as goal

pub returns : goal.returns
returns c = λ sorted.
    c.has_front.ensures sorted
    ∙ ap (λ (front : List ℕ). list_any {X = List ℕ} (λ q. starts_with nat_eq q front) c.args.names.now) (c.as_str.ensures ∙ c.in_ok-front.ensures)
    ∙ any_below c.args.name.now c.args.names.now
