use Rattle.std.proofs.Common.{◌||◌, List, ℕ, sym, ap, ◌∙◌}
use Rattle.std.specs.List.{list_any}
use Rattle.switch_names.specs.Path.{is_below}
use Rattle.host_trait.proofs.KeyTests.{below_or_above}
use Rattle.etc_clean.proofs.search.has_in_line.Goals as goal

pub returns-then-below : goal.returns-then-below
returns-then-below c = λ sorted.
    c.if-below.true
    ∙ sym (below_or_above c.args.names.now c.args.name.now
    ∙ ap (λ b. b || list_any {X = List ℕ} (λ q. is_below c.args.name.now q) c.args.names.now) (sym (c.in_ok-below.ensures sorted) ∙ c.if-below.true))

pub returns : goal.returns
returns c = λ sorted.
    c.in_ok-above.ensures sorted
    ∙ sym (below_or_above c.args.names.now c.args.name.now
    ∙ ap (λ b. b || list_any {X = List ℕ} (λ q. is_below c.args.name.now q) c.args.names.now) (sym (c.in_ok-below.ensures sorted) ∙ c.if-below.false))
