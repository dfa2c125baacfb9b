use Rattle.std.proofs.Common.{List, ℕ, ap, map, sym, ◌∙◌}
use Rattle.switch_names.specs.Names.{has}
use Rattle.etc_clean.proofs.SearchLemmas.{has_at, map_self}
use Rattle.etc_clean.proofs.walk.Walk.is_clean.Goals as goal

pub returns-in-Ok : goal.returns-in-Ok
returns-in-Ok c =
    sym (has_at (map (λ (name : List ℕ). name) c.args.clean.now) c.in-Ok.at c.args.name.now c.in-Ok.ensures.found)
    ∙ ap (λ (names : List (List ℕ)). has names c.args.name.now) (map_self c.args.clean.now)
