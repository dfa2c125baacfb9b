use Rattle.std.proofs.Common.{◌≡◌, List, ℕ, ap, ◌∙◌}
use Rattle.std.specs.FinMap.{keys}
use Rattle.std.specs.List.{list_any}
use Rattle.switch_names.specs.Path.{is_below}
use Rattle.host_trait.proofs.Moments.{told_as}
use Rattle.tree_put.proofs.BlockedLemmas.{listed_below}
use Rattle.host_trait.proofs.Readings.{read_ok}
use Rattle.tree_put.proofs.blocked.has_leaf_below.Goals as goal

pub returns-clause-below : goal.returns-clause-below
returns-clause-below g c =
    told_as c.in_ok-paths.ensures.paths (λ w. c.any_below.result ≡ list_any {X = List ℕ} (λ q. is_below q c.args.at.now) (keys w.leaves))
    (λ w is listed. c.any_below.ensures ∙ ap (list_any {X = List ℕ} (λ q. is_below q c.args.at.now)) (c.as_slice.ensures ∙ listed)
    ∙ listed_below c.args.at.now c.requires (keys w.leaves))

pub returns-clause-reads : goal.returns-clause-reads
returns-clause-reads g c = read_ok c.list.ensures.reads c.any_below.result
