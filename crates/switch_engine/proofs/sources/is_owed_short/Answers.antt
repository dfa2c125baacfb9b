use Rattle.std.proofs.Common.{List, subst, ◌∙◌}
use Rattle.std.proofs.lemmas.Bool.{both_ways}
use Rattle.leaf_limits.specs.Limits.{AreWithin}
use Rattle.switch_names.specs.Names.{Name}
use Rattle.switch_engine.proofs.sources.is_owed_short.Goals as goal

pub returns-then-not-row : goal.returns-then-not-row
returns-then-not-row c leaves are short on = absurd (both_ways _ c.if-not-row.true on)

pub returns : goal.returns
returns c leaves are short on =
    subst (λ (places : List Name). AreWithin places leaves) (c.as_slice.ensures ∙ c.in_ok-places.ensures) (c.are_known_short.ensures leaves are short)
