use Rattle.std.proofs.Common.{option_copied, ap, sym, ◌∙◌}
use Rattle.etc_manifest.proofs.NameLemmas.{below_past, not_last}
use Rattle.etc_manifest.proofs.names.is_after.Goals as goal

pub returns-in-Less-clause-after : goal.returns-in-Less-clause-after
returns-in-Less-clause-after c = λ is sorted.
    below_past c.args.names.now c.in-Some.last.now c.args.name.now sorted (sym c.last.ensures.value ∙ ap option_copied c.in-Some.is) (sym c.cmp.ensures ∙ c.in-Less.is)

pub returns-in_default-cmp-clause-last : goal.returns-in_default-cmp-clause-last
returns-in_default-cmp-clause-last c = λ below.
    not_last c.args.names.now c.in-Some.last.now c.args.name.now (sym c.last.ensures.value ∙ ap option_copied c.in-Some.is) (λ less. c.in_default-cmp.not-Less (c.cmp.ensures ∙ less)) below
