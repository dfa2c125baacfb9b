use Rattle.std.proofs.Common.{None, ap, sym, ◌∙◌}
use Rattle.generations.proofs.AfterLemmas.{after_of_none, after_of_some}
use Rattle.generations.proofs.gens.after_set.Goals as goal

pub returns-in_default : goal.returns-in_default
returns-in_default c = λ leaves is.
    ap (λ list. record { list = list; current = None }) (c.in_ok-list.ensures ∙ c.as_slice.ensures)
    ∙ after_of_none leaves c.args.gens.now c.args.system.now is (sym c.number_for.ensures ∙ c.in_default.is)

pub returns : goal.returns
returns c = λ leaves is.
    after_of_some leaves c.args.gens.now c.args.system.now c.in-Some.number c.in_ok-list-2.list is (sym c.number_for.ensures ∙ c.in-Some.is) c.in_ok-list-2.ensures
