use Rattle.std.proofs.Common.{◌∙◌, sym, subst, List, ℕ, OnOk}
use Rattle.unit_defs.specs.Defs.{AddsName, own_in}
use Rattle.unit_defs.proofs.NameLemmas.{named_same, not_wanted}
use Rattle.unit_defs.proofs.answering.wanting.add_word.Goals as goal

pub returns-in-Some : goal.returns-in-Some
returns-in-Some c =
    subst (λ (name : List ℕ). OnOk c.add_name.result (AddsName c.args.units.now name c.args.set.now c.add_name.new.set))
    (named_same c.args.word.now c.in-Some.name (sym c.in-Some.is ∙ c.in_ok-name.ensures)) c.add_name.ensures

pub returns-in-None : goal.returns-in-None
returns-in-None c = λ unit. not_wanted (own_in c.args.units.now) c.args.word.now unit _ (sym c.in-None.is ∙ c.in_ok-name.ensures)
