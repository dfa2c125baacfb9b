use Rattle.std.proofs.Common.{◌||◌, refl, ap, ◌∙◌}
use Rattle.switch_names.specs.Names.{has, is_name}
use Rattle.owed_plan.proofs.EdgeLemmas.{none_named, one_named}
use Rattle.owed_plan.proofs.edges.add_word.Goals as goal

pub returns-in_ok-insert-in-Some : goal.returns-in_ok-insert-in-Some
returns-in_ok-insert-in-Some c name =
    c.in_ok-insert-in-Some.ensures.added name
    ∙ ap (λ one. has c.args.named.now name || is_name name one) (c.in_ok-copy-in-Some.ensures ∙ c.in-Some.ensures.some.0)
    ∙ ap (λ b. has c.args.named.now name || b) (one_named c.args.starts.now c.args.word.now name c.in-Some.ensures.some.1)

pub returns-in-None : goal.returns-in-None
returns-in-None c name = none_named c.args.starts.now c.args.word.now name (has c.args.named.now name) (c.in-None.ensures.none refl)
