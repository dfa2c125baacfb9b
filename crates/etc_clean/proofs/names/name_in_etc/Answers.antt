use Rattle.std.proofs.Common.{◌≡◌, IfOk, ap, subst, ◌∙◌}
use Rattle.switch_names.specs.Path.{name_below}
use Rattle.etc_clean.proofs.NameLemmas.{name_after}
use Rattle.etc_clean.proofs.names.name_in_etc.Goals as goal

pub returns : goal.returns
returns c =
    subst (λ name. IfOk c.name_below.result (λ found. found ≡ name)) (ap (λ folder. name_below folder c.args.path.now) c.in_ok-folder.ensures ∙ name_after c.args.path.now) c.name_below.ensures
