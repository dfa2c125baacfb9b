use Rattle.std.proofs.Common.{map, not, List, ◌&&◌, ◌||◌, ap₂, ◌∙◌}
use Rattle.std.proofs.lemmas.Result.{IfOk-weaker}
use Rattle.switch_names.specs.Names.{Name, has}
use Rattle.dry_report.proofs.ChangeLemmas.{are_lacking}
use Rattle.dry_report.proofs.activation.changes.lacking.Goals as goal

pub returns : goal.returns
returns g c =
    IfOk-weaker c.into_names.result _ _
    (λ names is.
    is
    ∙ are_lacking c.add_all_lacking.new.names (map g.R.Named.name_of c.args.rows.now) (map g.R.Named.name_of c.args.others.now) c.into_names.ensures.sorted
    (λ name. c.in_ok-add_all_lacking.ensures name ∙ ap₂ (λ (ns : List Name) b. has ns name || (has (map g.R.Named.name_of c.args.rows.now) name && not b)) c.new-names.ensures (c.in_ok-present.ensures name)))
    c.into_names.ensures.names
