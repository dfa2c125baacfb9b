use Rattle.std.proofs.Common.{map, ◌∙◌}
use Rattle.std.proofs.lemmas.Result.{IfOk-weaker}
use Rattle.users_merge.proofs.NameOrderLemmas.{is_ordered}
use Rattle.users_merge.proofs.names.now_names.Goals as goal

pub returns : goal.returns
returns g c =
    IfOk-weaker c.into_names.result _ _ (λ names is. is ∙ is_ordered c.in_ok-of.field-0 (map g.N.Named.name_of c.args.now.now) c.into_names.ensures.sorted c.in_ok-of.ensures) c.into_names.ensures.names
