use Rattle.std.proofs.Common.{ap, ◌∙◌}
use Rattle.std.proofs.lemmas.Result.{IfOk-weaker}
use Rattle.users_merge.specs.Stored.{ordered}
use Rattle.users_merge.proofs.NameLemmas.{map_same}
use Rattle.users_merge.proofs.names.ordered_names.Goals as goal

pub returns : goal.returns
returns c = IfOk-weaker c.now_names.result _ _ (λ list is. is ∙ ap ordered (map_same c.args.names.now)) c.now_names.ensures
