use Rattle.std.proofs.Common.{◌∙◌}
use Rattle.std.specs.Option.{option_copied}
use Rattle.std.proofs.lemmas.Result.{IfOk-weaker}
use Rattle.unit_defs.specs.Defs.{own_in}
use Rattle.unit_defs.specs.Units.{can_be_wanted, words_in}
use Rattle.unit_defs.proofs.OrderLemmas.{wanted_made}
use Rattle.unit_defs.proofs.answering.wanting.wanted.Goals as goal

pub returns : goal.returns
returns c = IfOk-weaker c.into_names.result _ _ (λ names is. is ∙
    wanted_made (can_be_wanted (own_in c.args.units.now)) c.args.names.now (words_in (option_copied c.args.text)) c.new-set.result c.add_names.new.set c.add_text.new.set
    c.new-set.ensures c.into_names.ensures.sorted c.in_ok-add_names.ensures c.in_ok-add_text.ensures) c.into_names.ensures.names
