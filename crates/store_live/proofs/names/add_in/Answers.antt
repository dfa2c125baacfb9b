use Rattle.std.proofs.Common.{◌||◌, ap, ◌∙◌}
use Rattle.std.proofs.lemmas.Result.{on_ok_weaker}
use Rattle.std.specs.Option.{option_copied}
use Rattle.store_names.specs.Occurs.{Occurs}
use Rattle.switch_names.specs.Names.{has}
use Rattle.store_live.specs.Grown.{IsIn}
use Rattle.store_live.proofs.GrownLemmas.{grown_all, grown_as, in_text}
use Rattle.store_live.proofs.names.add_in.Goals as goal

pub returns : goal.returns
returns c =
    let names = c.in_ok-names.names in
    let stored = c.args.stored.now in
    on_ok_weaker c.add_all.result (λ added.
    grown_as c.args.set.now.keys c.add_all.new.set.keys (Occurs stored c.args.front.now c.in-Some.text.now) (IsIn stored c.args.front.now (option_copied c.args.text))
    (in_text stored c.args.front.now (option_copied c.args.text) c.in-Some.text.now (ap option_copied c.in-Some.is))
    (grown_all c.args.set.now.keys c.add_all.new.set.keys names (Occurs stored c.args.front.now c.in-Some.text.now)
    (λ x. added x ∙ ap (λ l. has c.args.set.now.keys x || has l x) c.as_slice.ensures) c.in_ok-names.ensures.found.exact))
    c.add_all.ensures
