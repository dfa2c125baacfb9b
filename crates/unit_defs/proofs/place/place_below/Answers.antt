use Rattle.std.proofs.Common.{◌≡◌, None, codes, ◌∙◌}
use Rattle.std.specs.Option.{option_or}
use Rattle.std.proofs.lemmas.Result.{IfOk-weaker}
use Rattle.unit_defs.specs.Place.{drop_in, want}
use Rattle.unit_defs.proofs.place.place_below.Goals as goal
use Rattle.switch_names.proofs.Outcomes.{none_left}

pub returns : goal.returns
returns c =
    let no_drop_in : None ≡ drop_in c.args.folder.now c.args.name.now = none_left c.in_ok-place.field-0 c.in_default.not-Some ∙ c.in_ok-place.ensures in
    let no_want : None ≡ want (codes ".wants") c.args.folder.now c.args.name.now = none_left c.in_ok-place-2.field-0 c.in_default-2.not-Some ∙ c.in_ok-place-2.ensures in
    IfOk-weaker c.want-2.result _ _ (λ place is. is ∙ (λ i. option_or (no_drop_in i) (option_or (no_want i) (want (codes ".requires") c.args.folder.now c.args.name.now)))) c.want-2.ensures
