use Rattle.std.proofs.lemmas.Result.{on_ok_weaker}
use Rattle.tree_put.proofs.AddedLemmas.{joined_three}
use Rattle.accounts_stage.specs.Places.{account_places}
use Rattle.etc_farm.specs.FarmPart.{fixed_places}
use Rattle.unit_stage.specs.Owned.{unit_places}
use Rattle.switch_engine.proofs.places.add_switch.Goals as goal

pub returns-clause-places : goal.returns-clause-places
returns-clause-places c =
    on_ok_weaker c.add_farm_places.result
    (joined_three c.args.places.now c.add_unit_places.new.places c.add_account_places.new.places c.add_farm_places.new.places unit_places account_places fixed_places c.in_ok-add_unit_places.ensures.places c.in_ok-add_account_places.ensures.places)
    c.add_farm_places.ensures.places

pub returns-clause-apart : goal.returns-clause-apart
returns-clause-apart c before =
    c.add_farm_places.ensures.apart (c.in_ok-add_account_places.ensures.apart (c.in_ok-add_unit_places.ensures.apart before))
