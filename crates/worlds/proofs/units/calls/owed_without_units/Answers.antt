use Rattle.worlds.proofs.NoUnitLemmas.{none_pulled}
use Rattle.worlds.proofs.units.calls.owed_without_units.Goals as goal

pub plan-requires : goal.plan-requires
plan-requires c = none_pulled _ _ c.none-none.result c.new.result c.none-none.ensures c.new.ensures
