use Rattle.std.proofs.Common.{false, [], ◌∷◌, sym, subst}
use Rattle.std.proofs.lemmas.Result.{on_ok_weaker}
use Rattle.tree_put.specs.WrittenPlace.{AreApartFromStage, written}
use Rattle.tree_put.proofs.AddedLemmas.{apart_joined, joined_three}
use Rattle.host_trait.specs.World.{stage}
use Rattle.accounts_stage.specs.Places.{account_places, memory_places, table_places}
use Rattle.accounts_stage.proofs.ApartLemmas.{accounts_apart}
use Rattle.accounts_stage.proofs.written_places.add_account_places.Goals as goal

pub returns-clause-places : goal.returns-clause-places
returns-clause-places c =
    on_ok_weaker c.add_memory.result
    (joined_three c.args.places.now c.add_tables.new.places c.add_stage.new.places c.add_memory.new.places table_places (written false stage ∷ []) memory_places c.in_ok-add_tables.ensures c.in_ok-add_stage.ensures)
    c.add_memory.ensures

pub returns-clause-apart : goal.returns-clause-apart
returns-clause-apart c before =
    on_ok_weaker c.add_memory.result
    (λ added. subst AreApartFromStage
    (sym (joined_three c.args.places.now c.add_tables.new.places c.add_stage.new.places c.add_memory.new.places table_places (written false stage ∷ []) memory_places c.in_ok-add_tables.ensures c.in_ok-add_stage.ensures added))
    (apart_joined _ account_places before accounts_apart))
    c.add_memory.ensures
