use Rattle.std.proofs.Common.{◌≡◌, ℕ, List, Some, sym, ap, subst, ◌∙◌}
use Rattle.std.proofs.lemmas.Result.{on_ok_weaker}
use Rattle.std.specs.FinMap.{insert}
use Rattle.id_memory.specs.Ids.{IsSortedList, IsPlaceFor, ids_of}
use Rattle.id_memory.proofs.RowLemmas.{put_at_place, set_at_place}
use Rattle.id_memory.proofs.rows.put_into.Goals as goal
use Rattle.id_memory.proofs.rows.put_into.Goals.{After-drop-was}
use Rattle.switch_names.proofs.Outcomes.{on_either}

changed : (c : After-drop-was) → (ids_of c.replace-was.new.self ≡ insert (ids_of c.args.rows.now) c.args.name c.args.id) × IsSortedList c.replace-was.new.self
changed c =
    set_at_place c.args.rows.now c.replace-was.new.self c.in-Ok.at (record { name = c.args.name; id = c.args.id }) c.requires.sorted
    (c.in-Ok.ensures.found ∙ ap Some c.as_str.ensures) c.replace-was.ensures.new c.requires.bounded

pub returns-in-Ok-clause-ok : goal.returns-in-Ok-clause-ok
returns-in-Ok-clause-ok c = (changed c).0

pub returns-in-Ok-clause-sorted : goal.returns-in-Ok-clause-sorted
returns-in-Ok-clause-sorted c = (changed c).1

pub returns-in-Err-clause-ok : goal.returns-in-Err-clause-ok
returns-in-Err-clause-ok c =
    on_ok_weaker c.insert.result
    (λ now. (put_at_place c.args.rows.now c.insert.new.self c.in-Err.at (record { name = c.args.name; id = c.args.id }) c.requires.sorted
    (subst (λ (n : List ℕ). IsPlaceFor c.args.rows.now n c.in-Err.at) c.as_str.ensures c.in-Err.ensures.missing) now c.requires.bounded).0)
    c.insert.ensures.ok

pub returns-in-Err-clause-sorted : goal.returns-in-Err-clause-sorted
returns-in-Err-clause-sorted c =
    on_either c.insert.result
    (λ now. (put_at_place c.args.rows.now c.insert.new.self c.in-Err.at (record { name = c.args.name; id = c.args.id }) c.requires.sorted
    (subst (λ (n : List ℕ). IsPlaceFor c.args.rows.now n c.in-Err.at) c.as_str.ensures c.in-Err.ensures.missing) now c.requires.bounded).1)
    (λ same. subst IsSortedList (sym same) c.requires.sorted)
    c.insert.ensures.ok c.insert.ensures.err
