use Rattle.std.proofs.Common.{sym, subst}
use Rattle.std.proofs.lemmas.Result.{on_ok_weaker}
use Rattle.host_trait.specs.States.{IsSortedList}
use Rattle.host_trait.proofs.StateLists.{place_within, put_at_place, set_at_place}
use Rattle.host_trait.proofs.states.put_into.Goals as goal
use Rattle.switch_names.proofs.Outcomes.{on_either}

pub returns-in-Ok-clause-ok : goal.returns-in-Ok-clause-ok
returns-in-Ok-clause-ok c =
    (set_at_place _ _ _ (record { unit = c.args.unit; state = c.args.state }) c.requires.sorted c.in-Ok.ensures.found c.replace-was.ensures.new c.as_str-name.ensures.is_name c.requires.other).0

pub returns-in-Ok-clause-sorted : goal.returns-in-Ok-clause-sorted
returns-in-Ok-clause-sorted c =
    (set_at_place _ _ _ (record { unit = c.args.unit; state = c.args.state }) c.requires.sorted c.in-Ok.ensures.found c.replace-was.ensures.new c.as_str-name.ensures.is_name c.requires.other).1

pub returns-in-Err-clause-ok : goal.returns-in-Err-clause-ok
returns-in-Err-clause-ok c =
    on_ok_weaker c.insert.result
    (λ now. (put_at_place _ _ _ (record { unit = c.args.unit; state = c.args.state }) c.requires.sorted c.in-Err.ensures.missing now c.as_str-name.ensures.is_name c.requires.other).0)
    c.insert.ensures.ok

pub returns-in-Err-clause-sorted : goal.returns-in-Err-clause-sorted
returns-in-Err-clause-sorted c =
    on_either c.insert.result
    (λ now. (put_at_place _ _ _ (record { unit = c.args.unit; state = c.args.state }) c.requires.sorted c.in-Err.ensures.missing now c.as_str-name.ensures.is_name c.requires.other).1)
    (λ same. subst IsSortedList (sym same) c.requires.sorted)
    c.insert.ensures.ok c.insert.ensures.err

pub replace-was-requires : goal.replace-was-requires
replace-was-requires c = place_within c.args.list.now c.in-Ok.at c.args.unit c.in-Ok.ensures.found
