use Rattle.std.proofs.Common.{◌≡◌, ◌&&◌, sym, ap, ◌∙◌}
use Rattle.log_text.specs.declared.lists.Which.TheVariants.{Starts}
use Rattle.owed_plan.specs.Lists.{OnList}
use Rattle.unit_stage.proofs.KnownLemmas.{known_told}
use Rattle.unit_stage.proofs.planning.owed_calls.Goals as goal
use Rattle.unit_stage.proofs.planning.owed_calls.Goals.{then-marks, else-marks}

pub ordered_by-requires : goal.ordered_by-requires
ordered_by-requires c = (c.in_ok-owed.ensures.is_owed (OnList Starts)).sorted

pub returns : goal.returns
returns c =
    let marks = c.is_steady-marks.result in let room = c.in_ok-room.room in
    let both : c.if-marks.result ≡ (marks && room) = elim c.if-marks.branch [
      | then-marks w ↦ w.result-is ∙ sym (ap (λ b. b && room) w.if-marks.true)
      | else-marks w ↦ w.result-is ∙ w.if-marks.false ∙ sym (ap (λ b. b && room) w.if-marks.false)
    ] in
    record {
      owed = c.in_ok-owed.ensures;
      steady = known_told c.args.known.now c.in_ok-owed.owed marks room c.if-marks.result c.in_ok-owed.ensures.is_owed
          (c.is_steady-marks.ensures _ _ c.in_ok-pulled.ensures) c.in_ok-room.ensures both;
      in_order = c.in_ok-ordered.ensures;
      duties = c.in_ok-duties.ensures;
    }
