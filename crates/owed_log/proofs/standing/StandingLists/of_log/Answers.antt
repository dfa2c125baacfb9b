use Rattle.std.proofs.Common.{◌≡◌, sym, subst, ◌∙◌, rules}
use Rattle.tree_put.specs.declared.found.Standing.TheVariants.{File}
use Rattle.owed_log.specs.Standing.{AreListsAt, IsLogState}
use Rattle.owed_log.proofs.StandingLemmas.{file_whole, log_lists, other_state}
use Rattle.owed_log.proofs.standing.StandingLists.of_log.Goals as goal
use Rattle.owed_log.proofs.standing.StandingLists.of_log.Goals.{in-File, in_default-2, in_default}

pub returns : goal.returns
returns c leaves is content = record {
  lists = subst (AreListsAt leaves) (sym c.lists_in.ensures) (log_lists leaves c.args.bytes.now content c.in_ok-log.log c.in_ok-log.ensures);
  log = elim c.match-standing.branch [
    | in-File w ↦ subst (IsLogState leaves) (sym w.state-is) (file_whole leaves c.args.bytes.now content c.in_ok-log.log c.in_ok-log.ensures (sym w.in-File.is ∙ is) w.if-log.true)
    | in_default-2 w ↦ subst (IsLogState leaves) (sym w.state-is) (other_state leaves c.args.bytes.now content c.in_ok-log.log c.in_ok-log.ensures c.args.standing is (λ file. w.if-log.false))
    | in_default w ↦
        let other : c.args.standing ≡ File → ⊥ = search rules in
        subst (IsLogState leaves) (sym w.state-is) (other_state leaves c.args.bytes.now content c.in_ok-log.log c.in_ok-log.ensures c.args.standing is (λ file. absurd (other file)))
  ];
}
