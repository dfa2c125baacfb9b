use Rattle.std.proofs.Common.{◌≡◌, All, false, sym, subst, ◌∙◌}
use Rattle.std.proofs.lemmas.List.{take_all}
use Rattle.std.proofs.lemmas.List.Elements.{All-more}
use Rattle.switch_names.specs.Path.{is_no_path_byte}
use Rattle.switch_names.proofs.Positions.{no_position-from_All, position_at}
use Rattle.switch_names.proofs.path.first_no_path_byte.Goals as goal

pub returns-then-is_no_path_byte : goal.returns-then-is_no_path_byte
returns-then-is_no_path_byte c =
    sym (position_at is_no_path_byte c.args.bytes.now c.loop-at.at c.loop-at-test.true c.loop-at.invariant (sym c.is_no_path_byte.ensures ∙ c.if-is_no_path_byte.true))

pub loop-at-preserved : goal.loop-at-preserved
loop-at-preserved c =
    All-more (λ byte. is_no_path_byte byte ≡ false) c.args.bytes.now c.loop-at.at 0 c.loop-at-test.true c.loop-at.invariant (sym c.is_no_path_byte.ensures ∙ c.if-is_no_path_byte.false)

pub returns : goal.returns
returns c =
    sym (no_position-from_All is_no_path_byte c.args.bytes.now
    (subst (All (λ byte. is_no_path_byte byte ≡ false)) (take_all c.loop-at.at c.args.bytes.now c.loop-at-test.false) c.loop-at.invariant))
