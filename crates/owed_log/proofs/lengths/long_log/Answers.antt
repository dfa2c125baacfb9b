use Rattle.std.proofs.Common.{length, refl, sym, ap, subst, ◌∙◌}
use Rattle.owed_log.specs.Writing.{IsPrepared, text_of}
use Rattle.owed_log.proofs.LengthLemmas.{empty_count, empty_length, none_told, write_text}
use Rattle.owed_log.proofs.lengths.long_log.Goals as goal

-- an empty text is short enough
pub returns-in-Nothing : goal.returns-in-Nothing
returns-in-Nothing c leaves lists is =
    none_told lists empty_count (sym empty_length ∙ ap (λ l. length (text_of l)) (sym (subst (IsPrepared leaves lists) c.in-Nothing.is is).0)) refl

pub returns-in-None : goal.returns-in-None
returns-in-None c leaves lists is =
    none_told lists (length c.as_slice.result.now) (ap length (c.as_slice.ensures ∙ write_text leaves lists c.args.write.now c.in-Append.text c.in-Append.is is)) (sym c.past.ensures ∙ c.in-None.is)
