use Rattle.std.proofs.Common.{MatchOption, Option, subst, sym, ℕ}
use Rattle.std.specs.Fmt.{decimal}
use Rattle.generations.specs.Digits.{BearsNumber}
use Rattle.switch_run.specs.Rehearsing.{IsNumber}
use Rattle.switch_run.proofs.CollectionWordLemmas.{small_of}
use Rattle.switch_run.proofs.asked.read_small_number.Goals as goal

pub returns-in-Some : goal.returns-in-Some
returns-in-Some c =
    let text = c.args.text.now in
    let is = subst (λ (o : Option ℕ). MatchOption o ((n : ℕ) → IsNumber text n → ⊥) (IsNumber text)) c.in-Some.is c.in_ok-number.ensures in
    subst (BearsNumber decimal text) (sym c.ok.ensures.value) (small_of text c.in-Some.number c.try_from.result is c.try_from.ensures)
