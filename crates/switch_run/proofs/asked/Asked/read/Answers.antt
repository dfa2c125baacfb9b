use Rattle.std.proofs.Common.{ℕ, MatchOption, Option, subst, sym, ◌∙◌}
use Rattle.switch_run.specs.Asked.{IsAskedBy}
use Rattle.switch_run.specs.Rehearsing.{IsNumber}
use Rattle.switch_run.proofs.AskedLemmas.{nothing_behind, rehearsal_of}
use Rattle.switch_run.proofs.asked.Asked.read.Goals as goal
use Rattle.switch_run.proofs.asked.Asked.read.Goals.{in-Some-number, in-Some-2, in-None}

-- what stands behind the word is a number or none
pub returns-in-Some : goal.returns-in-Some
returns-in-Some c =
    let words = c.args.words.now in
    let word = c.in-Some.word.now in
    let text = c.as_str.result.now in
    elim c.match-number.branch [
      | in-Some-number w ↦
          let is = subst (λ (o : Option ℕ). MatchOption o ((n : ℕ) → IsNumber text n → ⊥) (IsNumber text)) w.in-Some-number.is c.in_ok-number.ensures in
          subst (IsAskedBy words) (sym w.result-is) (sym w.asks_jobs.ensures ∙ w.if-asks_jobs.true, rehearsal_of words word text w.in-Some-number.number c.in-Some.ensures c.as_str.ensures is)
      | in-Some-2 w ↦
          let is = subst (λ (o : Option ℕ). MatchOption o ((n : ℕ) → IsNumber text n → ⊥) (IsNumber text)) w.in-Some-2.is c.in_ok-number.ensures in
          subst (IsAskedBy words) (sym w.result-is) (sym w.asks_jobs.ensures ∙ w.if-asks_jobs.false, rehearsal_of words word text w.in-Some-2.number c.in-Some.ensures c.as_str.ensures is)
      | in-None w ↦
          let none = subst (λ (o : Option ℕ). MatchOption o ((n : ℕ) → IsNumber text n → ⊥) (IsNumber text)) w.in-None.is c.in_ok-number.ensures in
          subst (IsAskedBy words) (sym w.result-is) (nothing_behind words word text (sym c.asks_list.ensures ∙ c.if-asks_list.false) c.in-Some.ensures c.as_str.ensures none)
    ]
