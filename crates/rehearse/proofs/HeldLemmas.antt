-- What the runs of a command keep, one after the other, and how the last one ends.
use Rattle.std.proofs.Common.{◌≡◌, Option, None, Some, refl, sym, ap, subst, ◌∙◌}
use Rattle.host_trait.specs.World.{WorldState}
use Rattle.rehearse.specs.declared.summary.End.{End}
use Rattle.rehearse.specs.declared.summary.End.TheVariants.{Done, UnitsFailed, Refused}
use Rattle.rehearse.specs.Ends.{HasEnded, IsComplete, IsHeld, IsRepeatable, IsVerdict}
use Rattle.rehearse.specs.Through.{IsThrough}
use Rattle.switch_engine.specs.declared.command.Command.{Command}
use Rattle.switch_engine.specs.Commands.{row}
use Rattle.switch_engine.specs.Moments.{IsMomentOf}
use Rattle.switch_engine.specs.Owing.{IsSteadyFor, IsUnderway, Refuses}
use Rattle.switch_engine.specs.Rows.{refusal}
use Rattle.switch_parts.specs.declared.refusal.Refusal.{Refusal}
use Rattle.host_trait.proofs.Moments.{none_not_some}
use Rattle.switch_engine.proofs.LawLemmas.{begins_underway, ended_over, never_back, over_then, stays_underway}
use Rattle.switch_engine.proofs.RefusesLemmas.{one_refusal_law, refused_by_leaves_law, steady_refusal_law}
use Rattle.switch_engine.proofs.VerdictLemmas.{same_verdict}

module _ (command : Command) where
  -- a steady world that isn't refused by its leaves isn't refused
  steady_free : (w : WorldState) → refusal command w.leaves ≡ None → IsSteadyFor command w → Refuses command w None
  steady_free w none steady = subst (λ (o : Option Refusal). Refuses command w o) none (steady_refusal_law command w steady)

  one_or_other : (w : WorldState) (why : Refusal) → Refuses command w None → Refuses command w (Some why) → ⊥
  one_or_other w why none refused = none_not_some (Some why) why (one_refusal_law command w (Some why) None refused none) refl

  pub held_begins : (w : WorldState) → IsHeld command w w
  held_begins w None none = λ steady. begins_underway w command (refused_by_leaves_law command w none) steady
  held_begins w (Some why) refused = refl

  underway_from : (g w : WorldState) → refusal command g.leaves ≡ None → IsHeld command g w → IsSteadyFor command g → IsUnderway command g w
  underway_from g w none held steady = held None (steady_free g none steady) steady

  -- a moment of a run that isn't refused
  pub held_moment : IsRepeatable command → (w m : WorldState) → Refuses command w None → IsMomentOf command w m → IsHeld command w m
  held_moment repeatable w m none moment None refuses = λ steady. never_back (row command w.leaves).moves command w m (repeatable.ahead w.leaves) (moment.underway steady)
  held_moment repeatable w m none moment (Some why) refused = absurd (one_or_other w why none refused)

  -- a moment of a run that goes on where another was cut
  pub held_then : (g w m : WorldState) → IsHeld command g w → IsHeld command w m → IsHeld command g m
  held_then g w m first second None none = λ steady.
      let before = first None none steady in
      stays_underway command g w before m (underway_from w m before.not_refused second before.steady)
  held_then g w m first second (Some why) refused =
      let same = first (Some why) refused in
      second (Some why) (subst (λ (x : WorldState). Refuses command x (Some why)) (sym same) refused) ∙ same

  module _ (repeatable : IsRepeatable command) where
    complete_through : (how : End) (g w v : WorldState) → ((why : Refusal) → how ≡ Refused why → ⊥) → IsHeld command g w → IsComplete command how w v →
        (IsVerdict command how w → IsUnderway command g w → IsVerdict command how g) → IsThrough command how g v
    complete_through how g w v not_refused held done verdict = record {
      over = λ none steady. over_then command g w (underway_from g w none held steady) v (ended_over command w v repeatable.changes done.end);
      verdict = λ none steady. verdict done.verdict (underway_from g w none held steady);
      refused = λ why is. absurd (one_or_other g why (subst (λ (x : WorldState). Refuses command x None) (held (Some why) is) done.not_refused) is);
      left_refused = λ why is. absurd (not_refused why is);
    }

    -- a run that ended, after others that were cut
    pub ended_through : (how : End) (g w v : WorldState) → IsHeld command g w → HasEnded command how w v → IsThrough command how g v
    ended_through Done g w v held done =
        complete_through Done g w v (λ why is. absurd cc) held done
        (λ none before left. none ((same_verdict command g w v done.named before done.end).1 left))
    ended_through UnitsFailed g w v held done =
        complete_through UnitsFailed g w v (λ why is. absurd cc) held done
        (λ left before. (same_verdict command g w v done.named before done.end).0 left)
    ended_through (Refused why) g w v held done = record {
      over = λ none steady. absurd (never none steady);
      verdict = λ none steady. never none steady;
      refused = λ other is.
          ap Refused (one_why (one_refusal_law command g (Some why) (Some other) (subst (λ (x : WorldState). Refuses command x (Some why)) (held (Some other) is) done.0) is));
      left_refused = λ other is. subst (λ (x : WorldState). Refuses command x (Some other)) (sym done.1) (subst (λ (one : Refusal). Refuses command w (Some one)) (one_end is) done.0);
    }
      where
        never : refusal command g.leaves ≡ None → IsSteadyFor command g → ⊥
        never none steady = let before = underway_from g w none held steady in one_or_other w why (steady_free w before.not_refused before.steady) done.0

        one_why : {a b : Refusal} → Some a ≡ Some b → a ≡ b
        one_why is = cc

        one_end : {a b : Refusal} → Refused a ≡ Refused b → a ≡ b
        one_end is = cc
