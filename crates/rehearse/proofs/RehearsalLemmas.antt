-- What a rehearsal leaves.
use Rattle.std.proofs.Common.{◌≡◌, ◌≤◌, ◌+◌, ℕ, zero, suc, List, [], length, None, Some, refl, subst, ◌∙◌, arith}
use Rattle.std.proofs.lemmas.List.{length-append}
use Rattle.host_trait.specs.Change.{IsSame}
use Rattle.host_trait.specs.Host.{HostState, Leads, Passes, Told}
use Rattle.host_trait.specs.World.{WorldState}
use Rattle.host_trait.proofs.Moments.{one_world}
use Rattle.rehearse.specs.declared.cut.Cut.{Cut}
use Rattle.rehearse.specs.declared.summary.End.{End}
use Rattle.rehearse.specs.declared.summary.End.TheVariants.{Done, UnitsFailed, Refused}
use Rattle.rehearse.specs.declared.summary.Summary.{Summary}
use Rattle.rehearse.specs.Ends.{HasEnded}
use Rattle.rehearse.specs.Generated.{drawn_cuts}
use Rattle.rehearse.specs.Rehearsal.{IsLeftBy, IsRehearsed}
use Rattle.rehearse.specs.Through.{IsRunThrough, IsThrough}
use Rattle.switch_engine.specs.declared.command.Command.{Command}
use Rattle.switch_engine.specs.declared.command.Command.TheVariants.{Switch}
use Rattle.switch_engine.specs.Owing.{IsSteadyFor, Refuses}
use Rattle.switch_engine.proofs.RefusesLemmas.{refused_by_leaves_law}
use Rattle.switch_names.specs.Names.{Name}

left_through : (command : Command) (how : End) (w v : WorldState) → Refuses command w None → IsSteadyFor command w → IsThrough command how w v → IsLeftBy command how w v
left_through command Done w v none steady is = let free = refused_by_leaves_law command w none in (none, (is.over free steady).final, is.verdict free steady)
left_through command UnitsFailed w v none steady is = let free = refused_by_leaves_law command w none in (none, (is.over free steady).final, is.verdict free steady)
left_through command (Refused why) w v none steady is = absurd (is.verdict (refused_by_leaves_law command w none) steady)

left_at_once : (command : Command) (how : End) (w v : WorldState) → HasEnded command how w v → IsLeftBy command how w v
left_at_once command Done w v is = (is.not_refused, is.end.final, is.verdict)
left_at_once command UnitsFailed w v is = (is.not_refused, is.end.final, is.verdict)
left_at_once command (Refused why) w v is = is

module _ {a b c : HostState} (command : Command) (summary : Summary) (way : Passes a b IsSame) where
  -- under cuts, from a world where runs may be cut
  pub rehearsed_cut : (cuts : List Cut) → length cuts ≤ 64 → Told a (λ w. Refuses command w None) → Told a (IsSteadyFor command) → IsRunThrough command b c cuts summary →
      Leads a c (λ w v. IsRehearsed command w v summary)
  rehearsed_cut cuts few none steady is = record {
    to = λ w at.
        let there = way.tells.to w at in
        let end = is.ended.led.to there.0 there.1 in
        let most = is.ended.most in (
          end.0,
          end.1,
          record {
            some = is.ended.some;
            most = omega (arith, most, few);
            left = left_through command summary.end w end.0 (none.has w at) (steady.has w at) (subst (λ x. IsThrough command summary.end x end.0) there.2 end.2);
          },
        );
  }

  -- without a cut, from any world
  pub rehearsed_uncut : IsRunThrough command b c [] summary → Leads a c (λ w v. IsRehearsed command w v summary)
  rehearsed_uncut is = record {
    to = λ w at.
        let there = way.tells.to w at in
        let some = is.ended.some in let most = is.ended.most in
        let end = (is.ended.at_once (omega (arith, some, most))).to there.0 there.1 in (
          end.0,
          end.1,
          record {
            some = some;
            most = omega (arith, most);
            left = left_at_once command summary.end w end.0 (subst (λ x. HasEnded command summary.end x end.0) there.2 end.2);
          },
        );
  }

-- as many cuts are drawn
pub length_drawn : (seed count : ℕ) → length (drawn_cuts seed count) ≡ count
length_drawn seed zero = refl
length_drawn seed (suc count) =
    let so_far = length_drawn seed count in
    length-append (drawn_cuts seed count) _ ∙ one_more (length (drawn_cuts seed count)) count so_far
  where
    one_more : (n count : ℕ) → n ≡ count → n + 1 ≡ suc count
    one_more n count is = omega (arith, is)

pub at_most : (n most : ℕ) → n ≡ most → n ≤ most
at_most n most is = omega (arith, is)

-- of a made machine
pub rehearsed_from : {a b : HostState} {w u : WorldState} {system other : Name} (summary : Summary) (v : WorldState) → Leads a b (λ w v. IsRehearsed (Switch system) w v summary) → a.world ≡ Some w → b.world ≡ Some v →
    w ≡ u → system ≡ other → IsRehearsed (Switch other) u v summary
rehearsed_from {a} {b} {w} {u} {system} {other} summary v led at left same named =
    let there = led.to w at in
    let here = subst (λ (x : WorldState). IsRehearsed (Switch system) w x summary) (one_world b.world there.0 v there.1 left) there.2 in
    subst (λ (x : Name). IsRehearsed (Switch x) u v summary) named (subst (λ (x : WorldState). IsRehearsed (Switch system) x v summary) same here)
