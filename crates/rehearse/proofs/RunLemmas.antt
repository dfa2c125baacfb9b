-- Runs of a command on a host, one after the other.
use Rattle.std.proofs.Common.{◌≡◌, ◌≤◌, ◌<◌, ◌+◌, ◌-◌, ◌^◌, ℕ, min, IfOk, Result, Ok, Err, List, length, slice_get, take, Some, sym, subst, arith}
use Rattle.host_trait.specs.Change.{IsSame}
use Rattle.host_trait.specs.Host.{HostState, Leads, Passes, Rose}
use Rattle.host_trait.specs.World.{WorldState}
use Rattle.host_trait.proofs.Moments.{goes_on, goes_on_same, leads_then, same_then}
use Rattle.rehearse.specs.declared.summary.End.{End}
use Rattle.rehearse.specs.declared.summary.Summary.{Summary}
use Rattle.rehearse.specs.declared.trouble.Trouble.{Trouble}
use Rattle.rehearse.specs.Ends.{HasEnded, IsHeld, IsRepeatable}
use Rattle.rehearse.specs.Through.{IsBounded, IsRunThroughAll, IsRunToEnd, IsThrough}
use Rattle.rehearse.specs.Troubles.{AreCuts, IsCut, allowed_by, allowed_by_all}
use Rattle.switch_engine.specs.declared.command.Command.{Command}
use Rattle.rehearse.proofs.HeldLemmas.{ended_through, held_begins, held_then}

pub if_ok_as : {X E : Type 0} (P Q : X → Type 0) → ((x : X) → P x → Q x) → (r : Result X E) → IfOk r P → IfOk r Q
if_ok_as P Q weaker (Ok x) is = weaker x is
if_ok_as P Q weaker (Err e) is = tt

-- ---- what leads and passes from one host to another

-- between two stretches in which nothing changes
pub led_between : {a b c d : HostState} (S : WorldState → WorldState → Type 0) → Passes a b IsSame → Leads b c S → Passes c d IsSame → Leads a d S
led_between S first led last =
    let begun = leads_then first.tells led S (λ w v u is is_v same end. subst (λ x. S x u) same end) in
    leads_then begun last.tells S (λ w v u is is_v end same. subst (λ x. S w x) (sym same) end)

-- after a stretch in which nothing changes
pub way_after : {a b c : HostState} (command : Command) → Passes a b IsSame → Passes b c (IsHeld command) → Passes a c (IsHeld command)
way_after command first way = same_then first way (IsHeld command) (λ w is. held_begins command w) (λ w m is moment. moment)

pub way_between : {a b c d : HostState} (command : Command) → Passes a b IsSame → Passes b c (IsHeld command) → Passes c d IsSame → Passes a d (IsHeld command)
way_between command first way last =
    let begun = way_after command first way in
    goes_on_same begun begun.tells last (IsHeld command) (λ w m is moment. moment) (λ w v is moment. moment)

pub way_on : {a b c : HostState} (command : Command) → Passes a b (IsHeld command) → Passes b c (IsHeld command) → Passes a c (IsHeld command)
way_on command first second =
    goes_on first first.tells second (IsHeld command) (λ w m is moment. moment) (λ w v m is is_v before moment. held_then command w v m before moment)

-- ---- one more run

rose_on : (first before now runs : ℕ) → min (first + runs) (2 ^ 64 - 1) ≤ before → Rose before now → min (first + (runs + 1)) (2 ^ 64 - 1) ≤ now
rose_on first before now runs so_far rose = omega (arith, so_far, rose)

later_on : (first before now runs : ℕ) → min (first + runs) (2 ^ 64 - 1) ≤ before → before ≤ now → min (first + runs) (2 ^ 64 - 1) ≤ now
later_on first before now runs so_far later = omega (arith, so_far, later)

-- a run under a trouble that stands at a place
module _ {a b : HostState} (troubles : List Trouble) (at : ℕ) (trouble : Trouble) (there : slice_get troubles at ≡ Some trouble)
    (more : allowed_by_all (take (at + 1) troubles) ≡ allowed_by_all (take at troubles) + allowed_by trouble) (so_far : IsBounded a b troubles at) where
  -- what the clock has come to
  clock_on : (now : ℕ) → (IsCut trouble → now ≤ b.clock + allowed_by trouble) → AreCuts troubles (at + 1) → now ≤ a.clock + allowed_by_all (take (at + 1) troubles)
  clock_on now clock are =
      let before = so_far.clock (λ t one less is. are t one (omega (arith, less)) is) in
      let here = clock (are at trouble (omega arith) there) in
      omega (arith, more, before, here)

  pub bounded_on : {c : HostState} → (IsCut trouble → c.clock ≤ b.clock + allowed_by trouble) → Rose b.faults c.faults → IsBounded a c troubles (at + 1)
  bounded_on {c} clock rose = record {
    faults = rose_on a.faults b.faults c.faults at so_far.faults rose;
    clock = clock_on c.clock clock;
  }

-- ---- the last run

-- a run has ended after so many that met their troubles
module _ {a b c : HostState} (command : Command) (repeatable : IsRepeatable command) (how : End) (before : ℕ) (way : Passes a b (IsHeld command)) (first : before ≡ 0 → Leads a b IsSame)
    (led : Leads b c (HasEnded command how)) (later : b.faults ≤ c.faults) where
  run_to_end : (troubles runs : ℕ) → before ≤ troubles → runs ≡ before + 1 → min (a.faults + before) (2 ^ 64 - 1) ≤ b.faults → IsRunToEnd command a c troubles (record { runs = runs; end = how })
  run_to_end troubles runs within count faults = record {
    some = omega (arith, count);
    most = omega (arith, count, within);
    led = leads_then way.tells led (IsThrough command how) (λ w v u is is_v moment ended. ended_through command repeatable how w v u moment ended);
    at_once = λ one. leads_then (first (omega (arith, count, one))) led (HasEnded command how) (λ w v u is is_v same ended. subst (λ x. HasEnded command how x u) same ended);
    faults = let rose = later_on a.faults b.faults c.faults before faults later in omega (arith, count, rose);
  }

  -- it was under a trouble
  pub through_here : (troubles : List Trouble) (trouble : Trouble) → before < length troubles → slice_get troubles before ≡ Some trouble →
      allowed_by_all (take (before + 1) troubles) ≡ allowed_by_all (take before troubles) + allowed_by trouble → IsBounded a b troubles before → (IsCut trouble → c.clock ≤ b.clock + allowed_by trouble) →
      (runs : ℕ) → runs ≡ before + 1 → IsRunThroughAll command a c troubles (record { runs = runs; end = how })
  through_here troubles trouble within there more so_far clock runs count = record {
    ended = run_to_end (length troubles) runs (omega (arith, within)) count so_far.faults;
    clock = λ few. subst (λ n. AreCuts troubles n → c.clock ≤ a.clock + allowed_by_all (take n troubles)) (sym count) (clock_on troubles before trouble there more so_far c.clock clock);
  }

  -- none was left for it
  pub through_last : (troubles : List Trouble) → before ≡ length troubles → IsBounded a b troubles (length troubles) → IsRunThroughAll command a c troubles (record { runs = length troubles + 1; end = how })
  through_last troubles all so_far = record {
    ended = run_to_end (length troubles) (length troubles + 1) (omega (arith, all)) (omega (arith, all)) (subst (λ n. min (a.faults + n) (2 ^ 64 - 1) ≤ b.faults) (sym all) so_far.faults);
    clock = λ few are. absurd (omega (arith, few));
  }

-- the same from a host in the same world, whose clock and count of faults are the same
pub through_from : {z a c : HostState} (command : Command) (troubles : List Trouble) (summary : Summary) → Passes z a IsSame → a.clock ≡ z.clock → a.faults ≡ z.faults →
    IsRunThroughAll command a c troubles summary → IsRunThroughAll command z c troubles summary
through_from {z} {a} {c} command troubles summary way clock faults is = record {
  ended = record {
    some = is.ended.some;
    most = is.ended.most;
    led = leads_then way.tells is.ended.led (IsThrough command summary.end) (λ w v u at at_v same ended. subst (λ x. IsThrough command summary.end x u) same ended);
    at_once = λ one. leads_then way.tells (is.ended.at_once one) (HasEnded command summary.end) (λ w v u at at_v same ended. subst (λ x. HasEnded command summary.end x u) same ended);
    faults = subst (λ n. min (n + (summary.runs - 1)) (2 ^ 64 - 1) ≤ c.faults) faults is.ended.faults;
  };
  clock = λ few are. subst (λ n. c.clock ≤ n + allowed_by_all (take summary.runs troubles)) clock (is.clock few are);
}
