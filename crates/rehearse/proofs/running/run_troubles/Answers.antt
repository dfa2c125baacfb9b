use Rattle.std.proofs.Common.{◌≡◌, ◌≤◌, ◌<◌, ◌+◌, ℕ, List, Some, length, take, get_or, slice_get, refl, Err, ap, subst, ◌∙◌, arith}
use Rattle.std.proofs.lemmas.List.Sums.{sum_by_more}
use Rattle.std.proofs.lemmas.Option.{slice_get-get_or}
use Rattle.host_trait.proofs.Moments.{started}
use Rattle.rehearse.specs.declared.trouble.Trouble.{Trouble}
use Rattle.rehearse.specs.declared.trouble.Trouble.TheVariants.{Cut}
use Rattle.rehearse.specs.Ends.{IsHeld}
use Rattle.rehearse.specs.Through.{IsBounded}
use Rattle.rehearse.specs.Troubles.{allowed_by, allowed_by_all}
use Rattle.rehearse.proofs.RunLemmas.{bounded_on, through_here, way_on}
use Rattle.rehearse.proofs.HeldLemmas.{held_begins}
use Rattle.rehearse.proofs.running.run_troubles.Goals as goal

at_end : {i n : ℕ} → i ≤ n → n ≤ i → i ≡ n
at_end {i} {n} some none = omega (arith, some, none)

-- the trouble at a place
abbrev no_trouble : Trouble
no_trouble = Cut (record { after = 0; pick = 0 })

stands : (troubles : List Trouble) (at : ℕ) → at < length troubles → slice_get troubles at ≡ Some (get_or troubles at no_trouble)
stands troubles at within = slice_get-get_or troubles at no_trouble within

more : (troubles : List Trouble) (at : ℕ) → at < length troubles → allowed_by_all (take (at + 1) troubles) ≡ allowed_by_all (take at troubles) + allowed_by (get_or troubles at no_trouble)
more troubles at within = sum_by_more allowed_by troubles at no_trouble within

pub loop-trouble-init : goal.loop-trouble-init
loop-trouble-init g c = record {
  count = refl;
  way = started (IsHeld c.args.command.now) (λ w is. held_begins c.args.command.now w);
  still = λ none. record { to = λ w is. (w, is, refl) };
  bounded = record { faults = omega arith; clock = λ are. omega arith };
  sure = c.requires.sure;
}

pub returns-in-Ok-clause-some : goal.returns-in-Ok-clause-some
returns-in-Ok-clause-some g c =
    let troubles = c.args.troubles.now in let at = c.loop-trouble.trouble-index in let within = c.loop-trouble-test.true in
    through_here c.args.command.now c.requires.repeatable c.in-Ok.end at c.loop-trouble.invariant.way c.loop-trouble.invariant.still c.in-Ok.ensures.ended c.run_trouble.ensures.later
    troubles (get_or troubles at no_trouble) within (stands troubles at within) (more troubles at within) c.loop-trouble.invariant.bounded c.run_trouble.ensures.clock
    (c.loop-trouble.runs + 1) (ap (λ n. n + 1) c.loop-trouble.invariant.count)

pub returns-in-Ok-clause-moments : goal.returns-in-Ok-clause-moments
returns-in-Ok-clause-moments g c = way_on c.args.command.now c.loop-trouble.invariant.way c.run_trouble.ensures.moments

pub returns-in-Err-Memory-clause-moments : goal.returns-in-Err-Memory-clause-moments
returns-in-Err-Memory-clause-moments g c = way_on c.args.command.now c.loop-trouble.invariant.way c.run_trouble.ensures.moments

pub loop-trouble-preserved : goal.loop-trouble-preserved
loop-trouble-preserved g c =
    let troubles = c.args.troubles.now in let at = c.loop-trouble.trouble-index in let within = c.loop-trouble-test.true in
    record {
      count = ap (λ n. n + 1) c.loop-trouble.invariant.count;
      way = way_on c.args.command.now c.loop-trouble.invariant.way c.run_trouble.ensures.moments;
      still = λ none. absurd (omega (arith, none));
      bounded = bounded_on troubles at (get_or troubles at no_trouble) (stands troubles at within) (more troubles at within) c.loop-trouble.invariant.bounded c.run_trouble.ensures.clock
          (c.in-Err-Device.ensures.rose (ap (λ f. Err f) c.in-Err-Device.field-0-is));
      sure = c.run_trouble.ensures.sure;
    }

pub returns-clause-none : goal.returns-clause-none
returns-clause-none g c none = subst (λ n. IsBounded (g.H.Tree.host c.args.host.now) (g.H.Tree.host c.loop-trouble.host) c.args.troubles.now n) (at_end c.loop-trouble.auto.trouble-index-end c.loop-trouble-test.false) c.loop-trouble.invariant.bounded

pub returns-clause-still : goal.returns-clause-still
returns-clause-still g c none empty = c.loop-trouble.invariant.still (at_end c.loop-trouble.auto.trouble-index-end c.loop-trouble-test.false ∙ empty)

pub returns-clause-moments : goal.returns-clause-moments
returns-clause-moments g c = c.loop-trouble.invariant.way

pub returns-clause-sure : goal.returns-clause-sure
returns-clause-sure g c = c.loop-trouble.invariant.sure
