use Rattle.std.proofs.Common.{◌≡◌, ◌+◌, ◌∙◌, ◌++◌, get_or, length, ap, arith, sym, Some}
use Rattle.std.specs.Int.{from_bool}
use Rattle.std.specs.Ordering.{is_le, is_ge}
use Rattle.unit_text.specs.UnitText.{values_of}
use Rattle.unit_compare.specs.Compare.{differs}
use Rattle.unit_compare.specs.Walk.{worse}
use Rattle.unit_compare.proofs.Outcomes.{made_append, outcome_made}
use Rattle.unit_compare.proofs.WalkLemmas.{at_end, at_start, equal_here, equal_turn, fewer, fronts_made, greater_here, greater_turn, is_here, less_here, less_turn, moved, one_in, one_key, places, stays, texts_of, valued_here}
use Rattle.unit_compare.proofs.walk.compare_fronts.Goals as goal
use Rattle.unit_compare.proofs.walk.compare_fronts.Goals.{in-Less, in-Equal, in-Greater}

-- the change so far with that by the next key
joined : (c : goal.After-from-new_at) → c.worse-outcome.result ≡ worse c.loop-order.outcome c.match-order.one
joined c = c.worse-outcome.ensures

pub loop-order-init : goal.loop-order-init
loop-order-init c = record {
  of_old = omega arith;
  of_new = omega arith;
  walk = λ o n.
      at_start c.args.kind (texts_of c.args.old.now c.args.new.now o n) c.args.old.now.front_keys.now c.args.new.now.front_keys.now o.front_keys n.front_keys;
}

pub bounds-old-old_at : goal.bounds-old-old_at
bounds-old-old_at c = less_here c.args.old.now.front_keys.now c.loop-order.old_at _ (sym c.next_order.ensures ∙ c.in-Some.is ∙ ap Some c.in-Less.is)

pub bounds-old-old_at-in-Less : goal.bounds-old-old_at-in-Less
bounds-old-old_at-in-Less c =
    let old = c.args.old.now in
    let are = c.requires.old in
    valued_here are.front old.front_keys.now old.front_values.now c.loop-order.old_at are.front_values
    (less_here old.front_keys.now c.loop-order.old_at _ (sym c.next_order.ensures ∙ c.in-Some.is ∙ ap Some c.in-Less.is))

pub bounds-old-old_at-in-Equal : goal.bounds-old-old_at-in-Equal
bounds-old-old_at-in-Equal c =
    (equal_here c.args.old.now.front_keys.now c.args.new.now.front_keys.now c.loop-order.old_at c.loop-order.new_at (sym c.next_order.ensures ∙ c.in-Some.is ∙ ap Some c.in-Equal.is)).0

pub bounds-old-old_at-in-Equal-2 : goal.bounds-old-old_at-in-Equal-2
bounds-old-old_at-in-Equal-2 c =
    let old = c.args.old.now in
    let are = c.requires.old in
    valued_here are.front old.front_keys.now old.front_values.now c.loop-order.old_at are.front_values
    (equal_here old.front_keys.now c.args.new.now.front_keys.now c.loop-order.old_at c.loop-order.new_at (sym c.next_order.ensures ∙ c.in-Some.is ∙ ap Some c.in-Equal.is)).0

pub bounds-new-new_at : goal.bounds-new-new_at
bounds-new-new_at c =
    let new = c.args.new.now in
    let are = c.requires.new in
    valued_here are.front new.front_keys.now new.front_values.now c.loop-order.new_at are.front_values
    (equal_here c.args.old.now.front_keys.now new.front_keys.now c.loop-order.old_at c.loop-order.new_at (sym c.next_order.ensures ∙ c.in-Some.is ∙ ap Some c.in-Equal.is)).1

pub bounds-new-new_at-in-Greater : goal.bounds-new-new_at-in-Greater
bounds-new-new_at-in-Greater c = greater_here c.args.new.now.front_keys.now c.loop-order.new_at _ (sym c.next_order.ensures ∙ c.in-Some.is ∙ ap Some c.in-Greater.is)

pub bounds-new-new_at-in-Greater-2 : goal.bounds-new-new_at-in-Greater-2
bounds-new-new_at-in-Greater-2 c =
    let new = c.args.new.now in
    let are = c.requires.new in
    valued_here are.front new.front_keys.now new.front_values.now c.loop-order.new_at are.front_values
    (greater_here new.front_keys.now c.loop-order.new_at _ (sym c.next_order.ensures ∙ c.in-Some.is ∙ ap Some c.in-Greater.is))

pub loop-order-smaller : goal.loop-order-smaller
loop-order-smaller c =
    let old_keys = c.args.old.now.front_keys.now in
    let new_keys = c.args.new.now.front_keys.now in
    let old_at = c.loop-order.old_at in
    let new_at = c.loop-order.new_at in
    fewer (length old_keys) (length new_keys) old_at new_at c.from-old_at.result c.from-new_at.result c.loop-order.invariant.of_old c.loop-order.invariant.of_new
    c.in-Some.order (c.from-old_at.ensures ∙ ap from_bool c.is_le.ensures) (c.from-new_at.ensures ∙ ap from_bool c.is_ge.ensures)
    (is_here old_keys new_keys old_at new_at c.in-Some.order (sym c.next_order.ensures ∙ c.in-Some.is))

pub loop-order-preserved : goal.loop-order-preserved
loop-order-preserved c =
    let kind = c.args.kind in
    let before = c.args.old.now in
    let after = c.args.new.now in
    let old_keys = before.front_keys.now in
    let new_keys = after.front_keys.now in
    let old_values = before.front_values.now in
    let new_values = after.front_values.now in
    let outcome = c.loop-order.outcome in
    let old_at = c.loop-order.old_at in
    let new_at = c.loop-order.new_at in
    let order = sym c.next_order.ensures ∙ c.in-Some.is in
    let old_step = c.from-old_at.ensures ∙ ap from_bool c.is_le.ensures in
    let new_step = c.from-new_at.ensures ∙ ap from_bool c.is_ge.ensures in
    let kept = places (length old_keys) (length new_keys) old_at new_at c.from-old_at.result c.from-new_at.result c.loop-order.invariant.of_old c.loop-order.invariant.of_new
    c.in-Some.order old_step new_step (is_here old_keys new_keys old_at new_at c.in-Some.order order) in
    record {
      of_old = kept.0;
      of_new = kept.1;
      walk = λ o n.
          let texts = texts_of before after o n in
          let end = fronts_made kind before after o n in
          let walk = c.loop-order.invariant.walk o n in
          elim c.match-order.branch [
            | in-Less w ↦
                let key = w.index-old-old_at.result in
                let same = w.index-old-old_at.is in
                let turn = less_turn kind texts outcome end old_keys new_keys old_values new_values old_at new_at walk o.front_values n.front_values (order ∙ ap Some w.in-Less.is)
                key w.index-old-old_at.is w.index-old-old_at-in-Less.result w.index-old-old_at-in-Less.is in
                let one = joined c ∙ ap (worse outcome) (w.one-is ∙ w.compare_key-one.ensures o n (w.as_slice.ensures ∙ sym w.index-old-old_at-in-Less.is ∙ turn.this ∙ ap (values_of o.front) same) (turn.that ∙ ap (values_of n.front) same) ∙ one_key kind texts.old texts.new (get_or old_keys old_at key) ∙ sym (ap (one_in kind texts) same)) in
                let old_by : c.from-old_at.result ≡ 1 = old_step ∙ ap (λ r. from_bool (is_le r)) w.in-Less.is in
                let new_by : c.from-new_at.result ≡ 0 = new_step ∙ ap (λ r. from_bool (is_ge r)) w.in-Less.is in
                moved kind texts end old_keys new_keys _ _ (old_at + 1) _ new_at _ one (ap (λ n. old_at + n) old_by) (stays new_at _ new_by) turn.on
            | in-Equal w ↦
                let key = w.index-old-old_at-in-Equal.result in
                let same = w.index-old-old_at-in-Equal.is in
                let turn = equal_turn kind texts outcome end old_keys new_keys old_values new_values old_at new_at walk o.front_values n.front_values (order ∙ ap Some w.in-Equal.is)
                key w.index-old-old_at-in-Equal.is w.index-old-old_at-in-Equal-2.result w.index-new-new_at.result
                w.index-old-old_at-in-Equal-2.is w.index-new-new_at.is in
                let one = joined c ∙ ap (worse outcome) (w.one-is ∙ w.compare_key-one-in-Equal.ensures o n (w.as_slice-in-Equal.ensures ∙ sym w.index-old-old_at-in-Equal-2.is ∙ turn.this ∙ ap (values_of o.front) same) (w.as_slice-in-Equal-2.ensures ∙ sym w.index-new-new_at.is ∙ turn.that ∙ ap (values_of n.front) same) ∙ one_key kind texts.old texts.new (get_or old_keys old_at key) ∙ sym (ap (one_in kind texts) same)) in
                let old_by : c.from-old_at.result ≡ 1 = old_step ∙ ap (λ r. from_bool (is_le r)) w.in-Equal.is in
                let new_by : c.from-new_at.result ≡ 1 = new_step ∙ ap (λ r. from_bool (is_ge r)) w.in-Equal.is in
                moved kind texts end old_keys new_keys _ _ (old_at + 1) _ (new_at + 1) _ one (ap (λ n. old_at + n) old_by) (ap (λ n. new_at + n) new_by) turn.on
            | in-Greater w ↦
                let key = w.index-new-new_at-in-Greater.result in
                let same = w.index-new-new_at-in-Greater.is in
                let turn = greater_turn kind texts outcome end old_keys new_keys old_values new_values old_at new_at walk o.front_values n.front_values (order ∙ ap Some w.in-Greater.is)
                key w.index-new-new_at-in-Greater.is w.index-new-new_at-in-Greater-2.result w.index-new-new_at-in-Greater-2.is in
                let one = joined c ∙ ap (worse outcome) (w.one-is ∙ w.compare_key-one-in-Greater.ensures o n (turn.this ∙ ap (values_of o.front) same) (w.as_slice-in-Greater.ensures ∙ sym w.index-new-new_at-in-Greater-2.is ∙ turn.that ∙ ap (values_of n.front) same) ∙ one_key kind texts.old texts.new (get_or new_keys new_at key) ∙ sym (ap (one_in kind texts) same)) in
                let old_by : c.from-old_at.result ≡ 0 = old_step ∙ ap (λ r. from_bool (is_le r)) w.in-Greater.is in
                let new_by : c.from-new_at.result ≡ 1 = new_step ∙ ap (λ r. from_bool (is_ge r)) w.in-Greater.is in
                moved kind texts end old_keys new_keys _ _ old_at _ (new_at + 1) _ one (stays old_at _ old_by) (ap (λ n. new_at + n) new_by) turn.on
          ];
    }

pub returns : goal.returns
returns c =
    let kind = c.args.kind in
    let before = c.args.old.now in
    let after = c.args.new.now in
    let o = c.requires.old in
    let n = c.requires.new in
    let differ = differs before.text.now after.text.now in
    at_end kind (texts_of before after o n) c.loop-order.outcome (fronts_made kind before after o n) before.front_keys.now after.front_keys.now before.front_values.now after.front_values.now
    c.loop-order.old_at c.loop-order.new_at (c.loop-order.invariant.walk o n) o.front_values n.front_values (sym c.next_order.ensures ∙ c.in_default.is)
    ∙ sym (outcome_made kind differ (before.front_keys.now ++ after.front_keys.now) ∙ made_append kind differ before.front_keys.now after.front_keys.now)
