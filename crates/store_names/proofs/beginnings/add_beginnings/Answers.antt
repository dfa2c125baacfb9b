use Rattle.std.proofs.Common.{◌<◌, length, length-take-le, refl, sym, arith}
use Rattle.store_names.specs.Beginnings.{IsCut, IsGreatest}
use Rattle.store_names.proofs.SearchLemmas.{search_none, search_start, search_step, step_shorter}
use Rattle.store_names.proofs.beginnings.add_beginnings.Goals as goal

pub loop-name-init : goal.loop-name-init
loop-name-init c = search_start c.args.names.now c.args.text.now c.args.found.now.keys

-- the greatest name that isn't above what is left
greatest : (c : goal.In_ok-count) → IsGreatest c.args.names.now c.loop-name.left.now c.in-Some.name.now
greatest c = c.in-Some.ensures.some

cut : (c : goal.In_ok-count) → IsCut c.in-Some.name.now c.loop-name.left.now c.loop-name.found.keys c.add_if_begun.new.found.keys c.in_ok-count.count
cut c = c.in_ok-count.ensures

shorter : (c : goal.In_ok-count) → c.in_ok-count.count < length c.loop-name.left.now
shorter c =
    step_shorter c.args.names.now c.args.text.now c.args.found.now.keys c.loop-name.found.keys c.loop-name.left.now c.in-Some.name.now c.loop-name.invariant (greatest c)
    c.add_if_begun.new.found.keys c.in_ok-count.count (cut c)

pub slice_bounds-left-end : goal.slice_bounds-left-end
slice_bounds-left-end c = sym (length-take-le c.in_ok-count.count c.loop-name.left.now (omega (arith, shorter c)))

pub loop-name-preserved : goal.loop-name-preserved
loop-name-preserved c =
    search_step c.args.names.now c.args.text.now c.args.found.now.keys c.loop-name.found.keys c.loop-name.left.now c.in-Some.name.now c.loop-name.invariant (greatest c)
    c.add_if_begun.new.found.keys c.in_ok-count.count (cut c)

pub loop-name-smaller : goal.loop-name-smaller
loop-name-smaller c = omega (arith, shorter c, length-take-le c.in_ok-count.count c.loop-name.left.now (omega (arith, shorter c)))

pub returns : goal.returns
returns c = search_none c.args.names.now c.args.text.now c.args.found.now.keys c.loop-name.found.keys c.loop-name.left.now c.loop-name.invariant (c.in_default.ensures.none refl)
