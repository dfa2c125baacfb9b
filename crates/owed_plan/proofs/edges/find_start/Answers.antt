use Rattle.std.proofs.Common.{◌≡◌, Some, ◌∙◌, rules}
use Rattle.std.specs.List.{slice_get}
use Rattle.std.proofs.lemmas.Fn.{always_returns_same}
use Rattle.std.proofs.lemmas.Option.{get_or_from_slice_get}
use Rattle.host_trait.specs.Bytes.{bytes_cmp}
use Rattle.start_order.proofs.GraphLemmas.{found_place}
use Rattle.start_order.proofs.OrderLemmas.{placed}
use Rattle.owed_plan.proofs.EdgeLemmas.{none_there}
use Rattle.owed_plan.proofs.edges.find_start.Goals as goal

pub returns-in-Ok-clause-some : goal.returns-in-Ok-clause-some
returns-in-Ok-clause-some c =
    let at : slice_get c.args.starts.now c.in-Ok.at ≡ Some c.args.word.now =
    found_place c.args.starts.now c.args.word.now c.in-Ok.at c.in-Ok.ensures.bound
    (c.in-Ok.ensures.position (λ other. bytes_cmp other c.args.word.now) (always_returns_same _ _ _ (λ a r q k. search rules))) in
    (c.index-starts-at.is ∙ get_or_from_slice_get c.args.starts.now c.in-Ok.at c.args.word.now c.index-starts-at.result at, placed c.args.starts.now c.in-Ok.at c.args.word.now at)

pub returns-in-Err-clause-none : goal.returns-in-Err-clause-none
returns-in-Err-clause-none c none =
    none_there c.args.starts.now c.args.word.now c.in-Err.field-0 c.requires c.in-Err.ensures.bound
    (c.in-Err.ensures.position (λ other. bytes_cmp other c.args.word.now) (always_returns_same _ _ _ (λ a r q k. search rules)))
