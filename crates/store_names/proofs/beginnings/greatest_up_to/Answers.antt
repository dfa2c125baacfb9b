use Rattle.std.proofs.Common.{◌≡◌, true, false, rules}
use Rattle.std.proofs.lemmas.Fn.{always_returns_same}
use Rattle.std.proofs.lemmas.Option.{IfSome_then}
use Rattle.std.specs.List.Sorted.{IsPartitionPoint}
use Rattle.store_names.specs.Beginnings.{is_up_to}
use Rattle.store_names.proofs.GreatestLemmas.{last_is_greatest, last_none, last_some, none_up_to, parted}
use Rattle.store_names.proofs.beginnings.greatest_up_to.Goals as goal

-- the search tests whether a name isn't above the text
answers : (c : goal.After-last) → IsPartitionPoint (λ y. is_up_to c.args.text.now y ≡ true) (λ y. is_up_to c.args.text.now y ≡ false) c.args.names.now c.partition_point-count.result
answers c = c.partition_point-count.ensures.partitioned (is_up_to c.args.text.now) (always_returns_same _ _ _ (λ a r q k. search rules)) (parted c.args.names.now c.args.text.now c.requires)

pub returns-clause-none : goal.returns-clause-none
returns-clause-none c = λ none.
    none_up_to c.args.names.now c.args.text.now c.requires c.partition_point-count.result c.partition_point-count.ensures.bound (answers c).0 (answers c).1
    (last_none c.args.names.now c.partition_point-count.result c.partition_point-count.ensures.bound c.last.result c.last.ensures.value none)

pub returns-clause-some : goal.returns-clause-some
returns-clause-some c =
    IfSome_then c.last.result (last_some c.args.names.now c.partition_point-count.result c.partition_point-count.ensures.bound c.last.result c.last.ensures.value)
    (λ greatest there. last_is_greatest c.args.names.now c.args.text.now c.requires c.partition_point-count.result c.partition_point-count.ensures.bound
    (answers c).0 (answers c).1 there.0 greatest.now there.1 there.2)
