use Rattle.std.proofs.Common.{List, sym, subst, rules}
use Rattle.std.specs.List.Sorted.{IsPermutation}
use Rattle.std.specs.Ordering.{is_lt}
use Rattle.std.proofs.lemmas.List.Sorted.{answers_always, ranks_by}
use Rattle.account_text.specs.declared.group.GroupRow.{GroupRow}
use Rattle.account_text.specs.Order.{by_id, group_key, IsInOrder}
use Rattle.account_text.specs.Group.{is_group_row, IsSoundGroup}
use Rattle.account_text.proofs.OrderLemmas.{by_id_total, in_order, sound_moved}
use Rattle.account_text.proofs.order.group_in_order.Goals as goal

moved : (c : goal.After-from_vec) → IsPermutation c.args.rows c.sort_unstable_by.new.self.items
moved c = subst (λ (rows : List GroupRow). IsPermutation rows c.sort_unstable_by.new.self.items) c.into_vec-rows.ensures c.sort_unstable_by.ensures.permutation

pub returns-clause-order : goal.returns-clause-order
returns-clause-order c = λ distinct.
    let sorted = c.sort_unstable_by.ensures.sorted (λ row other. is_lt (by_id (group_key row) (group_key other))) (ranks_by by_id_total group_key) (answers_always _ _ _ (λ f a r g k. search rules)) in
    subst (λ (ordered : List GroupRow). IsInOrder group_key c.args.rows ordered) (sym c.from_vec.ensures)
    (in_order group_key c.args.rows c.sort_unstable_by.new.self.items (moved c) sorted distinct)

pub returns-clause-sound : goal.returns-clause-sound
returns-clause-sound c = λ sound.
    subst IsSoundGroup (sym c.from_vec.ensures) (sound_moved group_key c.args.rows c.sort_unstable_by.new.self.items is_group_row (moved c) sound)
