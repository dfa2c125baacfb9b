use Rattle.users_merge.proofs.TakenLemmas.{none_taken}
use Rattle.users_merge.proofs.taken.Taken.none.Goals as goal

pub returns : goal.returns
returns c = none_taken c.new.result.keys c.in_ok-vec.field-0.items c.new.ensures.empty (c.in_ok-vec.ensures.items_if_clones_equal (λ mark same. same))
