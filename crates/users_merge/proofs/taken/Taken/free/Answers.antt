use Rattle.std.proofs.Common.{Bool, List, find, sym, ap, ◌∙◌, arith}
use Rattle.id_memory.specs.Free.{is_free, numbers_towards}
use Rattle.users_merge.specs.Account.{span}
use Rattle.users_merge.specs.Taken.{is_open}
use Rattle.users_merge.proofs.GivingLemmas.{open_found}
use Rattle.users_merge.proofs.taken.Taken.free.Goals as goal

pub returns-then-is_system : goal.returns-then-is_system
unfolding span
returns-then-is_system c = λ used known are.
    c.free_id.ensures ∙ ap (λ (marks : List Bool). find (is_free marks) (numbers_towards 999 400)) c.as_slice.ensures.value
    ∙ open_found used known c.args.self.now.used.keys c.args.self.now.marked.items 999 400 are (omega arith) (omega arith) ∙ sym (ap (λ b. find (is_open used known) (span b)) c.if-is_system.true)

pub returns-else-is_system : goal.returns-else-is_system
unfolding span
returns-else-is_system c = λ used known are.
    c.free_id-else-is_system.ensures ∙ ap (λ (marks : List Bool). find (is_free marks) (numbers_towards 1000 29999)) c.as_slice-else-is_system.ensures.value
    ∙ open_found used known c.args.self.now.used.keys c.args.self.now.marked.items 1000 29999 are (omega arith) (omega arith) ∙ sym (ap (λ b. find (is_open used known) (span b)) c.if-is_system.false)
