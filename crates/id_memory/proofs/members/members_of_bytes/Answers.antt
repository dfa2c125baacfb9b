use Rattle.std.proofs.Common.{true≢false, sym, ◌∙◌, rules}
use Rattle.std.proofs.lemmas.Result.{IfOk-weaker}
use Rattle.serde_json.specs.View.{view}
use Rattle.id_memory.proofs.MemberLemmas.{members_are, no_members_are}
use Rattle.id_memory.proofs.members.members_of_bytes.Goals as goal

pub returns-in-Ok-clause-ok : goal.returns-in-Ok-clause-ok
returns-in-Ok-clause-ok c =
    IfOk-weaker c.members_of_value.result _ _
    (λ members e. members_are c.args.bytes.now (view c.in-Ok.value) c.in-Ok.ensures.ok.0 c.in-Ok.ensures.ok.1 ∙ e) c.members_of_value.ensures.ok

pub returns-else-is_memory-clause-form : goal.returns-else-is_memory-clause-form
returns-else-is_memory-clause-form c = λ is.
    no_members_are c.args.bytes.now (c.in-Err.ensures.err (λ memory. true≢false (sym (c.is_memory.ensures.1 memory) ∙ c.if-is_memory.false)))

pub returns-then-is_memory-clause-form : goal.returns-then-is_memory-clause-form
returns-then-is_memory-clause-form c = search rules steps 300000
