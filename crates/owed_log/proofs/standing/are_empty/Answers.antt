use Rattle.std.proofs.Common.{◌≡◌, [], refl, sym, ◌∙◌, arith}
use Rattle.log_text.specs.Lists.{list_names, no_lists}
use Rattle.log_text.proofs.WhichLemmas.{each_recorded, no_names, same_by_names}
use Rattle.owed_log.proofs.standing.are_empty.Goals as goal

pub returns : goal.returns
returns c =
    let none = each_recorded (λ which. list_names c.args.lists.now which ≡ []) c.loop-which.which-index (omega arith) c.loop-which.invariant in
    (λ is. same_by_names c.args.lists.now no_lists (λ which. none which ∙ sym (no_names which)), λ same. refl)
