use Rattle.std.proofs.Common.{◌++◌, ◌∷◌, ◌-◌, drop, take, length, ap, ◌∙◌, arith}
use Rattle.std.specs.List.{flat_map}
use Rattle.account_text.proofs.FieldLemmas.{joined_from}
use Rattle.account_text.proofs.field.join_members.Goals as goal

pub returns : goal.returns
returns c =
    let first = c.in_ok-push_str.ensures.bytes ∙ ap (λ t. t ++ c.as_str.result.now) c.new-field.ensures.bytes ∙ c.as_str.ensures in
    c.in_ok-push_members.ensures
    ∙ ap (λ t. t ++ flat_map (λ member. 44 ∷ member) (take (length c.args.members.now - 1) (drop 1 c.args.members.now))) first
    ∙ joined_from c.args.members.now c.first-item.result (omega arith) c.first-item.is
