use Rattle.std.proofs.Common.{◌≡◌, List, ℕ, [], ◌∷◌, ◌++◌, ap, ◌∙◌, append_assoc}
use Rattle.node_text.proofs.writing.push_link.Goals as goal

joined : (out front target end a b c : List ℕ) → a ≡ out ++ front → b ≡ a ++ target → c ≡ b ++ end → c ≡ out ++ (front ++ (target ++ end))
joined out front target end a b c first second third =
    third ∙ ap (λ l. l ++ end) (second ∙ ap (λ l. l ++ target) first) ∙ append_assoc (out ++ front) target end ∙ append_assoc out front (target ++ end)

pub returns : goal.returns
returns c =
    joined c.args.text.now.items (76 ∷ 32 ∷ []) c.args.target.now (10 ∷ []) c.extend_from_slice.new.self.items c.extend_from_slice-2.new.self.items c.push.new.self.items
    c.in_ok-extend_from_slice.ensures.items
    (c.in_ok-extend_from_slice-2.ensures.items ∙ ap (λ bytes. c.extend_from_slice.new.self.items ++ bytes) c.as_bytes.ensures.value) c.in_ok-push.ensures.items
