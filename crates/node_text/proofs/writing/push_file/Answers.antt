use Rattle.std.proofs.Common.{◌≡◌, List, ℕ, [], ◌∷◌, ◌++◌, sym, ap, ◌∙◌, append_assoc}
use Rattle.std.specs.Fmt.{decimal}
use Rattle.node_text.specs.Node.{octal}
use Rattle.node_text.proofs.writing.push_file.Goals as goal

joined : (out tag mode owners bytes a b c d : List ℕ) → a ≡ out ++ tag → b ≡ a ++ mode → c ≡ b ++ owners → d ≡ c ++ bytes → d ≡ out ++ (tag ++ (mode ++ (owners ++ bytes)))
joined out tag mode owners bytes a b c d first second third fourth =
    fourth ∙ ap (λ l. l ++ bytes) (third ∙ ap (λ l. l ++ owners) (second ∙ ap (λ l. l ++ mode) first)) ∙ append_assoc ((out ++ tag) ++ mode) owners bytes
    ∙ append_assoc (out ++ tag) mode (owners ++ bytes) ∙ append_assoc out tag (mode ++ (owners ++ bytes))

owners_line : (uid gid bytes : List ℕ) → (32 ∷ (uid ++ (32 ∷ (gid ++ 10 ∷ [])))) ++ bytes ≡ 32 ∷ ((uid ++ (32 ∷ gid)) ++ (10 ∷ bytes))
owners_line uid gid bytes =
    ap (λ l. 32 ∷ l) (append_assoc uid (32 ∷ (gid ++ 10 ∷ [])) bytes ∙ ap (λ l. uid ++ (32 ∷ l)) (append_assoc gid (10 ∷ []) bytes) ∙ sym (append_assoc uid (32 ∷ gid) (10 ∷ bytes)))

pub returns : goal.returns
returns c =
    let uid = decimal c.args.uid in
    let gid = decimal c.args.gid in
    joined c.args.text.now.items (70 ∷ 32 ∷ []) (octal c.args.mode) (32 ∷ (uid ++ (32 ∷ (gid ++ 10 ∷ [])))) c.args.bytes.now c.extend_from_slice.new.self.items
    c.extend_from_slice-2.new.self.items c.extend_from_slice-3.new.self.items c.extend_from_slice-4.new.self.items c.in_ok-extend_from_slice.ensures.items
    (c.in_ok-extend_from_slice-2.ensures.items ∙ ap (λ mode. c.extend_from_slice.new.self.items ++ mode) c.octal.ensures)
    (c.in_ok-extend_from_slice-3.ensures.items ∙ ap (λ line. c.extend_from_slice-2.new.self.items ++ line) (c.as_bytes.ensures.value ∙ c.in_ok-format.ensures.ok))
    c.in_ok-extend_from_slice-4.ensures.items
    ∙ ap (λ line. c.args.text.now.items ++ (70 ∷ 32 ∷ (octal c.args.mode ++ line))) (owners_line uid gid c.args.bytes.now)
