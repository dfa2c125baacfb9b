use Rattle.std.proofs.Common.{◌≡◌, false, nat_eq, IfSome, sym, subst, ◌∙◌}
use Rattle.std.specs.List.{starts_with}
use Rattle.etc_manifest.proofs.NameLemmas.{name_at, none_longer}
use Rattle.etc_manifest.proofs.names.has_longer.Goals as goal

pub returns-in-Some : goal.returns-in-Some
returns-in-Some c = λ other name end there more.
    let next : c.as_bytes.result.now ≡ c.in-Some.next.now = c.as_bytes.ensures.value ∙ c.as_str.ensures.text in
    let front : c.as_bytes-in-Some.result.now ≡ name =
    c.as_bytes-in-Some.ensures.value ∙ c.as_str-name.ensures.text ∙ name_at c.args.names.now c.args.at c.index-names-at.result name c.requires.there c.index-names-at.is there in
    let begins : c.starts_with.result ≡ starts_with nat_eq c.in-Some.next.now name = c.starts_with.ensures.value ∙ (λ i. starts_with nat_eq (next i) (front i)) in
    none_longer c.args.names.now c.args.at name c.get.result c.requires.sorted there c.get.ensures.lookup
    (subst (λ lent. IfSome lent (λ q. starts_with nat_eq q.now name ≡ false)) (sym c.in-Some.is) (sym begins ∙ other)) end more

pub returns-in-None : goal.returns-in-None
returns-in-None c = λ none name end there more.
    none_longer c.args.names.now c.args.at name c.get.result c.requires.sorted there c.get.ensures.lookup
    (subst (λ lent. IfSome lent (λ q. starts_with nat_eq q.now name ≡ false)) (sym c.in-None.is) tt) end more
