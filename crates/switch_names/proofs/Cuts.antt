-- Texts that are cut at their ends.
use Rattle.std.proofs.Common.{◌≡◌, ℕ, ◌+◌, ◌-◌, true, false, cond, List, ◌++◌, length, take, drop, nat_eq, Option, None, Some, MatchOption, Bor, option_copied, refl, sym, ap, ◌∙◌, arith}
use Rattle.std.specs.List.{starts_with}
use Rattle.std.specs.Str.Pattern.{FindsTextPrefix, FindsTextSuffix}
use Rattle.std.proofs.lemmas.Bool.Decides.{Decides-eqb}
use Rattle.std.proofs.lemmas.List.{drop_at}
use Rattle.std.proofs.lemmas.Option.{cond_some}
use Rattle.std.proofs.lemmas.Slice.Eq.{starts_is}
use Rattle.std.proofs.lemmas.Str.Pattern.{ends_text, starts_text}
use Rattle.switch_names.specs.Texts.{after_front, before_end}

pub stripped_end : (end text : List ℕ) (rest : Option (Bor (List ℕ))) →
    MatchOption rest (FindsTextSuffix end text None) (λ x. (n : ℕ) × FindsTextSuffix end text (Some n) × (x.now ≡ take (length text - n) text) × (length x.now + n ≡ length text)) →
    option_copied rest ≡ before_end end text
stripped_end end text None is = ap (λ b. cond b (Some (take (length text - length end) text)) None) (ends_text false end text is)
stripped_end end text (Some rest) is =
    let same : rest.now ≡ take (length text - length end) text = rw (← is.1.0) is.2 in
    ap Some same ∙ ap (λ b. cond b (Some (take (length text - length end) text)) None) (ends_text true end text (is.0, is.1, omega (arith, is.3), rw is.1.0 is.1.2))

module _ (front text : List ℕ) where
  abbrev IsStripped : Option (Bor (List ℕ)) → Type 0
  IsStripped rest = MatchOption rest (FindsTextPrefix front text None) (λ x. (n : ℕ) × FindsTextPrefix front text (Some n) × (x.now ≡ drop n text) × (length x.now + n ≡ length text))

  pub stripped_front : (rest : Option (Bor (List ℕ))) → IsStripped rest → option_copied rest ≡ after_front front text
  stripped_front None is = ap (λ b. cond b (Some (drop (length front) text)) None) (starts_text false front text is)
  stripped_front (Some rest) is =
      let same : rest.now ≡ drop (length front) text = rw (← is.1.0) is.2 in
      ap Some same ∙ ap (λ b. cond b (Some (drop (length front) text)) None) (starts_text true front text (is.0, is.1, rw is.1.0 is.1.2))

  -- a text begins with a front exactly where something follows it
  pub stripped_prefix : (rest : Option (Bor (List ℕ))) → IsStripped rest →
      MatchOption rest (starts_with nat_eq text front ≡ false) (λ x. (starts_with nat_eq text front ≡ true) × (x.now ≡ drop (length front) text))
  stripped_prefix None is = sym (starts_text false front text is)
  stripped_prefix (Some rest) is = (sym (starts_text true front text (is.0, is.1, rw is.1.0 is.1.2)), rw (← is.1.0) is.2)

pub front_is : (front path rest : List ℕ) → after_front front path ≡ Some rest → path ≡ front ++ rest
front_is front path rest is =
    let parts = cond_some (starts_with nat_eq path front) (drop (length front) path) rest is in
    (starts_is Decides-eqb path front (starts_with nat_eq path front) refl).0 parts.0 ∙ ap (λ r. front ++ r) parts.1

pub front_there : (front rest : List ℕ) → after_front front (front ++ rest) ≡ Some rest
front_there front rest =
    ap (λ b. cond b (Some (drop (length front) (front ++ rest))) None) ((starts_is Decides-eqb (front ++ rest) front (starts_with nat_eq (front ++ rest) front) refl).1 rest refl)
    ∙ ap (λ r. Some r) (drop_at front rest (length front) refl)
