-- What is put out, one text after another.
use Rattle.std.proofs.Common.{◌≡◌, ℕ, List, [], ◌++◌, Some, append_assoc, ap, subst, sym, ◌∙◌}
use Rattle.std.proofs.lemmas.List.{append-nil}
use Rattle.host_trait.specs.Sink.{IsPrefixOf, Puts, SinkState}

-- another set of texts
pub puts_as : {a b : SinkState} {P : List ℕ → Type 0} → Puts a b P → (Q : List ℕ → Type 0) → ((more : List ℕ) → P more → Q more) → Puts a b Q
puts_as put Q weaker = record {
  put = λ before is. let there = put.put before is in (there.0, there.1, weaker there.0 there.2);
  silent = put.silent;
}

-- nothing was put
pub puts_nothing : (a : SinkState) (Q : List ℕ → Type 0) → Q [] → Puts a a Q
puts_nothing a Q holds = record {
  put = λ before is. ([], is ∙ ap Some (sym (append-nil before)), holds);
  silent = λ none. none;
}

-- one text after another
pub puts_then : {a b c : SinkState} {P Q : List ℕ → Type 0} → Puts a b P → Puts b c Q → (R : List ℕ → Type 0) → ((first then : List ℕ) → P first → Q then → R (first ++ then)) → Puts a c R
puts_then first second R both = record {
  put = λ before is.
      let one = first.put before is in
      let two = second.put (before ++ one.0) one.1 in
      (one.0 ++ two.0, two.1 ∙ ap Some (append_assoc before one.0 two.0), both one.0 two.0 one.2 two.2);
  silent = λ none. second.silent (first.silent none);
}

-- a beginning of the first text is one of both
pub first_prefix : (first then more : List ℕ) → IsPrefixOf first more → IsPrefixOf (first ++ then) more
first_prefix first then more is = (is.0 ++ then, ap (λ (t : List ℕ). t ++ then) is.1 ∙ append_assoc more is.0 then)

-- the whole first text and a beginning of the second are a beginning of both
pub then_prefix : (first then more : List ℕ) → IsPrefixOf then more → IsPrefixOf (first ++ then) (first ++ more)
then_prefix first then more is = (is.0, ap (λ (t : List ℕ). first ++ t) is.1 ∙ sym (append_assoc first more is.0))

-- a beginning of the first text alone
pub first_part : {a b : SinkState} (first then : List ℕ) → Puts a b (IsPrefixOf first) → Puts a b (IsPrefixOf (first ++ then))
first_part first then put = puts_as put (IsPrefixOf (first ++ then)) (λ more is. first_prefix first then more is)

-- the whole first text and a beginning of the second
pub then_part : {a b c : SinkState} (first then : List ℕ) → Puts a b (λ more. more ≡ first) → Puts b c (IsPrefixOf then) → Puts a c (IsPrefixOf (first ++ then))
then_part first then whole part =
    puts_then whole part (IsPrefixOf (first ++ then))
    (λ one two is_first is. subst (λ (t : List ℕ). IsPrefixOf (first ++ then) (t ++ two)) (sym is_first) (then_prefix first then two is))

-- both texts
pub both_texts : {a b c : SinkState} (first then : List ℕ) → Puts a b (λ more. more ≡ first) → Puts b c (λ more. more ≡ then) → Puts a c (λ more. more ≡ first ++ then)
both_texts first then one two =
    puts_then one two (λ more. more ≡ first ++ then)
    (λ more rest is_first is_then. ap (λ (t : List ℕ). t ++ rest) is_first ∙ ap (λ (t : List ℕ). first ++ t) is_then)

-- the same text in other words
pub same_text : {a b : SinkState} {text other : List ℕ} → text ≡ other → Puts a b (λ more. more ≡ text) → Puts a b (λ more. more ≡ other)
same_text {other = other} same put = puts_as put (λ more. more ≡ other) (λ more is. is ∙ same)

-- a beginning of the same text in other words
pub same_part : {a b : SinkState} {text other : List ℕ} → text ≡ other → Puts a b (IsPrefixOf text) → Puts a b (IsPrefixOf other)
same_part {other = other} same put = puts_as put (IsPrefixOf other) (λ more is. subst (λ (t : List ℕ). IsPrefixOf t more) same is)
