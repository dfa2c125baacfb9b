use Rattle.std.proofs.Common.{◌≡◌, ◌&&◌, ◌≢◌, true, false, List, ◌∷◌, ◌++◌, [], ℕ, Option, None, Some, MatchOption, lit<}
use Rattle.std.specs.Borrow.{Bor}
use Rattle.std.proofs.lemmas.Bool.{and_left, and_right}
use Rattle.std.proofs.lemmas.Str.Pattern.{strip_prefix_char, strip_suffix_char}
use Rattle.unit_text.specs.Statement.{begins_section, ends_section, between_ends}
use Rattle.unit_text.proofs.EndLemmas.{begins_other, brackets_missing, brackets_found}
use Rattle.unit_text.proofs.statement.between_brackets.Goals as goal

pub returns-in-None : goal.returns-in-None
returns-in-None c =
    and_left _ _ (begins_other c.args.text.now (strip_prefix_char 91 c.args.text.now None c.in-None.ensures.cases (lit< tt)))

both : (text rest : List ℕ) (r : Option (Bor (List ℕ))) → text ≡ 91 ∷ rest
    → MatchOption r ((front : List ℕ) → rest ≢ front ++ (93 ∷ [])) (λ x. rest ≡ x.now ++ (93 ∷ []))
    → MatchOption r ((begins_section text && ends_section text) ≡ false) (λ name. ((begins_section text && ends_section text) ≡ true) × (name.now ≡ between_ends text))
both text rest None e lacks = and_right _ _ (brackets_missing text rest e lacks)
both text rest (Some name) e f = brackets_found text rest name.now e f

pub returns-in-Some : goal.returns-in-Some
returns-in-Some c =
    both c.args.text.now c.in-Some.rest.now c.strip_suffix.result
    (strip_prefix_char 91 c.args.text.now (Some c.in-Some.rest) c.in-Some.ensures.cases (lit< tt))
    (strip_suffix_char 93 c.in-Some.rest.now c.strip_suffix.result c.strip_suffix.ensures.cases (lit< tt))
