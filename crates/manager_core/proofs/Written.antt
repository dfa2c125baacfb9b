-- What a loop that writes one line after the other has written, and what is left.
use Rattle.std.proofs.Common.{◌≡◌, ℕ, zero, suc, ◌<◌, ◌≤◌, ◌+◌, List, [], ◌∷◌, ◌++◌, map, drop, take, length, get_or, sym, ap, subst, ◌∙◌, append_assoc}
use Rattle.std.specs.List.{AllByRecursion}
use Rattle.std.proofs.lemmas.List.{append-nil, drop_all, drop_more, map_more, take_all}
use Rattle.std.proofs.lemmas.List.Concat.{flat_map-append}
use Rattle.manager_core.specs.declared.line.Line.{Line}
use Rattle.manager_core.specs.StateText.{IsLine, line_text, lines_text}
use Rattle.manager_core.proofs.Order.{join_all}
use Rattle.switch_names.proofs.Lists.{all_at}

-- a line more is written, and a line less is left
pub one_written :
    {X : Type 0} (f : X → Line) (xs : List X) (i : ℕ) (x : X) (before after whole : List ℕ) →
    i < length xs → x ≡ get_or xs i x → after ≡ before ++ lines_text (f x ∷ []) → before ++ lines_text (map f (drop i xs)) ≡ whole →
    after ++ lines_text (map f (drop (i + 1) xs)) ≡ whole
one_written f xs i x before after whole inside is now was =
    let rest = map f (drop (i + 1) xs) in
    ap (λ t. t ++ lines_text rest) now ∙ append_assoc before (lines_text (f x ∷ [])) (lines_text rest)
    ∙ ap (λ t. before ++ t) (sym (flat_map-append (λ l. line_text l ++ 10 ∷ []) (f x ∷ []) rest))
    ∙ ap (λ y. before ++ lines_text (f y ∷ rest)) is
    ∙ ap (λ ys. before ++ lines_text (map f ys)) (sym (drop_more xs i x inside)) ∙ was

-- each line so far is one, and so is one more
pub one_line_more :
    {X : Type 0} (f : X → Line) (xs : List X) (i : ℕ) (x : X) →
    i < length xs → x ≡ get_or xs i x → IsLine (f x) → AllByRecursion IsLine (map f (take i xs)) → AllByRecursion IsLine (map f (take (i + 1) xs))
one_line_more f xs i x inside is line lines =
    subst (AllByRecursion IsLine) (ap (λ y. map f (take i xs) ++ f y ∷ []) is ∙ sym (map_more f xs i x inside))
    (join_all IsLine (map f (take i xs)) (f x ∷ []) lines (line, tt))

-- what is left of items that are all so is so
all_left : {X : Type 0} (P : X → Type 0) (xs : List X) (i : ℕ) → AllByRecursion P xs → AllByRecursion P (drop i xs)
all_left P xs zero all = all
all_left P [] (suc i) all = tt
all_left P (x ∷ xs) (suc i) all = all_left P xs i all.1

-- at the end nothing is left to write
pub all_written :
    {X : Type 0} (f : X → Line) (xs : List X) (i : ℕ) (out whole : List ℕ) →
    length xs ≤ i → out ++ lines_text (map f (drop i xs)) ≡ whole → out ≡ whole
all_written f xs i out whole past is = sym (append-nil out) ∙ ap (λ ys. out ++ lines_text (map f ys)) (sym (drop_all i xs past)) ∙ is

-- and each line is one
pub all_lines :
    {X : Type 0} (f : X → Line) (xs : List X) (i : ℕ) →
    length xs ≤ i → AllByRecursion IsLine (map f (take i xs)) → AllByRecursion IsLine (map f xs)
all_lines f xs i past lines = subst (λ ys. AllByRecursion IsLine (map f ys)) (take_all i xs past) lines
