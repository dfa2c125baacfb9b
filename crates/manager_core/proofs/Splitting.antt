-- Lines are told apart by their line feeds.
use Rattle.std.proofs.Common.{◌≡◌, ℕ, true, List, [], ◌∷◌, ◌++◌, Some, refl, sym, ap, ◌∙◌, subst, append_assoc}
use Rattle.std.specs.List.{AllByRecursion}
use Rattle.std.proofs.lemmas.Bool.{both_ways}
use Rattle.manager_core.specs.declared.line.Line.{Line}
use Rattle.manager_core.specs.Reading.{line_of}
use Rattle.manager_core.specs.StateText.{IsLine, line_text, lines_text}
use Rattle.manager_core.proofs.Lines.{line_has_no, line_is_read}
use Rattle.manager_core.proofs.Names.{HasNo}
use Rattle.manager_core.proofs.Parts.{cut_once}

abbrev pub AreLines : List Line → Type 0
AreLines lines = AllByRecursion IsLine lines

-- a line and those after it
pub line_first : (one : Line) (lines : List Line) (rest : List ℕ) → lines_text (one ∷ lines) ++ rest ≡ line_text one ++ 10 ∷ (lines_text lines ++ rest)
line_first one lines rest =
    append_assoc (line_text one ++ 10 ∷ []) (lines_text lines) rest ∙ append_assoc (line_text one) (10 ∷ []) (lines_text lines ++ rest)

pub one_first : (one : Line) (lines : List Line) → lines_text (one ∷ lines) ≡ line_text one ++ 10 ∷ lines_text lines
one_first one lines = append_assoc (line_text one) (10 ∷ []) (lines_text lines)

pub not_empty : (x y : List ℕ) → x ++ 10 ∷ y ≡ [] → ⊥
not_empty [] y e = cc
not_empty (b ∷ x) y e = cc

pub not_ended : (x y : List ℕ) → HasNo 10 (x ++ 10 ∷ y) → ⊥
not_ended [] y h = both_ways true h.0 refl
not_ended (b ∷ x) y h = not_ended x y h.1

same_line : (one other : Line) → IsLine one → IsLine other → line_text one ≡ line_text other → one ≡ other
same_line one other is_one is_other same =
    let read : Some one ≡ Some other = sym (line_is_read one is_one) ∙ ap line_of same ∙ line_is_read other is_other in cc

-- lines whose text begins with that of others begin with these
pub behind : (front lines : List Line) (rest : List ℕ) → AreLines front → AreLines lines → lines_text lines ≡ lines_text front ++ rest
    → (back : List Line) × (lines ≡ front ++ back) × (lines_text back ≡ rest)
behind [] lines rest f l same = (lines, refl, same)
behind (x ∷ front) [] rest f l same = absurd (not_empty (line_text x) (lines_text front ++ rest) (sym (line_first x front rest) ∙ sym same))
behind (x ∷ front) (y ∷ lines) rest f l same =
    let parts = cut_once 10 (line_text y) (lines_text lines) (line_text x) (lines_text front ++ rest) (line_has_no y l.0) (line_has_no x f.0)
    (sym (one_first y lines) ∙ same ∙ line_first x front rest) in
    let more = behind front lines rest f.1 l.1 parts.1 in
    (more.0, (λ i. same_line y x l.0 f.0 parts.0 i ∷ more.1 i), more.2)

lines_back : (front back lines : List Line) → lines ≡ front ++ back → AreLines lines → AreLines back
lines_back [] back lines same are = subst AreLines same are
lines_back (x ∷ front) back lines same are = lines_back front back (front ++ back) refl (subst AreLines same are).1

-- the next line of a longer text
pub next_line : (front lines : List Line) (bytes after : List ℕ) → AreLines front → AreLines lines → HasNo 10 bytes
    → lines_text lines ≡ lines_text front ++ (bytes ++ 10 ∷ after)
    → (one : Line) × (more : List Line) × (lines ≡ front ++ one ∷ more) × (line_text one ≡ bytes) × IsLine one
next_line front lines bytes after f l none same =
    let found = behind front lines (bytes ++ 10 ∷ after) f l same in
    elim found.0 as (λ back. lines ≡ front ++ back → lines_text back ≡ bytes ++ 10 ∷ after
    → (one : Line) × (more : List Line) × (lines ≡ front ++ one ∷ more) × (line_text one ≡ bytes) × IsLine one) [
      | [] ↦ λ e t. absurd (not_empty bytes after (sym t))
      | one ∷ more ↦ λ e t.
          let is = (lines_back front (one ∷ more) lines e l).0 in
          let parts = cut_once 10 (line_text one) (lines_text more) bytes after (line_has_no one is) none (sym (one_first one more) ∙ t) in
          (one, more, e, parts.0, is)
    ] found.1 found.2

-- a text doesn't end within a line
pub no_rest : (front lines : List Line) (rest : List ℕ) → AreLines front → AreLines lines → HasNo 10 rest → lines_text lines ≡ lines_text front ++ rest → rest ≡ []
no_rest front lines rest f l none same =
    let found = behind front lines rest f l same in
    elim found.0 as (λ back. lines_text back ≡ rest → rest ≡ []) [
      | [] ↦ λ t. sym t
      | one ∷ more ↦ λ t. absurd (not_ended (line_text one) (lines_text more) (subst (HasNo 10) (sym t ∙ one_first one more) none))
    ] found.2

-- lines with one text are the same
pub same_lines : (lines others : List Line) → AreLines lines → AreLines others → lines_text lines ≡ lines_text others → lines ≡ others
same_lines [] [] l o same = refl
same_lines [] (y ∷ others) l o same = absurd (not_empty (line_text y) (lines_text others) (sym (one_first y others) ∙ sym same))
same_lines (x ∷ lines) [] l o same = absurd (not_empty (line_text x) (lines_text lines) (sym (one_first x lines) ∙ same))
same_lines (x ∷ lines) (y ∷ others) l o same =
    let parts = cut_once 10 (line_text x) (lines_text lines) (line_text y) (lines_text others) (line_has_no x l.0) (line_has_no y o.0) (sym (one_first x lines) ∙ same ∙ one_first y others) in
    λ i. same_line x y l.0 o.0 parts.0 i ∷ same_lines lines others l.1 o.1 parts.1 i
