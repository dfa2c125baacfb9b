-- The fault that is given is the one with the least line number.
use Rattle.std.proofs.Common.{◌≡◌, ℕ, ◌+◌, ◌-◌, ◌<◌, ◌≤◌, Bool, true, false, cond, List, [], ◌∷◌, zero, suc, refl, sym, ap, ◌∙◌, subst, inl, inr, ◌⊎◌, ⊎_elim, arith, Option, None, Some}
use Rattle.std.specs.List.{slice_get}
use Rattle.std.specs.Option.{option_or, option_map}
use Rattle.std.specs.Str.{is_utf8}
use Rattle.std.proofs.lemmas.Bool.{leb-true, leb-false, false≢true, cases_lt}
use Rattle.std.proofs.lemmas.Option.{none-some}
use Rattle.unit_text.specs.declared.text_fault.TextFault.{TextFault}
use Rattle.unit_text.specs.Lines.{Joined, lines, is_comment, is_continued, with_space, continued, joined, first_bad}
use Rattle.unit_text.specs.Statement.{trimmed, section_after, statement_fault}
use Rattle.unit_text.specs.TextFault.{is_reached, utf8_fault, joined_fault, first_fault, text_fault, IsBad, IsWrongIn, IsFault, IsFirstFault}
use Rattle.unit_text.specs.TextFault.IsFault.{NotUtf8, NoStatement}
use Rattle.unit_text.proofs.ReaderLemmas.{joined_comment, joined_held, joined_ended, bad_if}

-- ---- the first line that isn't UTF-8

record BadAt (first : ℕ) (all : List (List ℕ)) (number : ℕ) : Type 0 where
  place : ℕ
  line : List ℕ
  counted : number ≡ first + place
  stands : slice_get all place ≡ Some line
  bad : is_utf8 line ≡ false

abbrev IsFirstBad : Option ℕ → (ℕ → Type 0) → Type 0
IsFirstBad None Bad = (number : ℕ) → Bad number → ⊥
IsFirstBad (Some bad) Bad = Bad bad × ((number : ℕ) → Bad number → bad ≤ number)

like : (bad : Option ℕ) (P Q : ℕ → Type 0) → ((n : ℕ) → P n → Q n) → ((n : ℕ) → Q n → P n) → IsFirstBad bad P → IsFirstBad bad Q
like None P Q to back h = λ n q. h n (back n q)
like (Some bad) P Q to back h = (to bad h.0, λ n q. h.1 n (back n q))

at_line : (line other : List ℕ) → Some line ≡ Some other → is_utf8 line ≡ true → is_utf8 other ≡ false → ⊥
at_line line other e u v = let same : line ≡ other = cc in false≢true (sym v ∙ (ap is_utf8 (sym same) ∙ u))

among_later : (first : ℕ) (line : List ℕ) (rest : List (List ℕ)) → is_utf8 line ≡ true → (number : ℕ) → BadAt first (line ∷ rest) number → BadAt (first + 1) rest number
among_later first line rest u number h = by h.place h.counted h.stands
  where
    by : (k : ℕ) → number ≡ first + k → slice_get (line ∷ rest) k ≡ Some h.line → BadAt (first + 1) rest number
    by zero n s = absurd (at_line line h.line s u h.bad)
    by (suc k) n s = record { place = k; line = h.line; counted = omega arith; stands = s; bad = h.bad }

among_all : (first : ℕ) (line : List ℕ) (rest : List (List ℕ)) (number : ℕ) → BadAt (first + 1) rest number → BadAt first (line ∷ rest) number
among_all first line rest number h = let n = h.counted in record { place = suc h.place; line = h.line; counted = omega arith; stands = h.stands; bad = h.bad }

first_bad_is : (first : ℕ) (all : List (List ℕ)) → IsFirstBad (first_bad first all) (BadAt first all)
first_bad_is first [] = λ n h. none-some h.line h.stands
first_bad_is first (line ∷ rest) = by (is_utf8 line) refl (first_bad_is (first + 1) rest)
  where
    by : (b : Bool) → is_utf8 line ≡ b → IsFirstBad (first_bad (first + 1) rest) (BadAt (first + 1) rest) → IsFirstBad (first_bad first (line ∷ rest)) (BadAt first (line ∷ rest))
    by true u h =
        subst (λ (bad : Option ℕ). IsFirstBad bad (BadAt first (line ∷ rest))) (sym (bad_if line first rest true u))
        (like (first_bad (first + 1) rest) _ _ (among_all first line rest) (among_later first line rest u) h)
    by false u h =
        subst (λ (bad : Option ℕ). IsFirstBad bad (BadAt first (line ∷ rest))) (sym (bad_if line first rest false u))
        (record { place = 0; line = line; counted = omega arith; stands = refl; bad = u }, λ n that. let m = that.counted in omega arith)

is_bad : (bytes : List ℕ) (number : ℕ) → BadAt 1 (lines bytes) number → IsBad bytes number
is_bad bytes number h =
    let n = h.counted in
    let at : number - 1 ≡ h.place = omega arith in
    record { line = h.line; counted = omega arith; stands = ap (slice_get (lines bytes)) at ∙ h.stands; bad = h.bad }

bad_at : (bytes : List ℕ) (number : ℕ) → IsBad bytes number → BadAt 1 (lines bytes) number
bad_at bytes number h = let n = h.counted in record { place = number - 1; line = h.line; counted = omega arith; stands = h.stands; bad = h.bad }

pub first_bad_of : (bytes : List ℕ) → IsFirstBad (first_bad 1 (lines bytes)) (IsBad bytes)
first_bad_of bytes = like (first_bad 1 (lines bytes)) _ _ (is_bad bytes) (bad_at bytes) (first_bad_is 1 (lines bytes))

-- ---- joined lines stand one after the other

abbrev AreInOrder : ℕ → List Joined → Type 0
AreInOrder number [] = Unit {0}
AreInOrder number (line ∷ rest) = (number ≤ line.first) × (line.first ≤ line.last) × AreInOrder (line.last + 1) rest

order_from : (number : ℕ) (js : List Joined) → AreInOrder (number + 1) js → AreInOrder number js
order_from number [] h = tt
order_from number (line ∷ rest) h = (omega arith, h.1, h.2)

order_held : (number : ℕ) (text : List ℕ) (js : List Joined) → AreInOrder (number + 1) js → AreInOrder number (continued (record { first = number; last = number; text = text }) js)
order_held number text [] h = (omega arith, omega arith, tt)
order_held number text (line ∷ rest) h = (omega arith, omega arith, h.2)

in_order : (number : ℕ) (all : List (List ℕ)) → AreInOrder number (joined number all)
in_order number [] = tt
in_order number (line ∷ rest) = by (is_comment line) (is_continued line) refl refl (in_order (number + 1) rest)
  where
    by : (c k : Bool) → is_comment line ≡ c → is_continued line ≡ k → AreInOrder (number + 1) (joined (number + 1) rest) → AreInOrder number (joined number (line ∷ rest))
    by true k c e h = subst (AreInOrder number) (sym (joined_comment line number rest c)) (order_from number _ h)
    by false true c k h = subst (AreInOrder number) (sym (joined_held line number rest c k)) (order_held number (with_space line) _ h)
    by false false c k h = subst (AreInOrder number) (sym (joined_ended line number rest c k)) (omega arith, omega arith, h)

-- ---- the first fault

module _ (bytes : List ℕ) where
  wrong_from : (js : List Joined) (section : Option (List ℕ)) (from number : ℕ) (fault : TextFault) → AreInOrder from js → IsWrongIn bytes section js number fault → from ≤ number
  wrong_from [] section from number fault o w = absurd w
  wrong_from (line ∷ rest) section from number fault o w =
      ⊎_elim (λ here. let at = here.0 in omega arith)
      (λ there. let low = wrong_from rest (section_after section (trimmed line.text)) (line.last + 1) number fault o.2 there in omega arith)
      w

  -- a fault of these joined lines, or of any line by itself
  abbrev Among : Option (List ℕ) → List Joined → ℕ → TextFault → Type 0
  Among section js number fault = (IsBad bytes number × (fault ≡ utf8_fault number)) ⊎ IsWrongIn bytes section js number fault

  abbrev IsAnswer : Option (List ℕ) → List Joined → Option TextFault → Type 0
  IsAnswer section js None = (number : ℕ) (fault : TextFault) → Among section js number fault → ⊥
  IsAnswer section js (Some fault) = (number : ℕ) × Among section js number fault × ((other : ℕ) (that : TextFault) → Among section js other that → number ≤ other)

  at_end : (section : Option (List ℕ)) (bad : Option ℕ) → IsFirstBad bad (IsBad bytes) → IsAnswer section [] (option_map utf8_fault bad)
  at_end section None h = λ number fault among. ⊎_elim (λ b. h number b.0) (λ w. w) among
  at_end section (Some bad) h = (bad, inl (h.0, refl), λ other that among. ⊎_elim (λ b. h.1 other b.0) (λ w. absurd w) among)

  -- a line that isn't UTF-8 is reached
  at_bad : (section : Option (List ℕ)) (bad : ℕ) (line : Joined) (rest : List Joined) → IsFirstBad (Some bad) (IsBad bytes) → AreInOrder (line.last + 1) rest → bad ≤ line.last
      → IsAnswer section (line ∷ rest) (Some (utf8_fault bad))
  at_bad section bad line rest h o reach = (
    bad,
    inl (h.0, refl),
    λ other that among.
        ⊎_elim (λ b. h.1 other b.0)
        (λ w. ⊎_elim
        (λ here. let at = here.0 in ⊎_elim (λ lt. omega arith) (λ le. absurd (here.1 bad h.0 le reach)) (cases_lt bad line.first))
        (λ there. let low = wrong_from rest (section_after section (trimmed line.text)) (line.last + 1) other that o there in omega arith)
        w)
        among,
  )

  -- a joined line that is no statement
  at_wrong : (section : Option (List ℕ)) (line : Joined) (rest : List Joined) (fault : TextFault) → line.first ≤ line.last → AreInOrder (line.last + 1) rest
      → ((number : ℕ) → IsBad bytes number → line.last < number) → statement_fault section line.first (trimmed line.text) ≡ Some fault → IsAnswer section (line ∷ rest) (Some fault)
  at_wrong section line rest fault long o clean e = (
    line.first,
    inr (inl (refl, λ number bad low high. let above = clean number bad in absurd (omega arith), e)),
    λ other that among.
        ⊎_elim (λ b. let above = clean other b.0 in omega arith)
        (λ w. ⊎_elim (λ here. let at = here.0 in omega arith) (λ there. let low = wrong_from rest (section_after section (trimmed line.text)) (line.last + 1) other that o there in omega arith) w)
        among,
  )

  -- a joined line that is a statement
  at_sound : (section : Option (List ℕ)) (line : Joined) (rest : List Joined) (answer : Option TextFault) → statement_fault section line.first (trimmed line.text) ≡ None
      → IsAnswer (section_after section (trimmed line.text)) rest answer → IsAnswer section (line ∷ rest) answer
  at_sound section line rest None e h =
      λ number fault among.
      ⊎_elim (λ b. h number fault (inl b))
      (λ w. ⊎_elim (λ here. none-some fault (sym e ∙ subst (λ (n : ℕ). statement_fault section n (trimmed line.text) ≡ Some fault) here.0 here.2)) (λ there. h number fault (inr there)) w)
      among
  at_sound section line rest (Some fault) e h = (
    h.0,
    ⊎_elim (λ b. inl b) (λ w. inr (inr w)) h.1,
    λ other that among.
        ⊎_elim (λ b. h.2 other that (inl b))
        (λ w. ⊎_elim (λ here. absurd (none-some that (sym e ∙ subst (λ (n : ℕ). statement_fault section n (trimmed line.text) ≡ Some that) here.0 here.2))) (λ there. h.2 other that (inr there)) w)
        among,
  )

  reached_by : (bad : Option ℕ) (last : ℕ) → is_reached bad last ≡ true → (number : ℕ) × (bad ≡ Some number) × (number ≤ last)
  reached_by None last e = absurd (false≢true e)
  reached_by (Some number) last e = (number, refl, leb-true number last e)

  clean_by : (bad : Option ℕ) (last : ℕ) → IsFirstBad bad (IsBad bytes) → is_reached bad last ≡ false → (number : ℕ) → IsBad bytes number → last < number
  clean_by None last h e number b = absurd (h number b)
  clean_by (Some bad) last h e number b = let low = leb-false bad last e in let least = h.1 number b in omega arith

  step : (section : Option (List ℕ)) (bad : Option ℕ) (line : Joined) (rest : List Joined) (next : Option TextFault) → IsFirstBad bad (IsBad bytes) → line.first ≤ line.last → AreInOrder (line.last + 1) rest
      → IsAnswer (section_after section (trimmed line.text)) rest next → IsAnswer section (line ∷ rest) (option_or (joined_fault section bad line) next)
  step section bad line rest next h long o that = by (is_reached bad line.last) refl (statement_fault section line.first (trimmed line.text)) refl
    where
      by : (b : Bool) → is_reached bad line.last ≡ b → (f : Option TextFault) → statement_fault section line.first (trimmed line.text) ≡ f
          → IsAnswer section (line ∷ rest) (option_or (joined_fault section bad line) next)
      by true e f s =
          let reached = reached_by bad line.last e in
          subst (λ (t : Bool). IsAnswer section (line ∷ rest) (option_or (cond t (option_map utf8_fault bad) (statement_fault section line.first (trimmed line.text))) next)) (sym e)
          (subst (λ (b : Option ℕ). IsAnswer section (line ∷ rest) (option_or (option_map utf8_fault b) next)) (sym reached.1)
          (at_bad section reached.0 line rest (subst (λ (b : Option ℕ). IsFirstBad b (IsBad bytes)) reached.1 h) o reached.2))
      by false e None s =
          subst (λ (t : Bool). IsAnswer section (line ∷ rest) (option_or (cond t (option_map utf8_fault bad) (statement_fault section line.first (trimmed line.text))) next)) (sym e)
          (subst (λ (f : Option TextFault). IsAnswer section (line ∷ rest) (option_or f next)) (sym s) (at_sound section line rest next s that))
      by false e (Some fault) s =
          subst (λ (t : Bool). IsAnswer section (line ∷ rest) (option_or (cond t (option_map utf8_fault bad) (statement_fault section line.first (trimmed line.text))) next)) (sym e)
          (subst (λ (f : Option TextFault). IsAnswer section (line ∷ rest) (option_or f next)) (sym s)
          (at_wrong section line rest fault long o (clean_by bad line.last h e) s))

  answer : (js : List Joined) (section : Option (List ℕ)) (from : ℕ) (bad : Option ℕ) → IsFirstBad bad (IsBad bytes) → AreInOrder from js → IsAnswer section js (first_fault section bad js)
  answer [] section from bad h o = at_end section bad h
  answer (line ∷ rest) section from bad h o =
      step section bad line rest (first_fault (section_after section (trimmed line.text)) bad rest) h o.1 o.2
      (answer rest (section_after section (trimmed line.text)) (line.last + 1) bad h o.2)

  among : (number : ℕ) (fault : TextFault) → IsFault bytes number fault → Among None (joined 1 (lines bytes)) number fault
  among number fault (NotUtf8 bad e) = inl (bad, e)
  among number fault (NoStatement wrong) = inr wrong

  fault_of : (number : ℕ) (fault : TextFault) → Among None (joined 1 (lines bytes)) number fault → IsFault bytes number fault
  fault_of number fault h = ⊎_elim (λ b. NotUtf8 b.0 b.1) (λ w. NoStatement w) h

  whole : IsAnswer None (joined 1 (lines bytes)) (text_fault bytes)
  whole = answer (joined 1 (lines bytes)) None 1 (first_bad 1 (lines bytes)) (first_bad_of bytes) (in_order 1 (lines bytes))

  pub no_fault : text_fault bytes ≡ None → (number : ℕ) (fault : TextFault) → ¬ IsFault bytes number fault
  no_fault e number fault h = subst (IsAnswer None (joined 1 (lines bytes))) e whole number fault (among number fault h)

  pub least_fault : (fault : TextFault) → text_fault bytes ≡ Some fault → IsFirstFault bytes fault
  least_fault fault e =
      let first = subst (IsAnswer None (joined 1 (lines bytes))) e whole in
      record { number = first.0; is = fault_of first.0 fault first.1; least = λ other that h. first.2 other that (among other that h) }
