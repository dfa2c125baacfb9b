-- What one more line leaves to be read.
use Rattle.std.proofs.Common.{◌≡◌, ℕ, ◌+◌, ◌<◌, ◌≤◌, Bool, true, false, cond, List, [], ◌∷◌, ◌++◌, refl, sym, ap, ◌∙◌, subst, append_assoc, append-nil, arith, Option, None, Some, IfSome, unwrap_or}
use Rattle.std.specs.Option.{option_or, option_map}
use Rattle.std.specs.Str.{IsUtf8, is_utf8}
use Rattle.std.proofs.lemmas.Bool.{lt-leb, le-leb}
use Rattle.std.proofs.lemmas.Str.{IsUtf8-from_is_utf8}
use Rattle.unit_text.specs.declared.reader.ReadPart.{ReadPart}
use Rattle.unit_text.specs.declared.reader.Reader.{Reader}
use Rattle.unit_text.specs.declared.text_fault.TextFault.{TextFault}
use Rattle.unit_text.specs.Lines.{Joined, is_comment, is_continued, with_space, continued, joined, first_bad}
use Rattle.unit_text.specs.Statement.{trimmed, section_after, statement_fault, assigned}
use Rattle.unit_text.specs.TextFault.{is_reached, utf8_fault, joined_fault, first_fault}
use Rattle.unit_text.specs.UnitText.{assignments_in}
use Rattle.unit_text.specs.Reader.{joined_part, with_part, fault_left, assignments_left, ended, Completes, Holds, Marks, ReadsOn}
use Rattle.switch_names.proofs.UnitNames.{not_utf8}
use Rattle.switch_names.proofs.Outcomes.{option_or_none}

abbrev IsBelow : Option ℕ → ℕ → Type 0
IsBelow bad number = IfSome bad (λ line. line < number)

below_next : (bad : Option ℕ) (number : ℕ) → IsBelow bad number → IsBelow bad (number + 1)
below_next None number h = tt
below_next (Some line) number h = omega arith

-- the first line that isn't UTF-8 is one of the lines
not_reached : (number : ℕ) (lines : List (List ℕ)) (last : ℕ) → last < number → is_reached (first_bad number lines) last ≡ false
not_reached number [] last h = refl
not_reached number (line ∷ lines) last h = by (is_utf8 line) refl (not_reached (number + 1) lines last (omega arith))
  where
    by : (b : Bool) → is_utf8 line ≡ b → is_reached (first_bad (number + 1) lines) last ≡ false → is_reached (first_bad number (line ∷ lines)) last ≡ false
    by true u rest = ap (λ b. is_reached (cond b (first_bad (number + 1) lines) (Some number)) last) u ∙ rest
    by false u rest = ap (λ b. is_reached (cond b (first_bad (number + 1) lines) (Some number)) last) u ∙ lt-leb _ _ h

-- lines that come later change nothing for a joined line
same_fault : (section : Option (List ℕ)) (bad : Option ℕ) (line : Joined) (number : ℕ) (lines : List (List ℕ)) → line.last < number
    → joined_fault section (option_or bad (first_bad number lines)) line ≡ joined_fault section bad line
same_fault section (Some b) line number lines h = refl
same_fault section None line number lines h =
    ap (λ b. cond b (option_map utf8_fault (first_bad number lines)) (statement_fault section line.first (trimmed line.text))) (not_reached number lines line.last h)

last_is : (part : Option ReadPart) (number : ℕ) (line : List ℕ) → (ended part number line).last ≡ number
last_is None number line = refl
last_is (Some part) number line = refl

module _ (line : List ℕ) (number : ℕ) (rest : List (List ℕ)) where
  pub bad_if : (b : Bool) → is_utf8 line ≡ b → first_bad number (line ∷ rest) ≡ cond b (first_bad (number + 1) rest) (Some number)
  bad_if b u = ap (λ t. cond t (first_bad (number + 1) rest) (Some number)) u

  pub joined_comment : is_comment line ≡ true → joined number (line ∷ rest) ≡ joined (number + 1) rest
  joined_comment c = rw c refl

  pub joined_held : is_comment line ≡ false → is_continued line ≡ true
      → joined number (line ∷ rest) ≡ continued (record { first = number; last = number; text = with_space line }) (joined (number + 1) rest)
  joined_held c k = rw (c, k) refl

  pub joined_ended : is_comment line ≡ false → is_continued line ≡ false
      → joined number (line ∷ rest) ≡ record { first = number; last = number; text = line } ∷ joined (number + 1) rest
  joined_ended c k = rw (c, k) refl

with_ended : (part : Option ReadPart) (number : ℕ) (line : List ℕ) (rest : List Joined)
    → with_part part (record { first = number; last = number; text = line } ∷ rest) ≡ ended part number line ∷ rest
with_ended None number line rest = refl
with_ended (Some part) number line rest = refl

-- ---- the first joined line that is to come ends with this line or a later one

abbrev Reaches : ℕ → List Joined → Type 0
Reaches number [] = ⊥
Reaches number (line ∷ rest) = number ≤ line.last

abbrev ReachesIfAny : ℕ → List Joined → Type 0
ReachesIfAny number [] = Unit {0}
ReachesIfAny number (line ∷ rest) = number ≤ line.last

earlier : (number : ℕ) (js : List Joined) → ReachesIfAny (number + 1) js → ReachesIfAny number js
earlier number [] h = tt
earlier number (line ∷ rest) h = omega arith

held_reaches : (number : ℕ) (text : List ℕ) (js : List Joined) → ReachesIfAny (number + 1) js → Reaches number (continued (record { first = number; last = number; text = text }) js)
held_reaches number text [] h = omega arith
held_reaches number text (line ∷ rest) h = omega arith

if_any : (number : ℕ) (js : List Joined) → Reaches number js → ReachesIfAny number js
if_any number [] h = tt
if_any number (line ∷ rest) h = h

line_reaches : (number : ℕ) (line : List ℕ) (rest : List (List ℕ)) → ReachesIfAny (number + 1) (joined (number + 1) rest) → is_comment line ≡ false → Reaches number (joined number (line ∷ rest))
line_reaches number line rest h c = by (is_continued line) refl
  where
    by : (b : Bool) → is_continued line ≡ b → Reaches number (joined number (line ∷ rest))
    by true k = subst (Reaches number) (sym (joined_held line number rest c k)) (held_reaches number (with_space line) (joined (number + 1) rest) h)
    by false k = subst (Reaches number) (sym (joined_ended line number rest c k)) (omega arith)

reaches_any : (number : ℕ) (lines : List (List ℕ)) → ReachesIfAny number (joined number lines)
reaches_any number [] = tt
reaches_any number (line ∷ rest) = by (is_comment line) refl (reaches_any (number + 1) rest)
  where
    by : (b : Bool) → is_comment line ≡ b → ReachesIfAny (number + 1) (joined (number + 1) rest) → ReachesIfAny number (joined number (line ∷ rest))
    by true c h = subst (ReachesIfAny number) (sym (joined_comment line number rest c)) (earlier number _ h)
    by false c h = if_any number _ (line_reaches number line rest h c)

part_reaches : (number : ℕ) (part : Option ReadPart) (js : List Joined) → Reaches number js → Reaches number (with_part part js)
part_reaches number None js h = h
part_reaches number (Some part) [] h = absurd h
part_reaches number (Some part) (line ∷ rest) h = h

-- such a line has no other fault than the one before it
reached_fault : (section : Option (List ℕ)) (bad number : ℕ) (js : List Joined) → bad ≤ number → Reaches number js → first_fault section (Some bad) js ≡ Some (utf8_fault bad)
reached_fault section bad number [] h r = absurd r
reached_fault section bad number (line ∷ rest) h r =
    ap (λ b. option_or (cond b (Some (utf8_fault bad)) (statement_fault section line.first (trimmed line.text))) (first_fault (section_after section (trimmed line.text)) (Some bad) rest))
    (le-leb bad line.last (omega arith))

or_some : (bad : Option ℕ) (number : ℕ) → option_or bad (Some number) ≡ Some (unwrap_or bad number)
or_some None number = refl
or_some (Some line) number = refl

at_most : (bad : Option ℕ) (number : ℕ) → IsBelow bad number → unwrap_or bad number ≤ number
at_most None number h = omega arith
at_most (Some line) number h = omega arith

-- a joined line that is a statement has no fault
sound_is : (old : Reader) (whole : Joined) → is_reached old.bad whole.last ≡ false → statement_fault old.body.section whole.first (trimmed whole.text) ≡ None
    → joined_fault old.body.section old.bad whole ≡ None
sound_is old whole r s = ap (λ b. cond b (option_map utf8_fault old.bad) (statement_fault old.body.section whole.first (trimmed whole.text))) r ∙ s

-- ---- one more line

module _ (old new : Reader) (number : ℕ) (line : List ℕ) (before : IsBelow old.bad number) where
  pub reads_comment : is_utf8 line ≡ true → is_comment line ≡ true → ReadsOn old old number line
  reads_comment u c =
      record {
        fault = λ rest. sym (λ i. first_fault old.body.section (option_or old.bad (bad_if line number rest true u i)) (with_part old.part (joined_comment line number rest c i)));
        assignments = λ rest. sym (λ i. old.body.assignments.items ++ assignments_in old.body.section (with_part old.part (joined_comment line number rest c i)));
        before = below_next old.bad number before;
      }

  bad_is : (rest : List (List ℕ)) → is_utf8 line ≡ false → option_or old.bad (first_bad number (line ∷ rest)) ≡ Some (unwrap_or old.bad number)
  bad_is rest u = ap (option_or old.bad) (bad_if line number rest false u) ∙ or_some old.bad number

  pub reads_bad_comment : is_utf8 line ≡ false → is_comment line ≡ true → Marks old new number → ReadsOn old new number line
  reads_bad_comment u c m =
      record {
        fault = λ rest.
            (λ i. first_fault (m.body i).section (option_or (m.bad i) (first_bad (number + 1) rest)) (with_part (m.part i) (joined (number + 1) rest)))
            ∙ sym (λ i. first_fault old.body.section (bad_is rest u i) (with_part old.part (joined_comment line number rest c i)));
        assignments = λ rest.
            (λ i. (m.body i).assignments.items ++ assignments_in (m.body i).section (with_part (m.part i) (joined (number + 1) rest)))
            ∙ sym (λ i. old.body.assignments.items ++ assignments_in old.body.section (with_part old.part (joined_comment line number rest c i)));
        before = let most = at_most old.bad number before in subst (λ (bad : Option ℕ). IsBelow bad (number + 1)) (sym m.bad) (omega arith);
      }

  pub refuses_bad : (rest : List (List ℕ)) → is_utf8 line ≡ false → is_comment line ≡ false → fault_left old number (line ∷ rest) ≡ Some (utf8_fault (unwrap_or old.bad number))
  refuses_bad rest u c =
      ap (λ bad. first_fault old.body.section bad (with_part old.part (joined number (line ∷ rest)))) (bad_is rest u)
      ∙ reached_fault old.body.section _ number _ (at_most old.bad number before)
      (part_reaches number old.part _ (line_reaches number line rest (reaches_any (number + 1) rest) c))

  pub reads_held : is_utf8 line ≡ true → is_comment line ≡ false → is_continued line ≡ true
      → Holds old new (record { first = number; last = number; text = with_space line }) → ReadsOn old new number line
  reads_held u c k h =
      let goes_on : (rest : List (List ℕ)) → with_part new.part (joined (number + 1) rest) ≡ with_part old.part (joined number (line ∷ rest)) =
      λ rest. h.going_on (joined (number + 1) rest) ∙ ap (with_part old.part) (sym (joined_held line number rest c k)) in
      record {
        fault = λ rest.
            (λ i. first_fault (h.body i).section (option_or (h.bad i) (first_bad (number + 1) rest)) (goes_on rest i))
            ∙ sym (λ i. first_fault old.body.section (option_or old.bad (bad_if line number rest true u i)) (with_part old.part (joined number (line ∷ rest))));
        assignments = λ rest. λ i. (h.body i).assignments.items ++ assignments_in (h.body i).section (goes_on rest i);
        before = subst (λ (bad : Option ℕ). IsBelow bad (number + 1)) (sym h.bad) (below_next old.bad number before);
      }

  ends : (rest : List (List ℕ)) → is_comment line ≡ false → is_continued line ≡ false → with_part old.part (joined number (line ∷ rest)) ≡ ended old.part number line ∷ joined (number + 1) rest
  ends rest c k = ap (with_part old.part) (joined_ended line number rest c k) ∙ with_ended old.part number line (joined (number + 1) rest)

  -- the fault of the line that ends, and then those of what follows
  left_is : (rest : List (List ℕ)) → is_utf8 line ≡ true → is_comment line ≡ false → is_continued line ≡ false
      → fault_left old number (line ∷ rest)
      ≡ option_or (joined_fault old.body.section old.bad (ended old.part number line))
      (first_fault (section_after old.body.section (trimmed (ended old.part number line).text)) (option_or old.bad (first_bad (number + 1) rest)) (joined (number + 1) rest))
  left_is rest u c k =
      let whole = ended old.part number line in
      (λ i. first_fault old.body.section (option_or old.bad (bad_if line number rest true u i)) (ends rest c k i))
      ∙ ap (λ fault. option_or fault (first_fault (section_after old.body.section (trimmed whole.text)) (option_or old.bad (first_bad (number + 1) rest)) (joined (number + 1) rest)))
      (same_fault old.body.section old.bad whole (number + 1) rest (let at = last_is old.part number line in omega arith))

  pub reads_ended : is_utf8 line ≡ true → is_comment line ≡ false → is_continued line ≡ false
      → Completes old new (ended old.part number line) → new.part ≡ None → ReadsOn old new number line
  reads_ended u c k h p =
      let whole = ended old.part number line in
      record {
        fault = λ rest.
            (λ i. first_fault (h.body.section i) (option_or (h.bad i) (first_bad (number + 1) rest)) (with_part (p i) (joined (number + 1) rest)))
            ∙ sym (left_is rest u c k ∙ ap (λ fault. option_or fault (first_fault (section_after old.body.section (trimmed whole.text)) (option_or old.bad (first_bad (number + 1) rest)) (joined (number + 1) rest))) (sound_is old whole h.unreached h.body.sound));
        assignments = λ rest.
            (λ i. h.body.assignments i ++ assignments_in (h.body.section i) (with_part (p i) (joined (number + 1) rest)))
            ∙ append_assoc old.body.assignments.items (assigned old.body.section (trimmed whole.text)) (assignments_in (section_after old.body.section (trimmed whole.text)) (joined (number + 1) rest))
            ∙ sym (λ i. old.body.assignments.items ++ assignments_in old.body.section (ends rest c k i));
        before = subst (λ (bad : Option ℕ). IsBelow bad (number + 1)) (sym h.bad) (below_next old.bad number before);
      }

  pub refuses_ended : (rest : List (List ℕ)) (fault : TextFault) → is_utf8 line ≡ true → is_comment line ≡ false → is_continued line ≡ false
      → joined_fault old.body.section old.bad (ended old.part number line) ≡ Some fault → fault_left old number (line ∷ rest) ≡ Some fault
  refuses_ended rest fault u c k e =
      left_is rest u c k
      ∙ ap (λ f. option_or f (first_fault (section_after old.body.section (trimmed (ended old.part number line).text)) (option_or old.bad (first_bad (number + 1) rest)) (joined (number + 1) rest))) e

-- ---- the end of a joined line, and of the file

-- the part that was kept is none of what a joined line is taken by
pub completes_as : (old : Reader) (part : Option ReadPart) (new : Reader) {line whole : Joined} → line ≡ whole
    → Completes (record { bad = old.bad; part = part; body = old.body }) new line → Completes old new whole
completes_as old part new same done = subst (Completes old new) same (record { unreached = done.unreached; body = done.body; bad = done.bad })

-- a part at the end of the file is a joined line
pub refuses_end : (reader : Reader) (part : ReadPart) (fault : TextFault) → reader.part ≡ Some part
    → joined_fault reader.body.section reader.bad (joined_part part) ≡ Some fault → fault_left reader 1 [] ≡ Some fault
refuses_end reader part fault kept is =
    (λ i. first_fault reader.body.section (option_or_none reader.bad i) (with_part (kept i) []))
    ∙ ap (λ f. option_or f (first_fault (section_after reader.body.section (trimmed (joined_part part).text)) reader.bad [])) is

-- what a reader has once no line is left
pub record Finishes (old new : Reader) : Type 0 where
  pub fault : fault_left old 1 [] ≡ option_map utf8_fault new.bad
  pub all : new.body.assignments.items ≡ assignments_left old 1 []

pub finishes_part : (old new : Reader) (part : ReadPart) → old.part ≡ Some part → Completes old new (joined_part part) → Finishes old new
finishes_part old new part kept done =
    let whole = joined_part part in
    record {
      fault =
          (λ i. first_fault old.body.section (option_or_none old.bad i) (with_part (kept i) []))
          ∙ ap (λ f. option_or f (first_fault (section_after old.body.section (trimmed whole.text)) old.bad [])) (sound_is old whole done.unreached done.body.sound)
          ∙ ap (option_map utf8_fault) (sym done.bad);
      all =
          done.body.assignments
          ∙ sym ((λ i. old.body.assignments.items ++ assignments_in old.body.section (with_part (kept i) []))
          ∙ ap (λ more. old.body.assignments.items ++ more) (append-nil (assigned old.body.section (trimmed whole.text))));
    }

pub finishes_alone : (old : Reader) → old.part ≡ None → Finishes old (record { bad = old.bad; part = None; body = old.body })
finishes_alone old none = record {
  fault = λ i. first_fault old.body.section (option_or_none old.bad i) (with_part (none i) []);
  all = sym ((λ i. old.body.assignments.items ++ assignments_in old.body.section (with_part (none i) [])) ∙ append-nil old.body.assignments.items);
}
