-- The text of a state and of no other.
use Rattle.std.proofs.Common.{◌≡◌, ℕ, ◌+◌, true, false, List, [], ◌∷◌, ◌++◌, length, map, None, Some, refl, sym, ap, ◌∙◌, subst, arith}
use Rattle.std.specs.FinMap.{entries, same_entries_map}
use Rattle.std.specs.List.{AllByRecursion}
use Rattle.std.specs.Option.{option_map_or}
use Rattle.std.proofs.lemmas.Bool.{both_ways}
use Rattle.std.proofs.lemmas.List.{append-nil}
use Rattle.std.proofs.lemmas.List.Concat.{flat_map-append}
use Rattle.host_trait.specs.Manager.{HasPlainTexts, IsPlain}
use Rattle.host_trait.specs.States.{listed_states}
use Rattle.host_trait.specs.declared.entry.Bad.{Bad}
use Rattle.host_trait.specs.declared.entry.Entry.{Entry}
use Rattle.host_trait.specs.declared.manager_state.ManagerState.{ManagerState}
use Rattle.host_trait.specs.declared.unit_state.State.{State}
use Rattle.host_trait.specs.declared.unit_state.UnitState.{UnitState}
use Rattle.manager_core.specs.declared.line.Line.{Line}
use Rattle.manager_core.specs.declared.line.Line.TheVariants as line
use Rattle.manager_core.specs.Placing.{added, begun, begun_by, may_stand, only_loaded, stands, with_line}
use Rattle.manager_core.specs.Reading.{line_of}
use Rattle.manager_core.specs.StateText.{IsLine, IsReadable, IsText, IsTextOf, line_text, lines_text, state_lines, state_text}
use Rattle.manager_core.proofs.Growth.{added_lines, begun_lines}
use Rattle.manager_core.proofs.Lines.{line_has_no, line_is, line_is_read}
use Rattle.manager_core.proofs.Names.{HasNo}
use Rattle.manager_core.proofs.Order.{front_of, join_all, may}
use Rattle.manager_core.proofs.Parts.{cut_once}
use Rattle.manager_core.proofs.Splitting.{next_line, one_first, same_lines}

-- ---- one text, one state

abbrev units_in : List Line → List UnitState
units_in [] = []
units_in (line.Loaded text ∷ lines) = units_in lines
units_in (line.State one ∷ lines) = one ∷ units_in lines
units_in (line.Bad one ∷ lines) = units_in lines
units_in (line.Entry one ∷ lines) = units_in lines

abbrev bad_in : List Line → List Bad
bad_in [] = []
bad_in (line.Loaded text ∷ lines) = bad_in lines
bad_in (line.State one ∷ lines) = bad_in lines
bad_in (line.Bad one ∷ lines) = one ∷ bad_in lines
bad_in (line.Entry one ∷ lines) = bad_in lines

abbrev journal_in : List Line → List Entry
journal_in [] = []
journal_in (line.Loaded text ∷ lines) = journal_in lines
journal_in (line.State one ∷ lines) = journal_in lines
journal_in (line.Bad one ∷ lines) = journal_in lines
journal_in (line.Entry one ∷ lines) = one ∷ journal_in lines

abbrev loaded_in : List Line → List ℕ
loaded_in [] = []
loaded_in (line.Loaded text ∷ lines) = text
loaded_in (line.State one ∷ lines) = []
loaded_in (line.Bad one ∷ lines) = []
loaded_in (line.Entry one ∷ lines) = []

units_of_entries : (journal : List Entry) → units_in (map line.Entry journal) ≡ []
units_of_entries [] = refl
units_of_entries (x ∷ journal) = units_of_entries journal

units_of_bad : (bad : List Bad) (journal : List Entry) → units_in (map line.Bad bad ++ map line.Entry journal) ≡ []
units_of_bad [] journal = units_of_entries journal
units_of_bad (x ∷ bad) journal = units_of_bad bad journal

units_of_all : (units : List UnitState) (bad : List Bad) (journal : List Entry) → units_in (map line.State units ++ (map line.Bad bad ++ map line.Entry journal)) ≡ units
units_of_all [] bad journal = units_of_bad bad journal
units_of_all (x ∷ units) bad journal = ap (λ us. x ∷ us) (units_of_all units bad journal)

bad_of_entries : (journal : List Entry) → bad_in (map line.Entry journal) ≡ []
bad_of_entries [] = refl
bad_of_entries (x ∷ journal) = bad_of_entries journal

bad_of_bad : (bad : List Bad) (journal : List Entry) → bad_in (map line.Bad bad ++ map line.Entry journal) ≡ bad
bad_of_bad [] journal = bad_of_entries journal
bad_of_bad (x ∷ bad) journal = ap (λ bs. x ∷ bs) (bad_of_bad bad journal)

bad_of_all : (units : List UnitState) (bad : List Bad) (journal : List Entry) → bad_in (map line.State units ++ (map line.Bad bad ++ map line.Entry journal)) ≡ bad
bad_of_all [] bad journal = bad_of_bad bad journal
bad_of_all (x ∷ units) bad journal = bad_of_all units bad journal

journal_of_entries : (journal : List Entry) → journal_in (map line.Entry journal) ≡ journal
journal_of_entries [] = refl
journal_of_entries (x ∷ journal) = ap (λ es. x ∷ es) (journal_of_entries journal)

journal_of_bad : (bad : List Bad) (journal : List Entry) → journal_in (map line.Bad bad ++ map line.Entry journal) ≡ journal
journal_of_bad [] journal = journal_of_entries journal
journal_of_bad (x ∷ bad) journal = journal_of_bad bad journal

journal_of_all : (units : List UnitState) (bad : List Bad) (journal : List Entry) → journal_in (map line.State units ++ (map line.Bad bad ++ map line.Entry journal)) ≡ journal
journal_of_all [] bad journal = journal_of_bad bad journal
journal_of_all (x ∷ units) bad journal = journal_of_all units bad journal

entries_of : (es : List (List ℕ × State)) → map (λ (u : UnitState). (u.unit, u.state)) (map (λ (e : List ℕ × State). record { unit = e.0; state = e.1 }) es) ≡ es
entries_of [] = refl
entries_of (e ∷ es) = ap (λ rest. e ∷ rest) (entries_of es)

-- states with the same lines are the same
pub same_state : (one other : ManagerState) → state_lines one ≡ state_lines other → one ≡ other
same_state one other same =
    let units = sym (units_of_all (listed_states one.states) one.bad one.journal) ∙ ap units_in same ∙ units_of_all (listed_states other.states) other.bad other.journal in
    let states : one.states ≡ other.states = same_entries_map one.states other.states
    (sym (entries_of (entries one.states)) ∙ ap (map (λ (u : UnitState). (u.unit, u.state))) units ∙ entries_of (entries other.states)) in
    let loaded : one.loaded ≡ other.loaded = ap loaded_in same in
    let bad = sym (bad_of_all (listed_states one.states) one.bad one.journal) ∙ ap bad_in same ∙ bad_of_all (listed_states other.states) other.bad other.journal in
    let journal = sym (journal_of_all (listed_states one.states) one.bad one.journal) ∙ ap journal_in same ∙ journal_of_all (listed_states other.states) other.bad other.journal in
    λ i. record { states = states i; loaded = loaded i; bad = bad i; journal = journal i }

-- and so are states with the same text
pub one_state : (one other : ManagerState) (bytes : List ℕ) → IsTextOf one bytes → IsTextOf other bytes → one ≡ other
one_state one other bytes o p = same_state one other (same_lines (state_lines one) (state_lines other) o.readable p.readable (sym o.spelled ∙ p.spelled))

-- ---- one line more

-- a state with one more line
pub record IsGrown (old new : ManagerState) (bytes : List ℕ) : Type 0 where
  pub readable : IsReadable new
  pub text : state_text new ≡ state_text old ++ (bytes ++ 10 ∷ [])
  pub longer : length (state_lines new) ≡ length (state_lines old) + 1

length_more : (lines : List Line) (one : Line) → length (lines ++ one ∷ []) ≡ length lines + 1
length_more lines one = grind (arith, Rattle.std.proofs.lemmas.Grind.common_steps)

grown : (old new : ManagerState) (one : Line) (bytes : List ℕ) → IsReadable old → IsLine one → bytes ≡ line_text one → state_lines new ≡ state_lines old ++ one ∷ [] → IsGrown old new bytes
grown old new one bytes readable is text lines = record {
  readable = subst (AllByRecursion IsLine) (sym lines) (join_all IsLine (state_lines old) (one ∷ []) readable (is, tt));
  text = ap lines_text lines ∙ flat_map-append (λ l. line_text l ++ 10 ∷ []) (state_lines old) (one ∷ [])
      ∙ ap (λ t. lines_text (state_lines old) ++ t) (append-nil (line_text one ++ 10 ∷ []) ∙ ap (λ t. t ++ 10 ∷ []) (sym text));
  longer = ap length lines ∙ length_more (state_lines old) one;
}

-- a line that stands makes the state grow
pub taken : (old : ManagerState) (bytes : List ℕ) → IsReadable old → stands old bytes ≡ true → IsGrown old (with_line old bytes) bytes
taken old bytes readable is =
    elim (line_of bytes) as (λ o. line_of bytes ≡ o → option_map_or (λ says. may_stand says old) o false ≡ true → IsGrown old (option_map_or (λ says. added says old) o old) bytes) [
      | None ↦ λ e i. absurd (both_ways false refl i)
      | Some one ↦ λ e i.
          let parts = line_is bytes one e in
          grown old (added one old) one bytes readable parts.1 parts.0 (added_lines old one parts.1 i)
    ] refl is

-- one that doesn't, stands in no longer text
pub blocked : (old : ManagerState) (bytes after : List ℕ) → IsReadable old → HasNo 10 bytes → stands old bytes ≡ false
    → (later : ManagerState) → IsReadable later → state_text later ≡ state_text old ++ (bytes ++ 10 ∷ after) → ⊥
blocked old bytes after readable none not later is same =
    let found = next_line (state_lines old) (state_lines later) bytes after readable is none same in
    let one = found.0 in
    let read : line_of bytes ≡ Some one = ap line_of (sym found.3) ∙ line_is_read one found.4 in
    both_ways _ not (ap (λ o. option_map_or (λ says. may_stand says old) o false) read ∙ may old later one found.1 found.2)

-- ---- the first line

-- a state that a first line begins
pub record IsBegun (state : ManagerState) (bytes : List ℕ) : Type 0 where
  pub readable : IsReadable state
  pub text : state_text state ≡ bytes ++ 10 ∷ []
  pub single : length (state_lines state) ≡ 1

only_begun : (text bytes : List ℕ) → bytes ≡ line_text (line.Loaded text) → IsText text → IsBegun (only_loaded text) bytes
only_begun text bytes same is = record {
  readable = subst (AllByRecursion IsLine) (sym (begun_lines text)) (is, tt);
  text = ap lines_text (begun_lines text) ∙ append-nil (line_text (line.Loaded text) ++ 10 ∷ []) ∙ ap (λ t. t ++ 10 ∷ []) (sym same);
  single = ap length (begun_lines text);
}

-- a first line begins a state
pub first_taken : (bytes : List ℕ) (state : ManagerState) → begun bytes ≡ Some state → IsBegun state bytes
first_taken bytes state is =
    elim (line_of bytes) as (λ o. line_of bytes ≡ o → option_map_or begun_by o None ≡ Some state → IsBegun state bytes) [
      | None ↦ λ e i. absurd (let n : None ≡ Some state = i in cc)
      | Some one ↦ λ e i. elim one as (λ one. line_of bytes ≡ Some one → begun_by one ≡ Some state → IsBegun state bytes) [
        | line.Loaded text ↦ λ f j.
            let parts = line_is bytes (line.Loaded text) f in
            let same : only_loaded text ≡ state = cc in
            subst (λ s. IsBegun s bytes) same (only_begun text bytes parts.0 parts.1)
        | line.State a ↦ λ f j. absurd (let n : None ≡ Some state = j in cc)
        | line.Bad a ↦ λ f j. absurd (let n : None ≡ Some state = j in cc)
        | line.Entry a ↦ λ f j. absurd (let n : None ≡ Some state = j in cc)
      ] e i
    ] refl is

-- one that doesn't, begins no text
pub first_blocked : (bytes after : List ℕ) → HasNo 10 bytes → begun bytes ≡ None → (later : ManagerState) → IsReadable later → state_text later ≡ bytes ++ 10 ∷ after → ⊥
first_blocked bytes after none not later is same =
    let one = line.Loaded later.loaded in
    let more = map line.State (listed_states later.states) ++ (map line.Bad later.bad ++ map line.Entry later.journal) in
    let parts = cut_once 10 (line_text one) (lines_text more) bytes after (line_has_no one is.0) none (sym (one_first one more) ∙ same) in
    let read : line_of bytes ≡ Some one = ap line_of (sym parts.0) ∙ line_is_read one is.0 in
    let some : Some (only_loaded later.loaded) ≡ None = sym (ap (λ o. option_map_or begun_by o None) read) ∙ not in
    cc

-- ---- what is readable is plain

bad_plain : (bad : List Bad) → AllByRecursion IsLine (map line.Bad bad) → AllByRecursion (λ one. IsPlain one.loaded) bad
bad_plain [] h = tt
bad_plain (x ∷ bad) h = (h.0.1.plain, bad_plain bad h.1)

journal_plain : (journal : List Entry) → AllByRecursion IsLine (map line.Entry journal) → AllByRecursion (λ one. IsPlain one.loaded) journal
journal_plain [] h = tt
journal_plain (x ∷ journal) h = (h.0.1.plain, journal_plain journal h.1)

pub plain_texts : (state : ManagerState) → IsReadable state → HasPlainTexts state
plain_texts state is =
    let parts = front_of IsLine (map line.State (listed_states state.states)) (map line.Bad state.bad ++ map line.Entry state.journal) is.1 in
    let others = front_of IsLine (map line.Bad state.bad) (map line.Entry state.journal) parts.1 in
    record { loaded = is.0.plain; bad = bad_plain state.bad others.0; journal = journal_plain state.journal others.1 }
