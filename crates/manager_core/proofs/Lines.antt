-- A line says one thing, and each thing is said by one line.
use Rattle.std.proofs.Common.{◌≡◌, ◌≢◌, ℕ, nat_eq, codes, true, false, cond, List, [], ◌∷◌, ◌++◌, Option, None, Some, option_map, refl, sym, ap, ◌∙◌, subst, rules}
use Rattle.std.specs.Cmp.Lexicographic.{pointwise, same_text}
use Rattle.std.specs.List.{find}
use Rattle.std.specs.Option.{option_map_or}
use Rattle.switch_names.specs.UnitName.{IsUnitName, named_unit}
use Rattle.host_trait.specs.declared.entry.Act.{Act}
use Rattle.host_trait.specs.declared.entry.Act.TheVariants as act
use Rattle.host_trait.specs.declared.unit_state.State.{State}
use Rattle.host_trait.specs.declared.unit_state.State.TheVariants as state
use Rattle.manager_core.specs.declared.line.Line.{Line}
use Rattle.manager_core.specs.declared.line.Line.TheVariants as line
use Rattle.manager_core.specs.declared.line.Word.{Word}
use Rattle.manager_core.specs.declared.line.Word.TheVariants.{Loaded, Active, Failed, Bad, Stop, Reload, Restart, Start}
use Rattle.manager_core.specs.Reading.{all_words, both, entry_said, line_of, parted, said, state_said, text_of, unit_and_text, word_of, word_text}
use Rattle.host_trait.specs.Words.{act_word, state_word}
use Rattle.manager_core.specs.StateText.{IsLine, IsText, line_text}
use Rattle.manager_core.proofs.Names.{HasNo, name_has_no, name_is_read, text_has_no, text_is, text_is_read, unit_is}
use Rattle.manager_core.proofs.Parts.{parted_joined, parted_parts}

-- ---- what is said is read

-- a word and what follows it
after_word : (word : Word) (rest : List ℕ) → HasNo 32 (word_text word) → word_of (word_text word) ≡ Some word → line_of (word_text word ++ 32 ∷ rest) ≡ said word rest
after_word word rest none is =
    ap (λ parts. option_map_or (λ p. option_map_or (λ w. said w p.1) (word_of p.0) None) parts None) (parted_joined 32 (word_text word) rest none)
    ∙ ap (λ w. option_map_or (λ w. said w rest) w None) is

both_read : (unit text : List ℕ) → IsUnitName unit → IsText text → unit_and_text (unit ++ 32 ∷ text) ≡ Some (unit, text)
both_read unit text is_unit is_text =
    ap (λ parts. option_map_or (λ p. both (named_unit p.0) (text_of p.1)) parts None) (parted_joined 32 unit text (name_has_no 32 refl unit is_unit))
    ∙ ap (λ u. both u (text_of text)) (name_is_read unit is_unit) ∙ ap (both (Some unit)) (text_is_read text is_text)

state_is_read : (unit : List ℕ) (one : State) → IsUnitName unit → one ≢ state.Inactive → line_of (state_word one ++ 32 ∷ unit) ≡ Some (line.State (record { unit = unit; state = one }))
state_is_read unit state.Active is other = after_word Active unit (search rules) refl ∙ ap (option_map (λ u. line.State (record { unit = u; state = state.Active }))) (name_is_read unit is)
state_is_read unit state.Failed is other = after_word Failed unit (search rules) refl ∙ ap (option_map (λ u. line.State (record { unit = u; state = state.Failed }))) (name_is_read unit is)
state_is_read unit state.Inactive is other = absurd (other refl)

entry_read : (unit text : List ℕ) (one : Act) → IsUnitName unit → IsText text → entry_said one (unit ++ 32 ∷ text) ≡ Some (line.Entry (record { unit = unit; act = one; loaded = text }))
entry_read unit text one is_unit is_text = ap (option_map (λ r. line.Entry (record { unit = r.0; act = one; loaded = r.1 }))) (both_read unit text is_unit is_text)

entry_is_read : (unit text : List ℕ) (one : Act) → IsUnitName unit → IsText text → line_of (act_word one ++ 32 ∷ (unit ++ 32 ∷ text)) ≡ Some (line.Entry (record { unit = unit; act = one; loaded = text }))
entry_is_read unit text act.Stop u t = after_word Stop (unit ++ 32 ∷ text) (search rules) refl ∙ entry_read unit text act.Stop u t
entry_is_read unit text act.Reload u t = after_word Reload (unit ++ 32 ∷ text) (search rules) refl ∙ entry_read unit text act.Reload u t
entry_is_read unit text act.Restart u t = after_word Restart (unit ++ 32 ∷ text) (search rules) refl ∙ entry_read unit text act.Restart u t
entry_is_read unit text act.Start u t = after_word Start (unit ++ 32 ∷ text) (search rules) refl ∙ entry_read unit text act.Start u t

-- each line is read as what it says
pub line_is_read : (one : Line) → IsLine one → line_of (line_text one) ≡ Some one
line_is_read (line.Loaded text) is = after_word Loaded text (search rules) refl ∙ ap (option_map line.Loaded) (text_is_read text is)
line_is_read (line.State one) is = state_is_read one.unit one.state is.0 is.1
line_is_read (line.Bad one) is =
    after_word Bad (one.unit ++ 32 ∷ one.loaded) (search rules) refl
    ∙ ap (option_map (λ r. line.Bad (record { loaded = r.1; unit = r.0 }))) (both_read one.unit one.loaded is.0 is.1)
line_is_read (line.Entry one) is = entry_is_read one.unit one.loaded one.act is.0 is.1

-- ---- what is read was said

find_word : (text : List ℕ) (words : List Word) (word : Word) → find (λ w. pointwise nat_eq (word_text w) text) words ≡ Some word → word_text word ≡ text
find_word text [] word is = absurd (let n : None ≡ Some word = is in cc)
find_word text (w ∷ words) word is =
    elim (pointwise nat_eq (word_text w) text) as (λ b. pointwise nat_eq (word_text w) text ≡ b
    → cond b (Some w) (find (λ w. pointwise nat_eq (word_text w) text) words) ≡ Some word → word_text word ≡ text) [
      | true ↦ λ e i. let same : w ≡ word = cc in subst (λ v. word_text v ≡ text) same (same_text _ _ (sym e))
      | false ↦ λ e i. find_word text words word i
    ] refl is

mapped : {X Y : Type 0} (f : X → Y) (o : Option X) (y : Y) → option_map f o ≡ Some y → (x : X) × (o ≡ Some x) × (f x ≡ y)
mapped f None y is = absurd (let n : None ≡ Some y = is in cc)
mapped f (Some x) y is = (x, refl, let same : f x ≡ y = cc in same)

both_is : (rest : List ℕ) (parts : List ℕ × List ℕ) → unit_and_text rest ≡ Some parts → (rest ≡ parts.0 ++ 32 ∷ parts.1) × IsUnitName parts.0 × IsText parts.1
both_is rest parts is =
    elim (parted 32 rest) as (λ o. parted 32 rest ≡ o → option_map_or (λ p. both (named_unit p.0) (text_of p.1)) o None ≡ Some parts
    → (rest ≡ parts.0 ++ 32 ∷ parts.1) × IsUnitName parts.0 × IsText parts.1) [
      | None ↦ λ e i. absurd (let n : None ≡ Some parts = i in cc)
      | Some p ↦ λ e i. elim (named_unit p.0) as (λ u. named_unit p.0 ≡ u → both u (text_of p.1) ≡ Some parts → (rest ≡ parts.0 ++ 32 ∷ parts.1) × IsUnitName parts.0 × IsText parts.1) [
        | None ↦ λ f j. absurd (let n : None ≡ Some parts = j in cc)
        | Some unit ↦ λ f j. elim (text_of p.1) as (λ t. text_of p.1 ≡ t → both (Some unit) t ≡ Some parts → (rest ≡ parts.0 ++ 32 ∷ parts.1) × IsUnitName parts.0 × IsText parts.1) [
          | None ↦ λ g k. absurd (let n : None ≡ Some parts = k in cc)
          | Some text ↦ λ g k.
              let same : (unit, text) ≡ parts = cc in
              let unit_of_it = unit_is p.0 unit f in
              let text_of_it = text_is p.1 text g in
              let whole : rest ≡ unit ++ 32 ∷ text = (parted_parts 32 rest p e).0 ∙ (λ i. unit_of_it.0 i ++ 32 ∷ text_of_it.0 i) in
              subst (λ q. (rest ≡ q.0 ++ 32 ∷ q.1) × IsUnitName q.0 × IsText q.1) same (whole, unit_of_it.1, text_of_it.1)
        ] refl j
      ] refl i
    ] refl is

state_said_is : (one : State) (rest : List ℕ) (says : Line) → one ≢ state.Inactive → state_said one rest ≡ Some says → (state_word one ++ 32 ∷ rest ≡ line_text says) × IsLine says
state_said_is one rest says other is =
    let read = mapped (λ u. line.State (record { unit = u; state = one })) (named_unit rest) says is in
    let unit = unit_is rest read.0 read.1 in
    subst (λ l. (state_word one ++ 32 ∷ rest ≡ line_text l) × IsLine l) read.2 (ap (λ r. state_word one ++ 32 ∷ r) unit.0, (unit.1, other))

entry_said_is : (one : Act) (rest : List ℕ) (says : Line) → entry_said one rest ≡ Some says → (act_word one ++ 32 ∷ rest ≡ line_text says) × IsLine says
entry_said_is one rest says is =
    let read = mapped (λ r. line.Entry (record { unit = r.0; act = one; loaded = r.1 })) (unit_and_text rest) says is in
    let parts = both_is rest read.0 read.1 in
    subst (λ l. (act_word one ++ 32 ∷ rest ≡ line_text l) × IsLine l) read.2 (ap (λ r. act_word one ++ 32 ∷ r) parts.0, (parts.1, parts.2))

said_is : (word : Word) (rest : List ℕ) (says : Line) → said word rest ≡ Some says → (word_text word ++ 32 ∷ rest ≡ line_text says) × IsLine says
said_is Loaded rest says is =
    let read = mapped line.Loaded (text_of rest) says is in
    let text = text_is rest read.0 read.1 in
    subst (λ l. (codes "loaded" ++ 32 ∷ rest ≡ line_text l) × IsLine l) read.2 (ap (λ r. codes "loaded" ++ 32 ∷ r) text.0, text.1)
said_is Active rest says is = state_said_is state.Active rest says (λ e. cc) is
said_is Failed rest says is = state_said_is state.Failed rest says (λ e. cc) is
said_is Bad rest says is =
    let read = mapped (λ r. line.Bad (record { loaded = r.1; unit = r.0 })) (unit_and_text rest) says is in
    let parts = both_is rest read.0 read.1 in
    subst (λ l. (codes "bad" ++ 32 ∷ rest ≡ line_text l) × IsLine l) read.2 (ap (λ r. codes "bad" ++ 32 ∷ r) parts.0, (parts.1, parts.2))
said_is Stop rest says is = entry_said_is act.Stop rest says is
said_is Reload rest says is = entry_said_is act.Reload rest says is
said_is Restart rest says is = entry_said_is act.Restart rest says is
said_is Start rest says is = entry_said_is act.Start rest says is

-- what a line is read as is what it says
pub line_is : (bytes : List ℕ) (says : Line) → line_of bytes ≡ Some says → (bytes ≡ line_text says) × IsLine says
line_is bytes says is =
    elim (parted 32 bytes) as (λ o. parted 32 bytes ≡ o → option_map_or (λ p. option_map_or (λ w. said w p.1) (word_of p.0) None) o None ≡ Some says → (bytes ≡ line_text says) × IsLine says) [
      | None ↦ λ e i. absurd (let n : None ≡ Some says = i in cc)
      | Some p ↦ λ e i. elim (word_of p.0) as (λ o. word_of p.0 ≡ o → option_map_or (λ w. said w p.1) o None ≡ Some says → (bytes ≡ line_text says) × IsLine says) [
        | None ↦ λ f j. absurd (let n : None ≡ Some says = j in cc)
        | Some word ↦ λ f j.
            let line = said_is word p.1 says j in
            ((parted_parts 32 bytes p e).0 ∙ ap (λ w. w ++ 32 ∷ p.1) (sym (find_word p.0 all_words word f)) ∙ line.0, line.1)
      ] refl i
    ] refl is

-- ---- a line has no line feed

pub joined_has_no : (mark : ℕ) (x y : List ℕ) → HasNo mark x → HasNo mark y → HasNo mark (x ++ y)
joined_has_no mark [] y no_x no_y = no_y
joined_has_no mark (byte ∷ x) y no_x no_y = (no_x.0, joined_has_no mark x y no_x.1 no_y)

state_word_has_no : (one : State) → HasNo 10 (state_word one)
state_word_has_no state.Active = search rules
state_word_has_no state.Inactive = search rules
state_word_has_no state.Failed = search rules

act_word_has_no : (one : Act) → HasNo 10 (act_word one)
act_word_has_no act.Stop = search rules
act_word_has_no act.Reload = search rules
act_word_has_no act.Restart = search rules
act_word_has_no act.Start = search rules

both_has_no : (unit text : List ℕ) → IsUnitName unit → IsText text → HasNo 10 (32 ∷ (unit ++ 32 ∷ text))
both_has_no unit text is_unit is_text = (refl, joined_has_no 10 unit (32 ∷ text) (name_has_no 10 refl unit is_unit) (refl, text_has_no 10 refl text is_text.plain))

pub line_has_no : (one : Line) → IsLine one → HasNo 10 (line_text one)
line_has_no (line.Loaded text) is = joined_has_no 10 (codes "loaded ") text (search rules) (text_has_no 10 refl text is.plain)
line_has_no (line.State one) is = joined_has_no 10 (state_word one.state) (32 ∷ one.unit) (state_word_has_no one.state) (refl, name_has_no 10 refl one.unit is.0)
line_has_no (line.Bad one) is = joined_has_no 10 (codes "bad") (32 ∷ (one.unit ++ 32 ∷ one.loaded)) (search rules) (both_has_no one.unit one.loaded is.0 is.1)
line_has_no (line.Entry one) is = joined_has_no 10 (act_word one.act) (32 ∷ (one.unit ++ 32 ∷ one.loaded)) (act_word_has_no one.act) (both_has_no one.unit one.loaded is.0 is.1)
