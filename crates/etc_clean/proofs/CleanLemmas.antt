-- Names among the lines of a clean list.
use Rattle.std.proofs.Common.{◌≡◌, ◌==◌, ◌&&◌, ◌∷◌, ◌++◌, ◌+◌, ◌<◌, ℕ, get_or, take, not, Bool, true, false, cond, nat_lt, length, List, [], Option, None, Some, is_none, option_map, position, filter, refl, sym, ap, subst, ◌∙◌}
use Rattle.std.specs.Prelude.{if◌then◌else◌}
use Rattle.std.specs.Str.{IsUtf8, is_utf8}
use Rattle.std.specs.List.{AllByRecursion, list_any, slice_split}
use Rattle.std.proofs.lemmas.Bool.{and_parts, both_ways, false_from_ne_true}
use Rattle.std.proofs.lemmas.Bool.Decides.{Decides-eqb}
use Rattle.std.proofs.lemmas.List.{append_assoc, take_more}
use Rattle.std.proofs.lemmas.List.Elements.{All-weaker}
use Rattle.std.proofs.lemmas.List.Splits.{slice_split_at}
use Rattle.std.proofs.lemmas.Str.{IsUtf8-from_is_utf8, is_utf8-from_IsUtf8}
use Rattle.std.proofs.Math.Bool.{and-false}
use Rattle.switch_names.specs.declared.name_fault.NameFault.{NameFault}
use Rattle.switch_names.specs.declared.name_fault.NameFault.TheVariants.{Byte, Dot}
use Rattle.switch_names.specs.Names.{Name}
use Rattle.switch_names.specs.Path.{is_dots, is_no_path_byte, named_path, names_of, path_fault}
use Rattle.switch_names.specs.Texts.{is_empty, is_line_feed}
use Rattle.switch_names.proofs.Faultless.{HasNone-from_sought, no_place}
use Rattle.switch_names.proofs.Positions.{All-from_no_position}
use Rattle.switch_names.proofs.Outcomes.{none_from_test}
use Rattle.etc_manifest.specs.Place.{is_reserved}
use Rattle.etc_clean.specs.CleanList.{AreCleanNames, ReadBackLaw, clean_text, is_clean_name, is_path_text}

-- bytes that aren't UTF-8 are no path
pub no_path : (line : List ℕ) → ¬ IsUtf8 line → is_path_text line ≡ false
unfolding is_path_text
no_path line bad = ap (λ b. b && is_none (path_fault line)) (false_from_ne_true (is_utf8 line) (λ is. bad (IsUtf8-from_is_utf8 line is)))

path_by : (line : List ℕ) (fault : Option NameFault) → IsUtf8 line → path_fault line ≡ fault → is_path_text line ≡ is_none fault
unfolding is_path_text
path_by line fault good is = ap (λ b. b && is_none (path_fault line)) (is_utf8-from_IsUtf8 line good) ∙ ap (λ (o : Option NameFault). is_none o) is

-- a line is read as the path that its text names
pub read_as_text : (line text : List ℕ) (path : Option (List ℕ)) → text ≡ line → IsUtf8 line → path ≡ named_path text → path ≡ (if is_path_text line then Some line else None)
read_as_text line text path same good is =
    is ∙ ap named_path same ∙ sym (ap (λ b. if b then Some line else None) (path_by line (path_fault line) good refl))

-- ---- what is written is read

no_line : (byte : ℕ) → is_no_path_byte byte ≡ false → is_line_feed byte ≡ false
no_line byte passes =
    false_from_ne_true (is_line_feed byte)
    (λ is. let ten : byte ≡ 10 = (Decides-eqb byte 10).0 is in both_ways (is_no_path_byte 10) (subst (λ b. is_no_path_byte b ≡ false) ten passes) refl)

path_of_clean : (name : Name) → is_clean_name name ≡ true → path_fault name ≡ None
unfolding is_path_text
path_of_clean name is =
    none_from_test (path_fault name) (and_parts (is_utf8 name) (is_none (path_fault name)) (and_parts (is_utf8 name && is_none (path_fault name)) (not (is_reserved name)) is).0).1

clean_bytes : (name : Name) → is_clean_name name ≡ true → Rattle.std.proofs.Common.All (λ byte. is_no_path_byte byte ≡ false) name
clean_bytes name is =
    All-from_no_position is_no_path_byte name
    (no_place Byte (position is_no_path_byte name)
    (HasNone-from_sought (list_any is_empty (names_of name)) (nat_lt 4096 (length name)) (option_map Byte (position is_no_path_byte name)) (list_any is_dots (names_of name)) Dot (path_of_clean name is)).no_byte)

-- the lines of a list are its names, and then nothing
pub split_list : (name : Name) (names : List Name) → Rattle.std.proofs.Common.All (λ byte. is_line_feed byte ≡ false) name → slice_split is_line_feed (clean_text (name ∷ names)) ≡ name ∷ slice_split is_line_feed (clean_text names)
split_list name names plain =
    ap (slice_split is_line_feed) (append_assoc name (10 ∷ []) (clean_text names)) ∙ slice_split_at is_line_feed name 10 (clean_text names) plain refl

-- a path has no line feed
pub no_line_feed : (name : Name) → Rattle.std.proofs.Common.All (λ byte. is_no_path_byte byte ≡ false) name → Rattle.std.proofs.Common.All (λ byte. is_line_feed byte ≡ false) name
no_line_feed name bytes = All-weaker (λ byte. is_no_path_byte byte ≡ false) (λ byte. is_line_feed byte ≡ false) no_line name bytes

pub blank_line : is_clean_name [] ≡ false
unfolding is_path_text
blank_line = ap (λ b. b && not (is_reserved [])) (and-false (is_utf8 []))

named : (name : Name) (names : List Name) → is_clean_name name ≡ true → filter is_clean_name (name ∷ names) ≡ name ∷ filter is_clean_name names
named name names is = ap (λ b. cond b (name ∷ filter is_clean_name names) (filter is_clean_name names)) is

pub read_back_law : ReadBackLaw
read_back_law [] all = ap (λ b. cond b ([] ∷ []) []) blank_line
read_back_law (name ∷ names) all =
    ap (filter is_clean_name) (split_list name names (no_line_feed name (clean_bytes name all.0))) ∙ named name (slice_split is_line_feed (clean_text names)) all.0 ∙ ap (λ ns. name ∷ ns) (read_back_law names all.1)

pub path_is : (name : Name) → IsUtf8 name → path_fault name ≡ None → is_path_text name ≡ true
path_is name good is = path_by name None good is

-- paths of which none is reserved are names of a clean list
pub clean_all : (names : List Name) → AllByRecursion (λ name. is_path_text name ≡ true) names → AllByRecursion (λ name. is_reserved name ≡ false) names → AreCleanNames names
clean_all [] paths free = tt
clean_all (name ∷ names) paths free = (ap (λ b. b && not (is_reserved name)) paths.0 ∙ ap not free.0, clean_all names paths.1 free.1)

-- one more of some names is a path
pub paths_more : (front : List Name) (name : Name) → AllByRecursion (λ x. is_path_text x ≡ true) front → is_path_text name ≡ true → AllByRecursion (λ x. is_path_text x ≡ true) (front ++ name ∷ [])
paths_more [] name all is = (is, tt)
paths_more (x ∷ front) name all is = (all.0, paths_more front name all.1 is)

pub paths_next : (names : List Name) (i : ℕ) (name : Name) → i < length names → name ≡ get_or names i name → AllByRecursion (λ x. is_path_text x ≡ true) (take i names) → is_path_text name ≡ true →
    AllByRecursion (λ x. is_path_text x ≡ true) (take (i + 1) names)
paths_next names i name inside is all path =
    subst (AllByRecursion (λ x. is_path_text x ≡ true)) (sym (take_more names i name inside ∙ ap (λ p. take i names ++ p ∷ []) (sym is))) (paths_more (take i names) name all path)
