-- Texts that are cut at a slash: a path, a slash and more.
use Rattle.std.proofs.Common.{◌≡◌, ℕ, ◌+◌, ◌<◌, ◌≤◌, ◌==◌, ◌||◌, Bool, true, false, cond, List, [], ◌∷◌, ◌++◌, length, take, drop, map, Bor, position, nat_lt, Option, None, Some, option_map, refl, sym, ap, ◌∙◌, arith, append_assoc, length-append}
use Rattle.std.specs.List.{All, list_any, onto_first}
use Rattle.std.proofs.lemmas.Bool.{or_parts}
use Rattle.std.proofs.lemmas.List.{drop_at, map-append, take_at}
use Rattle.std.proofs.lemmas.List.Elements.{All-append, All-push, All-same, All-take, All-drop}
use Rattle.std.proofs.lemmas.List.Folds.{list_any-append}
use Rattle.std.proofs.Math.Bool.{or-false}
use Rattle.switch_names.specs.Path.{IsPath, fault_after, is_dots, is_no_path_byte, names_of, path_fault, slash}
use Rattle.switch_names.specs.declared.name_fault.NameFault.TheVariants.{Byte, Dot}
use Rattle.switch_names.specs.Texts.{is_empty}
use Rattle.switch_names.proofs.Faultless.{HasNone, HasNone-from_sought, sought, sought-from_HasNone, no_place}
use Rattle.switch_names.proofs.Positions.{All-from_no_position, no_position-from_All, position_past}

-- ---- the names of both

-- a text has a first name
first_of_names : (text : List ℕ) → (first : List ℕ) × (rest : List (List ℕ)) × (names_of text ≡ first ∷ rest)
first_of_names [] = ([], [], refl)
first_of_names (b ∷ text) = by (b == slash) (first_of_names text)
  where
    by : (c : Bool) → (first : List ℕ) × (rest : List (List ℕ)) × (names_of text ≡ first ∷ rest) →
        (first : List ℕ) × (rest : List (List ℕ)) × (cond c ([] ∷ names_of text) (onto_first b (names_of text)) ≡ first ∷ rest)
    by true names = ([], names_of text, refl)
    by false names = (b ∷ names.0, names.1, ap (onto_first b) names.2)

-- the names of a text that is cut at a slash are those of the two parts
names_of-joined : (folder more : List ℕ) → names_of (folder ++ slash ∷ more) ≡ names_of folder ++ names_of more
names_of-joined [] more = refl
names_of-joined (b ∷ folder) more = by (b == slash) (names_of-joined folder more)
  where
    by : (c : Bool) → names_of (folder ++ slash ∷ more) ≡ names_of folder ++ names_of more →
        cond c ([] ∷ names_of (folder ++ slash ∷ more)) (onto_first b (names_of (folder ++ slash ∷ more))) ≡ cond c ([] ∷ names_of folder) (onto_first b (names_of folder)) ++ names_of more
    by true same = ap (λ names. [] ∷ names) same
    by false same =
        let names = first_of_names folder in
        ap (onto_first b) (same ∙ ap (λ ns. ns ++ names_of more) names.2) ∙ sym (ap (λ ns. onto_first b ns ++ names_of more) names.2)

module _ (p : List ℕ → Bool) (folder more : List ℕ) where
  any_joined : list_any p (names_of (folder ++ slash ∷ more)) ≡ (list_any p (names_of folder) || list_any p (names_of more))
  any_joined = ap (list_any p) (names_of-joined folder more) ∙ list_any-append p (names_of folder) (names_of more)

  -- where no name of the first part passes, one of all does just where one of the second part does
  any_after : list_any p (names_of folder) ≡ false → list_any p (names_of (folder ++ slash ∷ more)) ≡ list_any p (names_of more)
  any_after none = any_joined ∙ ap (λ b. b || list_any p (names_of more)) none

  -- where none of all passes, none of either part does
  none_of_both : list_any p (names_of (folder ++ slash ∷ more)) ≡ false → (list_any p (names_of folder) ≡ false) × (list_any p (names_of more) ≡ false)
  none_of_both none = or_parts (list_any p (names_of folder)) (list_any p (names_of more)) (sym any_joined ∙ none)

-- one name more
pub any_more : (p : List ℕ → Bool) (names : List (Bor (List ℕ))) (name : Bor (List ℕ)) →
    list_any p (map (λ (one : Bor (List ℕ)). one.now) (names ++ name ∷ [])) ≡ (list_any p (map (λ (one : Bor (List ℕ)). one.now) names) || p name.now)
any_more p names name =
    ap (list_any p) (map-append (λ (one : Bor (List ℕ)). one.now) names (name ∷ []))
    ∙ list_any-append p (map (λ (one : Bor (List ℕ)). one.now) names) (name.now ∷ [])
    ∙ ap (λ b. list_any p (map (λ (one : Bor (List ℕ)). one.now) names) || b) (or-false (p name.now))

-- ---- the faults of a path

-- a path has none of the four faults
faultless : (path : List ℕ) → IsPath path → HasNone (list_any is_empty (names_of path)) (nat_lt 4096 (length path)) (option_map Byte (position is_no_path_byte path)) (list_any is_dots (names_of path))
faultless path is =
    HasNone-from_sought (list_any is_empty (names_of path)) (nat_lt 4096 (length path)) (option_map Byte (position is_no_path_byte path)) (list_any is_dots (names_of path)) Dot is

path_bytes : (path : List ℕ) → IsPath path → All (λ byte. is_no_path_byte byte ≡ false) path
path_bytes path is = All-from_no_position is_no_path_byte path (no_place Byte (position is_no_path_byte path) (faultless path is).no_byte)

pub path_short : (path : List ℕ) → IsPath path → length path ≤ 4096
path_short path is = let long = (faultless path is).not_long in grind (arith, long)

-- a text without the four faults is a path
path_from : (text : List ℕ) → list_any is_empty (names_of text) ≡ false → length text ≤ 4096 → All (λ byte. is_no_path_byte byte ≡ false) text → list_any is_dots (names_of text) ≡ false → IsPath text
path_from text full short bytes named =
    sought-from_HasNone (list_any is_empty (names_of text)) (nat_lt 4096 (length text)) (option_map Byte (position is_no_path_byte text)) (list_any is_dots (names_of text)) Dot
    record {
      not_empty = full;
      not_long = grind (arith, short);
      no_byte = ap (option_map Byte) (no_position-from_All is_no_path_byte text bytes);
      not_last = named;
    }

-- what stands after the slash
pub drop_joined : (folder more : List ℕ) → drop (length folder + 1) (folder ++ slash ∷ more) ≡ more
drop_joined folder more =
    ap (drop (length folder + 1)) (sym (append_assoc folder (slash ∷ []) more))
    ∙ drop_at (folder ++ slash ∷ []) more (length folder + 1) (length-append folder (slash ∷ []))

-- both parts of a path that is cut at a slash are paths
pub both_paths : (folder more : List ℕ) → IsPath (folder ++ slash ∷ more) → IsPath folder × IsPath more
both_paths folder more is =
    let whole : List ℕ = folder ++ slash ∷ more in
    let none = faultless whole is in
    let full = none_of_both is_empty folder more none.not_empty in
    let named = none_of_both is_dots folder more none.not_last in
    let len : length whole ≡ length folder + length (slash ∷ more) = length-append folder (slash ∷ more) in
    let short = path_short whole is in
    let front : folder ≡ take (length folder) whole = sym (take_at folder (slash ∷ more) (length folder) refl) in
    let back : more ≡ drop (length folder + 1) whole = sym (drop_joined folder more) in (
      path_from folder full.0 (omega (arith, len, short)) (All-same (λ byte. is_no_path_byte byte ≡ false) folder (take (length folder) whole) front (All-take (λ byte. is_no_path_byte byte ≡ false) (length folder) whole (path_bytes whole is))) named.0,
      path_from more full.1 (omega (arith, len, short)) (All-same (λ byte. is_no_path_byte byte ≡ false) more (drop (length folder + 1) whole) back (All-drop (λ byte. is_no_path_byte byte ≡ false) (length folder + 1) whole (path_bytes whole is))) named.1,
    )

-- a path, a slash and a path are a path, if they aren't too long
pub joined_path : (folder more : List ℕ) → IsPath folder → IsPath more → length folder + length more < 4096 → IsPath (folder ++ slash ∷ more)
joined_path folder more is_front is_back short =
    let front = faultless folder is_front in
    let back = faultless more is_back in
    let bytes = All-append (λ byte. is_no_path_byte byte ≡ false) (folder ++ slash ∷ []) more (All-push (λ byte. is_no_path_byte byte ≡ false) folder slash (path_bytes folder is_front) refl) (path_bytes more is_back) in
    let whole : (folder ++ slash ∷ []) ++ more ≡ folder ++ slash ∷ more = append_assoc folder (slash ∷ []) more in
    path_from (folder ++ slash ∷ more)
    (any_after is_empty folder more front.not_empty ∙ back.not_empty)
    (omega (arith, short, length-append folder (slash ∷ more)))
    (All-same (λ byte. is_no_path_byte byte ≡ false) (folder ++ slash ∷ more) ((folder ++ slash ∷ []) ++ more) (sym whole) bytes)
    (any_after is_dots folder more front.not_last ∙ back.not_last)

-- ---- what is sought in the second part alone

-- the place of the first byte that stands in no path is counted from behind the slash
place_after : (folder more : List ℕ) → IsPath folder →
    option_map (λ at. Byte (length folder + 1 + at)) (position is_no_path_byte more) ≡ option_map Byte (position is_no_path_byte (folder ++ slash ∷ more))
place_after folder more is =
    let front : List ℕ = folder ++ slash ∷ [] in
    let bytes = All-push (λ byte. is_no_path_byte byte ≡ false) folder slash (path_bytes folder is) refl in
    moved (length folder + 1) (length front) (position is_no_path_byte more) (length-append folder (slash ∷ []))
    ∙ ap (option_map Byte) (sym (position_past is_no_path_byte front more bytes) ∙ ap (position is_no_path_byte) (append_assoc folder (slash ∷ []) more))
  where
    moved : (before len : ℕ) (place : Option ℕ) → len ≡ before → option_map (λ at. Byte (before + at)) place ≡ option_map Byte (option_map (λ at. len + at) place)
    moved before len None same = refl
    moved before len (Some at) same = ap (λ n. Some (Byte (n + at))) (sym same)

-- what is found behind a path and a slash is what keeps all of it from being a path
pub fault_joined : (folder more : List ℕ) → IsPath folder → fault_after (length folder + 1) more ≡ path_fault (folder ++ slash ∷ more)
fault_joined folder more is =
    let none = faultless folder is in
    let empty = sym (any_after is_empty folder more none.not_empty) in
    let dots = sym (any_after is_dots folder more none.not_last) in
    let len : length folder + 1 + length more ≡ length (folder ++ slash ∷ more) = omega (arith, length-append folder (slash ∷ more)) in
    let place = place_after folder more is in
    λ i. sought (empty i) (nat_lt 4096 (len i)) (place i) (dots i) Dot

-- with nothing before it, a text has the faults of one that is no path
pub fault_alone : (text : List ℕ) → fault_after 0 text ≡ path_fault text
fault_alone text =
    let len : 0 + length text ≡ length text = omega arith in
    λ i. sought (list_any is_empty (names_of text)) (nat_lt 4096 (len i)) (same (position is_no_path_byte text) i) (list_any is_dots (names_of text)) Dot
  where
    same : (place : Option ℕ) → option_map (λ at. Byte (0 + at)) place ≡ option_map Byte place
    same None = refl
    same (Some at) = let is : 0 + at ≡ at = omega arith in ap (λ n. Some (Byte n)) is
