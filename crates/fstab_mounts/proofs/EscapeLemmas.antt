-- Paths as they stand in the names of units.
use Rattle.std.proofs.Common.{◌≡◌, ℕ, zero, suc, ◌+◌, ◌/◌, ◌%◌, ◌<◌, ◌≤◌, ◌||◌, ◌==◌, Bool, true, false, not, cond, List, [], ◌∷◌, ◌++◌, length, get_or, filter, None, Some, is_none, nat_lt, refl, sym, ap, ◌∙◌, append_assoc, append-nil, length-append, arith}
use Rattle.std.proofs.lemmas.Bool.{false≢true}
use Rattle.std.proofs.lemmas.Bool.Decides.{nat_tests}
use Rattle.std.proofs.lemmas.List.Concat.{flat_map-append}
use Rattle.std.proofs.lemmas.List.Elements.{All-from_recursion, filter-append}
use Rattle.std.specs.Char.{digit_char, is_ascii_alphanumeric}
use Rattle.std.specs.List.{AllByRecursion, flat_map, onto_first, slice_split}
use Rattle.switch_names.specs.Path.{names_of}
use Rattle.switch_names.specs.UnitKind.{ending_of}
use Rattle.switch_names.specs.UnitName.{is_no_unit_byte, unit_fault, named_unit}
use Rattle.switch_names.specs.declared.name_fault.NameFault.{NameFault}
use Rattle.switch_names.specs.declared.unit_kind.UnitKind.{UnitKind}
use Rattle.switch_names.specs.Texts.{is_empty}
use Rattle.switch_names.proofs.UnitNames.{IsShortName-from_name, IsUnitName-from_stem}
use Rattle.switch_names.proofs.Lists.{all_join}
use Rattle.fstab_mounts.specs.Escape.{escaped, escaped_byte, escaped_first, escaped_path, in_digits, is_plain, is_some_name, joined, path_names, path_unit, short_name, with_name}

-- ---- names are joined one by one

not_empty : (x : ℕ) (xs : List ℕ) → is_empty (x ∷ xs) ≡ false
not_empty x xs = grind (arith, nat_tests)

empty_is : (xs : List ℕ) → is_empty xs ≡ true → xs ≡ []
empty_is [] e = refl
empty_is (x ∷ xs) e = absurd (false≢true (sym (not_empty x xs) ∙ e))

byte_some : (byte : ℕ) (dot plain : Bool) (more : List ℕ) → is_empty (cond dot (in_digits byte) (cond plain (byte ∷ []) (in_digits byte)) ++ more) ≡ false
byte_some byte true plain more = not_empty 92 (120 ∷ digit_char (byte / 16) ∷ digit_char (byte % 16) ∷ more)
byte_some byte false true more = not_empty byte more
byte_some byte false false more = not_empty 92 (120 ∷ digit_char (byte / 16) ∷ digit_char (byte % 16) ∷ more)

-- the names before a further one aren't empty together
joined_some : (name : List ℕ) (rest : List (List ℕ)) → is_some_name name ≡ true → is_empty (joined (name ∷ rest)) ≡ false
joined_some [] rest some = absurd (false≢true some)
joined_some (byte ∷ name) rest some =
    ap is_empty (append_assoc (cond (byte == 46) (in_digits byte) (escaped_byte byte)) (escaped name) (flat_map (λ n. 45 ∷ escaped n) rest))
    ∙ byte_some byte (byte == 46) (is_plain byte) (escaped name ++ flat_map (λ n. 45 ∷ escaped n) rest)

all_some : (xs : List (List ℕ)) → AllByRecursion (λ name. is_some_name name ≡ true) (filter is_some_name xs)
all_some [] = tt
all_some (x ∷ xs) = elim (is_some_name x) as (λ b. is_some_name x ≡ b → AllByRecursion (λ name. is_some_name name ≡ true) (cond b (x ∷ filter is_some_name xs) (filter is_some_name xs))) [
  | true ↦ λ e. (e, all_some xs)
  | false ↦ λ e. all_some xs
] refl

next_name : (names : List (List ℕ)) (name : List ℕ) → AllByRecursion (λ n. is_some_name n ≡ true) names → is_empty name ≡ false →
    with_name (joined names) name ≡ joined (names ++ name ∷ [])
next_name [] name all some = ap (λ b. cond b [] (escaped_first name)) some ∙ sym (append-nil (escaped_first name))
next_name (first ∷ names) name all some =
    ap (λ b. cond b (joined (first ∷ names)) (cond (is_empty (joined (first ∷ names))) (escaped_first name) (joined (first ∷ names) ++ 45 ∷ escaped name))) some
    ∙ ap (λ b. cond b (escaped_first name) (joined (first ∷ names) ++ 45 ∷ escaped name)) (joined_some first names all.0)
    ∙ append_assoc (escaped_first first) (flat_map (λ n. 45 ∷ escaped n) names) (45 ∷ escaped name)
    ∙ ap (λ l. escaped_first first ++ (flat_map (λ n. 45 ∷ escaped n) names ++ 45 ∷ l)) (sym (append-nil (escaped name)))
    ∙ ap (λ l. escaped_first first ++ l) (sym (flat_map-append (λ n. 45 ∷ escaped n) names (name ∷ [])))

-- one more part of a path
pub part_joins : (parts : List (List ℕ)) (name : List ℕ) → with_name (joined (filter is_some_name parts)) name ≡ joined (filter is_some_name (parts ++ name ∷ []))
part_joins parts name =
    elim (is_empty name) as (λ b. is_empty name ≡ b → with_name (joined (filter is_some_name parts)) name ≡ joined (filter is_some_name parts ++ cond (not b) (name ∷ []) [])) [
      | true ↦ λ e. ap (λ b. cond b (joined (filter is_some_name parts)) (cond (is_empty (joined (filter is_some_name parts))) (escaped_first name) (joined (filter is_some_name parts) ++ 45 ∷ escaped name))) e
          ∙ ap joined (sym (append-nil (filter is_some_name parts)))
      | false ↦ λ e. next_name (filter is_some_name parts) name (all_some parts) e
    ] refl
    ∙ ap joined (sym (filter-append is_some_name parts (name ∷ [])))

-- the names of a path, where there are some
pub path_some : (path text : List ℕ) → text ≡ joined (path_names path) → is_empty text ≡ false → text ≡ escaped_path path
path_some path text is some = is ∙ sym (ap (λ b. cond b (45 ∷ []) (joined (path_names path))) (ap is_empty (sym is) ∙ some))

-- and where there are none
pub path_none : (path text : List ℕ) → text ≡ joined (path_names path) → is_empty text ≡ true → text ++ 45 ∷ [] ≡ escaped_path path
path_none path text is none =
    ap (λ t. t ++ 45 ∷ []) (empty_is text none) ∙ sym (ap (λ b. cond b (45 ∷ []) (joined (path_names path))) (ap is_empty (sym is) ∙ none))

-- ---- all bytes stand in names of units

abbrev IsByte : ℕ → Type 0
IsByte byte = is_no_unit_byte byte ≡ false

abbrev AreBytes : List ℕ → Type 0
AreBytes text = AllByRecursion IsByte text

abbrev IsSmall : ℕ → Type 0
IsSmall byte = byte < 256

signs : (a p s q r t u : Bool) → (a || (p || (q || (r || false)))) ≡ true → not (a || (p || (s || (q || (r || (t || (u || false))))))) ≡ false
signs true p s q r t u h = refl
signs false true s q r t u h = refl
signs false false true q r t u h = refl
signs false false false true r t u h = refl
signs false false false false true t u h = refl
signs false false false false false t u h = absurd (false≢true h)

plain_byte : (byte : ℕ) → is_plain byte ≡ true → IsByte byte
plain_byte byte h = signs (is_ascii_alphanumeric byte) (byte == 58) (byte == 45) (byte == 95) (byte == 46) (byte == 92) (byte == 64) h

hex_byte : (d : ℕ) → d < 16 → IsByte (digit_char d)
hex_byte zero h = refl
hex_byte (suc zero) h = refl
hex_byte (suc (suc zero)) h = refl
hex_byte (suc (suc (suc zero))) h = refl
hex_byte (suc (suc (suc (suc zero)))) h = refl
hex_byte (suc (suc (suc (suc (suc zero))))) h = refl
hex_byte (suc (suc (suc (suc (suc (suc zero)))))) h = refl
hex_byte (suc (suc (suc (suc (suc (suc (suc zero))))))) h = refl
hex_byte (suc (suc (suc (suc (suc (suc (suc (suc zero)))))))) h = refl
hex_byte (suc (suc (suc (suc (suc (suc (suc (suc (suc zero))))))))) h = refl
hex_byte (suc (suc (suc (suc (suc (suc (suc (suc (suc (suc zero)))))))))) h = refl
hex_byte (suc (suc (suc (suc (suc (suc (suc (suc (suc (suc (suc zero))))))))))) h = refl
hex_byte (suc (suc (suc (suc (suc (suc (suc (suc (suc (suc (suc (suc zero)))))))))))) h = refl
hex_byte (suc (suc (suc (suc (suc (suc (suc (suc (suc (suc (suc (suc (suc zero))))))))))))) h = refl
hex_byte (suc (suc (suc (suc (suc (suc (suc (suc (suc (suc (suc (suc (suc (suc zero)))))))))))))) h = refl
hex_byte (suc (suc (suc (suc (suc (suc (suc (suc (suc (suc (suc (suc (suc (suc (suc zero))))))))))))))) h = refl
hex_byte (suc (suc (suc (suc (suc (suc (suc (suc (suc (suc (suc (suc (suc (suc (suc (suc d)))))))))))))))) h = absurd (omega arith)

digits_bytes : (byte : ℕ) → IsSmall byte → AreBytes (in_digits byte)
digits_bytes byte small = (refl, (refl, (hex_byte (byte / 16) (omega arith), (hex_byte (byte % 16) (omega arith), tt))))

byte_bytes : (byte : ℕ) → IsSmall byte → AreBytes (escaped_byte byte)
byte_bytes byte small = elim (is_plain byte) as (λ b. is_plain byte ≡ b → AreBytes (cond b (byte ∷ []) (in_digits byte))) [
  | true ↦ λ e. (plain_byte byte e, tt)
  | false ↦ λ e. digits_bytes byte small
] refl

name_bytes : (name : List ℕ) → AllByRecursion IsSmall name → AreBytes (escaped name)
name_bytes [] all = tt
name_bytes (byte ∷ name) all = all_join IsByte (escaped_byte byte) (escaped name) (byte_bytes byte all.0) (name_bytes name all.1)

first_bytes : (name : List ℕ) → AllByRecursion IsSmall name → AreBytes (escaped_first name)
first_bytes [] all = tt
first_bytes (byte ∷ name) all =
    all_join IsByte (cond (byte == 46) (in_digits byte) (escaped_byte byte)) (escaped name)
    (elim (byte == 46) as (λ b. AreBytes (cond b (in_digits byte) (escaped_byte byte))) [ true ↦ digits_bytes byte all.0 | false ↦ byte_bytes byte all.0 ])
    (name_bytes name all.1)

rest_bytes : (names : List (List ℕ)) → AllByRecursion (AllByRecursion IsSmall) names → AreBytes (flat_map (λ n. 45 ∷ escaped n) names)
rest_bytes [] all = tt
rest_bytes (name ∷ names) all = all_join IsByte (45 ∷ escaped name) (flat_map (λ n. 45 ∷ escaped n) names) (refl, name_bytes name all.0) (rest_bytes names all.1)

joined_bytes : (names : List (List ℕ)) → AllByRecursion (AllByRecursion IsSmall) names → AreBytes (joined names)
joined_bytes [] all = tt
joined_bytes (first ∷ names) all = all_join IsByte (escaped_first first) (flat_map (λ n. 45 ∷ escaped n) names) (first_bytes first all.0) (rest_bytes names all.1)

onto_small : (byte : ℕ) (parts : List (List ℕ)) → IsSmall byte → AllByRecursion (AllByRecursion IsSmall) parts → AllByRecursion (AllByRecursion IsSmall) (onto_first byte parts)
onto_small byte [] small all = ((small, tt), tt)
onto_small byte (part ∷ parts) small all = ((small, all.0), all.1)

split_small : (p : ℕ → Bool) (path : List ℕ) → AllByRecursion IsSmall path → AllByRecursion (AllByRecursion IsSmall) (slice_split p path)
split_small p [] all = (tt, tt)
split_small p (byte ∷ path) all = elim (p byte) as (λ b. AllByRecursion (AllByRecursion IsSmall) (cond b ([] ∷ slice_split p path) (onto_first byte (slice_split p path)))) [
  | true ↦ (tt, split_small p path all.1)
  | false ↦ onto_small byte (slice_split p path) all.0 (split_small p path all.1)
]

filter_small : (names : List (List ℕ)) → AllByRecursion (AllByRecursion IsSmall) names → AllByRecursion (AllByRecursion IsSmall) (filter is_some_name names)
filter_small [] all = tt
filter_small (name ∷ names) all = elim (is_some_name name) as (λ b. AllByRecursion (AllByRecursion IsSmall) (cond b (name ∷ filter is_some_name names) (filter is_some_name names))) [
  | true ↦ (all.0, filter_small names all.1)
  | false ↦ filter_small names all.1
]

path_bytes : (path : List ℕ) → AllByRecursion IsSmall path → AreBytes (escaped_path path)
path_bytes path all = elim (is_empty (joined (path_names path))) as (λ b. AreBytes (cond b (45 ∷ []) (joined (path_names path)))) [
  | true ↦ (refl, tt)
  | false ↦ joined_bytes (path_names path) (filter_small (names_of path) (split_small (λ byte. byte == 47) path all))
]

some_length : (xs : List ℕ) → is_empty xs ≡ false → 0 < length xs
some_length xs h = grind (arith, nat_tests)

path_length : (path : List ℕ) → 0 < length (escaped_path path)
path_length path = elim (is_empty (joined (path_names path))) as (λ b. is_empty (joined (path_names path)) ≡ b → 0 < length (cond b (45 ∷ []) (joined (path_names path)))) [
  | true ↦ λ e. omega arith
  | false ↦ λ e. some_length (joined (path_names path)) e
] refl

pub small_bytes : (path : List ℕ) → ((i : ℕ) → get_or path i 0 < 256) → AllByRecursion IsSmall path
small_bytes [] h = tt
small_bytes (byte ∷ path) h = (h 0, small_bytes path (λ i. h (suc i)))

-- a name that is refused is too long
no_short : (path : List ℕ) (kind : UnitKind) (fault : NameFault) → AllByRecursion IsSmall path → unit_fault (path_unit kind path) ≡ Some fault → None ≡ short_name (path_unit kind path)
no_short path kind fault all is =
    elim (nat_lt 255 (length (path_unit kind path))) as (λ b. nat_lt 255 (length (path_unit kind path)) ≡ b → None ≡ cond b None (Some (path_unit kind path))) [
      | true ↦ λ e. refl
      | false ↦ λ e.
          let len : length (path_unit kind path) ≡ length (escaped_path path) + length (ending_of kind) = length-append (escaped_path path) (ending_of kind) in
          let short : length (escaped_path path) + length (ending_of kind) ≤ 255 = grind (arith, nat_tests) in
          let none : unit_fault (path_unit kind path) ≡ None =
          IsUnitName-from_stem (escaped_path path) kind (path_length path) short (All-from_recursion IsByte (escaped_path path) (path_bytes path all)) in
          absurd (let no : None ≡ Some fault = sym none ∙ is in cc)
    ] refl

-- what a path's text names
pub named_is : (path : List ℕ) (kind : UnitKind) → AllByRecursion IsSmall path → named_unit (path_unit kind path) ≡ short_name (path_unit kind path)
named_is path kind all = elim (unit_fault (path_unit kind path)) as (λ o. unit_fault (path_unit kind path) ≡ o → cond (is_none o) (Some (path_unit kind path)) None ≡ short_name (path_unit kind path)) [
  | None ↦ λ e.
      let short = (IsShortName-from_name (path_unit kind path) e).short in
      let test : nat_lt 255 (length (path_unit kind path)) ≡ false = grind (arith, nat_tests) in
      sym (ap (λ b. cond b None (Some (path_unit kind path))) test)
  | Some fault ↦ λ e. no_short path kind fault all e
] refl
