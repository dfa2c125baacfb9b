-- Fields of lines.
use Rattle.std.proofs.Common.{◌≡◌, ℕ, ◌+◌, ◌<◌, ◌||◌, ◌==◌, Bool, true, false, not, cond, List, [], ◌∷◌, ◌++◌, length, drop, map, codes, nat_eq, Bor, refl, sym, ap, ◌∙◌, subst, suc, arith}
use Rattle.std.proofs.lemmas.Bool.{both_ways}
use Rattle.std.specs.List.{AllByRecursion, before_first, after_first, flat_map, list_any, onto_first, position_or_len, slice_split, starts_with}
use Rattle.fstab_mounts.specs.Escape.{is_some_name}
use Rattle.fstab_mounts.specs.Fields.{fields_of, is_backslash, parts_between, unescaped, unescaped_part}

-- a text has such a byte where its place is within it
any_at : (p : ℕ → Bool) (xs : List ℕ) → position_or_len p xs < length xs → list_any p xs ≡ true
any_at p [] h = absurd (omega arith)
any_at p (x ∷ xs) h = elim (p x) as (λ b. cond (not b) (1 + position_or_len p xs) 0 < suc (length xs) → (b || list_any p xs) ≡ true) [
  | true ↦ λ lt. refl
  | false ↦ λ lt. any_at p xs (omega arith)
] h

none_at : (p : ℕ → Bool) (xs : List ℕ) → position_or_len p xs ≡ length xs → list_any p xs ≡ false
none_at p [] h = refl
none_at p (x ∷ xs) h = elim (p x) as (λ b. cond (not b) (1 + position_or_len p xs) 0 ≡ suc (length xs) → (b || list_any p xs) ≡ false) [
  | true ↦ λ e. absurd (omega arith)
  | false ↦ λ e. none_at p xs (omega arith)
] h

-- a field without a backslash
pub plain_field : (field : List ℕ) → position_or_len is_backslash field ≡ length field → field ≡ unescaped field
plain_field field h =
    sym (ap (λ b. cond b (before_first is_backslash field ++ flat_map unescaped_part (slice_split is_backslash (after_first is_backslash field))) field) (none_at is_backslash field h))

-- a field with one
pub split_field : (field : List ℕ) → position_or_len is_backslash field < length field
    → before_first is_backslash field ++ flat_map unescaped_part (slice_split is_backslash (after_first is_backslash field)) ≡ unescaped field
split_field field h =
    sym (ap (λ b. cond b (before_first is_backslash field ++ flat_map unescaped_part (slice_split is_backslash (after_first is_backslash field))) field) (any_at is_backslash field h))

-- ---- none is empty

part_some : (part : List ℕ) → (c : ℕ) × (rest : List ℕ) × (unescaped_part part ≡ c ∷ rest)
part_some part = by (starts_with nat_eq part (codes "040")) (starts_with nat_eq part (codes "011")) (starts_with nat_eq part (codes "134"))
  where
    by : (a b d : Bool) → (c : ℕ) × (rest : List ℕ) × (cond a (32 ∷ drop 3 part) (cond b (9 ∷ drop 3 part) (cond d (92 ∷ drop 3 part) (92 ∷ part))) ≡ c ∷ rest)
    by true b d = (32, drop 3 part, refl)
    by false true d = (9, drop 3 part, refl)
    by false false true = (92, drop 3 part, refl)
    by false false false = (92, part, refl)

onto_some : (x : ℕ) (parts : List (List ℕ)) → (first : List ℕ) × (rest : List (List ℕ)) × (onto_first x parts ≡ first ∷ rest)
onto_some x [] = (x ∷ [], [], refl)
onto_some x (part ∷ parts) = (x ∷ part, parts, refl)

split_some : (p : ℕ → Bool) (xs : List ℕ) → (first : List ℕ) × (rest : List (List ℕ)) × (slice_split p xs ≡ first ∷ rest)
split_some p [] = ([], [], refl)
split_some p (x ∷ xs) = elim (p x) as (λ b. (first : List ℕ) × (rest : List (List ℕ)) × (cond b ([] ∷ slice_split p xs) (onto_first x (slice_split p xs)) ≡ first ∷ rest)) [
  | true ↦ ([], slice_split p xs, refl)
  | false ↦ onto_some x (slice_split p xs)
]

some_after : (front : List ℕ) (c : ℕ) (rest : List ℕ) → front ++ c ∷ rest ≡ [] → ⊥
some_after [] c rest e = cc
some_after (x ∷ front) c rest e = cc

-- a field that isn't empty isn't so when it is read
pub unescaped_some : (field : List ℕ) → (field ≡ [] → ⊥) → unescaped field ≡ [] → ⊥
unescaped_some field some = elim (list_any is_backslash field) as (λ b. cond b (before_first is_backslash field ++ flat_map unescaped_part (slice_split is_backslash (after_first is_backslash field))) field ≡ [] → ⊥) [
  | true ↦ λ e.
      let parts = split_some is_backslash (after_first is_backslash field) in
      let part = part_some parts.0 in
      let begins : flat_map unescaped_part (slice_split is_backslash (after_first is_backslash field)) ≡ part.0 ∷ (part.1 ++ flat_map unescaped_part parts.1) =
      ap (flat_map unescaped_part) parts.2 ∙ ap (λ l. l ++ flat_map unescaped_part parts.1) part.2 in
      some_after (before_first is_backslash field) part.0 (part.1 ++ flat_map unescaped_part parts.1) (ap (λ l. before_first is_backslash field ++ l) (sym begins) ∙ e)
  | false ↦ some
]

some_name : (name : List ℕ) → is_some_name name ≡ true → name ≡ [] → ⊥
some_name [] h e = both_ways false refl h
some_name (x ∷ name) h e = cc

abbrev AreSome : List (List ℕ) → Type 0
AreSome names = AllByRecursion (λ name. name ≡ [] → ⊥) names

filter_some : (names : List (List ℕ)) → AreSome (Rattle.std.specs.List.filter is_some_name names)
filter_some [] = tt
filter_some (name ∷ names) = elim (is_some_name name) as (λ b. is_some_name name ≡ b → AreSome (cond b (name ∷ Rattle.std.specs.List.filter is_some_name names) (Rattle.std.specs.List.filter is_some_name names))) [
  | true ↦ λ e. (some_name name e, filter_some names)
  | false ↦ λ e. filter_some names
] refl

join_some : (front back : List (List ℕ)) → AreSome front → AreSome back → AreSome (front ++ back)
join_some [] back f b = b
join_some (x ∷ front) back f b = (f.0, join_some front back f.1 b)

flat_some : (parts : List (List ℕ)) → AreSome (flat_map (parts_between 9) parts)
flat_some [] = tt
flat_some (part ∷ parts) = join_some (parts_between 9 part) (flat_map (parts_between 9) parts) (filter_some (slice_split (λ byte. byte == 9) part)) (flat_some parts)

now_some : (fields : List (Bor (List ℕ))) → AreSome (map (λ (f : Bor (List ℕ)). f.now) fields) → AllByRecursion (λ (f : Bor (List ℕ)). f.now ≡ [] → ⊥) fields
now_some [] all = tt
now_some (f ∷ fields) all = (all.0, now_some fields all.1)

-- no field of a line is empty
pub fields_some : (line : List ℕ) (fields : List (Bor (List ℕ))) → map (λ (f : Bor (List ℕ)). f.now) fields ≡ fields_of line → AllByRecursion (λ (f : Bor (List ℕ)). f.now ≡ [] → ⊥) fields
fields_some line fields is = now_some fields (subst AreSome (sym is) (flat_some (parts_between 32 line)))
