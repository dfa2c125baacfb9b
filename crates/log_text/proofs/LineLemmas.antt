-- Lines, and the names in them.
use Rattle.std.proofs.Common.{◌≡◌, ◌≢◌, ◌==◌, ◌<◌, ◌≤◌, ◌+◌, ◌-◌, ◌++◌, ◌∷◌, ℕ, Bool, true, false, List, [], None, Some, length, take, drop, sym, ap, subst, ◌∙◌, slice_index_or, arith}
use Rattle.std.specs.List.{AllByRecursion, position}
use Rattle.std.specs.List.Sorted.{IsStrictlySortedBy}
use Rattle.std.specs.declared.cmp.Ordering.TheVariants.{Less}
use Rattle.std.proofs.lemmas.Bool.Decides.{Decides-eqb}
use Rattle.std.proofs.lemmas.Grind.{flat_map-append}
use Rattle.std.proofs.lemmas.List.{append_assoc, append-nil, drop_more, take-append-drop, take_rest}
use Rattle.std.proofs.lemmas.List.Quantifiers.{position-Some}
use Rattle.std.proofs.lemmas.Map.Keys.{Less-from_sorted, sorted_from_all_adjacent}
use Rattle.host_trait.specs.Bytes.{bytes_cmp}
use Rattle.host_trait.proofs.Places.{bytes_total}
use Rattle.switch_names.proofs.Lists.{all_before, all_join}
use Rattle.switch_names.proofs.Positions.{All-from_no_position}
use Rattle.switch_names.specs.Names.{Name}
use Rattle.switch_names.specs.UnitName.{IsUnitName}
use Rattle.log_text.specs.Log.{IsLine, list_text}
use Rattle.log_text.proofs.BlockLemmas.{each_of, unit_is_line, same_part}

abbrev is_feed : ℕ → Bool
is_feed byte = byte == 10

-- a text up to its first line feed, and behind it
pub line_parts : (text : List ℕ) (at : ℕ) → position is_feed text ≡ Some at → IsLine (take at text) × (text ≡ take at text ++ 10 ∷ take (length text - (at + 1)) (drop (at + 1) text))
line_parts text at is =
    let first = position-Some is_feed text at 0 is in
    let feed : slice_index_or text at 0 ≡ 10 = (Decides-eqb (slice_index_or text at 0) 10).0 first.1 in (
      all_before (λ byte. is_feed byte ≡ false) text at (omega (arith, first.0)) (λ k d less. (position-Some is_feed text at d is).2 k less),
      sym (take-append-drop at text)
          ∙ ap (λ rest. take at text ++ rest) (drop_more text at 0 first.0
          ∙ ap (λ byte. byte ∷ drop (at + 1) text) feed
          ∙ ap (λ rest. 10 ∷ rest) (sym (take_rest text (at + 1)))),
    )

pub no_line_end : (text : List ℕ) → position is_feed text ≡ None → IsLine text
no_line_end text is = each_of (λ byte. is_feed byte ≡ false) text (All-from_no_position is_feed text is)

-- ---- names at the front

pub one_name_more : (text : List ℕ) (names : List Name) (rest line after : List ℕ) (name : Name) → text ≡ list_text names ++ rest → rest ≡ line ++ 10 ∷ after → name ≡ line →
    text ≡ list_text (names ++ name ∷ []) ++ after
one_name_more text names rest line after name is parted same =
    is
    ∙ ap (λ r. list_text names ++ r) (parted ∙ ap (λ l. l ++ 10 ∷ after) (sym same) ∙ sym (append_assoc name (10 ∷ []) after))
    ∙ sym (append_assoc (list_text names) (name ++ 10 ∷ []) after)
    ∙ ap (λ t. t ++ after) (ap (λ t. list_text names ++ t) (sym (append-nil (name ++ 10 ∷ []))) ∙ sym (flat_map-append (λ (n : Name). n ++ 10 ∷ []) names (name ∷ [])))

pub units_more : (names : List Name) (name : Name) → AllByRecursion IsUnitName names → IsUnitName name → AllByRecursion IsUnitName (names ++ name ∷ [])
units_more names name all is = all_join IsUnitName names (name ∷ []) all (is, tt)

pub no_feed_in : (line rest : List ℕ) → IsLine (line ++ 10 ∷ rest) → ⊥
no_feed_in [] rest all = let no : true ≡ false = all.0 in cc
no_feed_in (byte ∷ line) rest all = no_feed_in line rest all.1

-- a text without a line feed begins with no name
pub none_unended : (rest : List ℕ) → IsLine rest → (name : Name) (more : List ℕ) → IsUnitName name → rest ≢ name ++ 10 ∷ more
none_unended rest is_line name more is same = no_feed_in name more (subst IsLine same is_line)

-- nor does one whose first line is none
pub none_other : (rest line after : List ℕ) → IsLine line → rest ≡ line ++ 10 ∷ after → (IsUnitName line → ⊥) → (name : Name) (more : List ℕ) → IsUnitName name → rest ≢ name ++ 10 ∷ more
none_other rest line after is_line parted never name more is same =
    never (subst IsUnitName (sym (same_part 10 line name after more is_line (unit_is_line name is) (sym parted ∙ same)).0) is)

-- ---- the order of names

pub ascends : (names : List Name) (at : ℕ) → ((k : ℕ) → k + 1 < at → bytes_cmp (slice_index_or names k []) (slice_index_or names (k + 1) []) ≡ Less) → length names ≤ at → IsStrictlySortedBy bytes_cmp names
ascends names at each far = sorted_from_all_adjacent bytes_total names [] (λ k less. each k (omega (arith, less, far)))

pub not_ascending : (names : List Name) (at : ℕ) → 1 ≤ at → at < length names → (bytes_cmp (slice_index_or names (at - 1) []) (slice_index_or names at []) ≡ Less → ⊥) → IsStrictlySortedBy bytes_cmp names → ⊥
not_ascending names at some within never sorted = never (Less-from_sorted bytes_cmp names (at - 1) at [] sorted (omega (arith, some)) within)
