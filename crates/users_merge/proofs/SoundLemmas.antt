-- What is merged can be written, and is read back.
use Rattle.std.proofs.Common.{◌≡◌, ℕ, ◌==◌, ◌&&◌, ◌||◌, Bool, true, false, not, List, [], ◌∷◌, length, take, nat_le, nat_lt, refl, sym, ap, ◌∙◌}
use Rattle.std.proofs.Math.Dec.{eqb-suc-zero}
use Rattle.std.proofs.lemmas.Bool.{and_parts, and_from, eqb-true, false≢true, or_parts, not-true}
use Rattle.std.proofs.Math.Bool.{or-true}
use Rattle.std.specs.List.{list_all, list_any}
use Rattle.switch_names.specs.Names.{Name, has, is_name}
use Rattle.switch_names.specs.Texts.{is_empty, is_line_feed}
use Rattle.switch_names.specs.Ids.{id_max}
use Rattle.account_text.specs.Field.{is_colon, is_comma, is_member, is_row_name}
use Rattle.account_text.specs.Field as field
use Rattle.users_spec.specs.AccountName.{is_account_name, is_no_field_byte, is_no_name_byte, is_sign}
use Rattle.users_spec.specs.AccountName as declared
use Rattle.users_merge.specs.Stored.{ordered}
use Rattle.users_merge.proofs.NameOrderLemmas.{ordered_has}
use Rattle.host_trait.proofs.NameOrder.{name_exact, name_itself}

-- where none of some bytes stands, none of fewer does
fewer : (p q : ℕ → Bool) → ((byte : ℕ) → p byte ≡ true → q byte ≡ true) → (text : List ℕ) → list_any q text ≡ false → list_any p text ≡ false
fewer p q less [] none = refl
fewer p q less (byte ∷ text) none = by (p byte) refl (fewer p q less text (or_parts (q byte) (list_any q text) none).1)
  where
    by : (b : Bool) → p byte ≡ b → list_any p text ≡ false → (b || list_any p text) ≡ false
    by true is rest = absurd (false≢true (sym (or_parts (q byte) (list_any q text) none).0 ∙ less byte is))
    by false is rest = rest

-- a byte that is this one passes where this one does
at_byte : (q : ℕ → Bool) (this byte : ℕ) → q this ≡ true → (byte == this) ≡ true → q byte ≡ true
at_byte q this byte passes same = ap q (eqb-true byte this same) ∙ passes

-- the name of an account can stand among the members of a group
pub name_is_member : (name : Name) → is_account_name name ≡ true → is_member name ≡ true
name_is_member name is =
    let unsigned = and_parts (nat_lt 0 (length name) && nat_le (length name) 255 && not (list_any is_no_name_byte name)) (not (list_any is_sign (take 1 name))) is in
    let bytes = and_parts (nat_lt 0 (length name) && nat_le (length name) 255) (not (list_any is_no_name_byte name)) unsigned.0 in
    let some = and_parts (nat_lt 0 (length name)) (nat_le (length name) 255) bytes.0 in
    let none = not-true _ bytes.1 in
    and_from _ _
    (and_from _ _
    (and_from _ _
    (ap not (fewer is_line_feed is_no_name_byte (λ byte same. at_byte is_no_name_byte 10 byte refl same) name none))
    (ap not (fewer is_colon is_no_name_byte (λ byte same. at_byte is_no_name_byte 58 byte refl same) name none)))
    (ap not (filled name some.0)))
    (ap not (fewer is_comma is_no_name_byte (λ byte same. at_byte is_no_name_byte 44 byte refl same) name none))
  where
    filled : (text : List ℕ) → nat_lt 0 (length text) ≡ true → is_empty text ≡ false
    filled [] some = absurd (false≢true some)
    filled (byte ∷ text) some = eqb-suc-zero (length text)

pub name_is_row_name : (name : Name) → is_account_name name ≡ true → is_row_name name ≡ true
name_is_row_name name is = (and_parts (is_row_name name) (not (list_any is_comma name)) (name_is_member name is)).0

-- a text of a specification can stand in a field
pub plain_is_plain : (text : List ℕ) → declared.is_plain text ≡ true → field.is_plain text ≡ true
plain_is_plain text is =
    let none = not-true _ is in
    and_from _ _
    (ap not (fewer is_line_feed is_no_field_byte (λ byte same. at_byte is_no_field_byte 10 byte refl same) text none))
    (ap not (fewer is_colon is_no_field_byte (λ byte same. at_byte is_no_field_byte 58 byte refl same) text none))

-- what holds of each of some names holds of each of these in order
pub all_ordered : (p : Name → Bool) (names : List Name) → list_all p names ≡ true → list_all p (ordered names) ≡ true
all_ordered p names all = from_has (ordered names) (λ name there. each names all name (sym (ordered_has names name) ∙ there))
  where
    each : (xs : List Name) → list_all p xs ≡ true → (name : Name) → has xs name ≡ true → p name ≡ true
    each [] is name there = absurd (false≢true there)
    each (x ∷ xs) is name there =
        let parts = and_parts (p x) (list_all p xs) is in
        by (is_name name x) refl there parts.0 (each xs parts.1 name)
      where
        by : (b : Bool) → is_name name x ≡ b → (b || has xs name) ≡ true → p x ≡ true → (has xs name ≡ true → p name ≡ true) → p name ≡ true
        by true same here first rest = ap p (name_exact name x same) ∙ first
        by false other later first rest = rest later

    from_has : (xs : List Name) → ((name : Name) → has xs name ≡ true → p name ≡ true) → list_all p xs ≡ true
    from_has [] h = refl
    from_has (x ∷ xs) h = and_from _ _ (h x (ap (λ b. b || has xs x) (name_itself x))) (from_has xs (λ name there. h name (ap (λ b. is_name name x || b) there ∙ or-true (is_name name x))))
