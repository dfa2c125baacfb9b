-- Names are read back where they are written.
use Rattle.std.proofs.Common.{◌≡◌, ℕ, ◌&&◌, ◌||◌, Bool, true, false, not, cond, List, [], ◌∷◌, ◌++◌, append_assoc, filter, length, take, nat_le, nat_lt, Some, refl, sym, ap, ◌∙◌, arith}
use Rattle.std.proofs.lemmas.Bool.{and_from, and_parts, false≢true, or_parts, not-true}
use Rattle.std.proofs.lemmas.List.Splits.{slice_split_at}
use Rattle.std.specs.List.{list_all, list_any, slice_split}
use Rattle.std.specs.Str.{is_utf8}
use Rattle.switch_names.specs.Names.{Name}
use Rattle.account_text.proofs.FieldLemmas.{none_none}
use Rattle.users_spec.specs.AccountName.{is_account_name, is_no_name_byte, is_sign}
use Rattle.users_merge.specs.Stored.{ordered}
use Rattle.users_merge.proofs.NameOrderLemmas.{is_ordered, ordered_sorted}
use Rattle.users_merge.proofs.SoundLemmas.{all_ordered}
use Rattle.accounts_stage.specs.Files.{names_text}
use Rattle.accounts_stage.specs.Standing.{is_between, is_name_text, names_in}
use Rattle.accounts_stage.proofs.ReadLemmas.{IsNameList}

between_no_name : (byte : ℕ) → is_between byte ≡ true → is_no_name_byte byte ≡ true
between_no_name byte is = grind arith

-- no byte between names stands in a name
none_between : (text : List ℕ) → list_any is_no_name_byte text ≡ false → list_any is_between text ≡ false
none_between [] none = refl
none_between (byte ∷ text) none =
    let parts = or_parts (is_no_name_byte byte) (list_any is_no_name_byte text) none in by (is_between byte) refl parts.0 (none_between text parts.1)
  where
    by : (b : Bool) → is_between byte ≡ b → is_no_name_byte byte ≡ false → list_any is_between text ≡ false → (b || list_any is_between text) ≡ false
    by true is none rest = absurd (false≢true (sym none ∙ between_no_name byte is))
    by false is none rest = rest

name_whole : (name : Name) → is_name_text name ≡ true → list_any is_between name ≡ false
unfolding is_name_text
name_whole name is =
    let named = and_parts (is_utf8 name) (is_account_name name) is in
    let unsigned = and_parts (nat_lt 0 (length name) && nat_le (length name) 255 && not (list_any is_no_name_byte name)) (not (list_any is_sign (take 1 name))) named.1 in
    none_between name (not-true _ (and_parts (nat_lt 0 (length name) && nat_le (length name) 255) (not (list_any is_no_name_byte name)) unsigned.0).1)

no_name : is_name_text [] ≡ false
unfolding is_name_text
no_name = by (is_utf8 [])
  where
    by : (b : Bool) → (b && false) ≡ false
    by true = refl
    by false = refl

split_names : (names : List Name) → list_all is_name_text names ≡ true → slice_split is_between (names_text names) ≡ names ++ [] ∷ []
split_names [] all = refl
split_names (name ∷ names) all =
    let parts = and_parts (is_name_text name) (list_all is_name_text names) all in
    ap (slice_split is_between) (append_assoc name (10 ∷ []) (names_text names))
    ∙ slice_split_at is_between name 10 (names_text names) (none_none is_between name (name_whole name parts.0)) refl
    ∙ ap (λ rest. name ∷ rest) (split_names names parts.1)

pass_names : (names : List Name) → list_all is_name_text names ≡ true → filter is_name_text (names ++ [] ∷ []) ≡ names
pass_names [] all = ap (λ b. cond b ([] ∷ []) []) no_name
pass_names (name ∷ names) all =
    let parts = and_parts (is_name_text name) (list_all is_name_text names) all in
    ap (λ b. cond b (name ∷ filter is_name_text (names ++ [] ∷ [])) (filter is_name_text (names ++ [] ∷ []))) parts.0 ∙ ap (λ rest. name ∷ rest) (pass_names names parts.1)

-- names in order are read back
pub names_back : (names : List Name) → list_all is_name_text names ≡ true → IsNameList (ordered names) (Some (names_text (ordered names)))
names_back names all =
    let good = all_ordered is_name_text names all in
    ap ordered (ap (filter is_name_text) (split_names (ordered names) good) ∙ pass_names (ordered names) good)
    ∙ sym (is_ordered (ordered names) (ordered names) (ordered_sorted names) (λ name. refl))

all_passing : (p : Name → Bool) (names : List Name) → list_all p (filter p names) ≡ true
all_passing p [] = refl
all_passing p (name ∷ names) = by (p name) refl (all_passing p names)
  where
    by : (b : Bool) → p name ≡ b → list_all p (filter p names) ≡ true → list_all p (cond b (name ∷ filter p names) (filter p names)) ≡ true
    by true is rest = and_from _ _ is rest
    by false is rest = rest

-- names that are read are names
pub read_names : (bytes : List ℕ) → list_all is_name_text (names_in bytes) ≡ true
read_names bytes = all_ordered is_name_text (filter is_name_text (slice_split is_between bytes)) (all_passing is_name_text (slice_split is_between bytes))
