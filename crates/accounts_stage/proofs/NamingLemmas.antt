-- Names of accounts among the texts of a list.
use Rattle.std.proofs.Common.{◌≡◌, ℕ, ◌&&◌, Bool, false, List, None, Some, sym, ap, ◌∙◌}
use Rattle.std.specs.Prelude.{if◌then◌else◌}
use Rattle.std.specs.Str.{IsUtf8, is_utf8}
use Rattle.std.proofs.lemmas.Bool.{false_from_ne_true}
use Rattle.std.proofs.lemmas.Str.{IsUtf8-from_is_utf8, is_utf8-from_IsUtf8}
use Rattle.users_spec.specs.AccountName.{is_account_name}
use Rattle.accounts_stage.specs.Standing.{is_name_text}

-- bytes that aren't UTF-8 are no name
pub no_name : (text : List ℕ) → ¬ IsUtf8 text → is_name_text text ≡ false
unfolding is_name_text
no_name text bad = ap (λ b. b && is_account_name text) (false_from_ne_true (is_utf8 text) (λ is. bad (IsUtf8-from_is_utf8 text is)))

-- others are one where their text is
pub name_by : (text lent : List ℕ) (b : Bool) → IsUtf8 text → lent ≡ text → is_account_name lent ≡ b → is_name_text text ≡ b
unfolding is_name_text
name_by text lent b good same is = ap (λ b. b && is_account_name text) (is_utf8-from_IsUtf8 text good) ∙ ap is_account_name (sym same) ∙ is

pub found_by : (text : List ℕ) (b : Bool) → is_name_text text ≡ b → (if b then Some text else None) ≡ (if is_name_text text then Some text else None)
found_by text b is = ap (λ b. if b then Some text else None) (sym is)
