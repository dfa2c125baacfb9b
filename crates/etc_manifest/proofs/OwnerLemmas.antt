-- The ids of accounts by their names.
use Rattle.std.proofs.Common.{◌≡◌, ℕ, ◌+◌, ◌<◌, ◌++◌, codes, Bool, true, false, cond, List, [], ◌∷◌, length, get_or, take, Option, None, Some, is_some, option_map, refl, sym, ap, ◌∙◌}
use Rattle.std.specs.BTreeMap.{BTreeMap, is_at}
use Rattle.std.specs.FinMap.{get, get-insert}
use Rattle.std.specs.List.{find}
use Rattle.std.specs.Map.{lookup}
use Rattle.std.specs.Option.{option_or}
use Rattle.std.specs.Str.{IsUtf8, is_utf8}
use Rattle.std.proofs.lemmas.Bool.{false_from_ne_true}
use Rattle.std.proofs.lemmas.List.{take_more}
use Rattle.std.proofs.lemmas.List.Folds.{find-append}
use Rattle.std.proofs.lemmas.Str.{IsUtf8-from_is_utf8, is_utf8-from_IsUtf8}
use Rattle.switch_names.specs.Names.{Name, is_name}
use Rattle.host_trait.specs.Bytes.{bytes_cmp}
use Rattle.host_trait.proofs.Places.{bytes_total, found, given}
use Rattle.account_text.specs.Order.{row_named}
use Rattle.host_trait.specs.Ids.{Ids}
use Rattle.etc_manifest.specs.Owners.{AreIdsOf, ids_in, owner_id, owner_in}
use Rattle.switch_names.specs.Texts.{after_front}
use Rattle.switch_names.proofs.Outcomes.{option_map_or_other, option_or_none}
use Rattle.host_trait.proofs.NameOrder.{name_exact}

no_id : (o : Option ℕ) → is_some o ≡ false → o ≡ None
no_id None is = refl
no_id (Some id) is = absurd (cc)

-- a name that has no id gets one
pub id_added : (old new : BTreeMap (List ℕ) ℕ) (name added other : List ℕ) (id : ℕ) → added ≡ name → is_some (lookup (is_at (bytes_cmp name)) old.entries) ≡ false →
    ((q : List ℕ) → lookup (is_at (bytes_cmp q)) new.entries ≡ cond (is_at (bytes_cmp added) q) (Some id) (lookup (is_at (bytes_cmp q)) old.entries)) →
    get (ids_in new) other ≡ option_or (get (ids_in old) other) (cond (is_name other name) (Some id) None)
id_added old new name added other id copied lacks updated =
    ap (λ m. get m other) (given old.entries new.entries added id updated)
    ∙ get-insert bytes_total (ids_in old) added id other
    ∙ ap (λ n. cond (is_name other n) (Some id) (get (ids_in old) other)) copied
    ∙ by (is_name other name) refl
  where
    by : (b : Bool) → is_name other name ≡ b → cond b (Some id) (get (ids_in old) other) ≡ option_or (get (ids_in old) other) (cond b (Some id) None)
    by true same =
        sym (ap (λ o. option_or o (Some id)) (ap (get (ids_in old)) (name_exact other name same) ∙ found old.entries name ∙ no_id (lookup (is_at (bytes_cmp name)) old.entries) lacks))
    by false same = sym (option_or_none (get (ids_in old) other))

-- a name that has an id keeps it
pub id_kept : (old : BTreeMap (List ℕ) ℕ) (name other : List ℕ) (id : ℕ) → is_some (lookup (is_at (bytes_cmp name)) old.entries) ≡ true →
    get (ids_in old) other ≡ option_or (get (ids_in old) other) (cond (is_name other name) (Some id) None)
id_kept old name other id has = by (is_name other name) refl
  where
    kept : (o : Option ℕ) → is_some o ≡ true → o ≡ option_or o (Some id)
    kept None is = absurd (cc)
    kept (Some x) is = refl

    by : (b : Bool) → is_name other name ≡ b → get (ids_in old) other ≡ option_or (get (ids_in old) other) (cond b (Some id) None)
    by true same = kept (get (ids_in old) other) (ap is_some (ap (get (ids_in old)) (name_exact other name same) ∙ found old.entries name) ∙ has)
    by false same = sym (option_or_none (get (ids_in old) other))

module _ {Row : Type 0} (name_of : Row → Name) (number_of : Row → ℕ) where
  one_row : (row : Row) (name : List ℕ) → option_map number_of (find (λ r. is_name name (name_of r)) (row ∷ [])) ≡ cond (is_name name (name_of row)) (Some (number_of row)) None
  one_row row name = by (is_name name (name_of row))
    where
      by : (b : Bool) → option_map number_of (cond b (Some row) None) ≡ cond b (Some (number_of row)) None
      by true = refl
      by false = refl

  -- the ids of one row more
  pub ids_more : (rows : List Row) (i : ℕ) (row : Row) (old new : Ids) → i < length rows → row ≡ get_or rows i row → AreIdsOf name_of number_of (take i rows) old →
      ((name : Name) → get new name ≡ option_or (get old name) (cond (is_name name (name_of row)) (Some (number_of row)) None)) → AreIdsOf name_of number_of (take (i + 1) rows) new
  ids_more rows i row old new within is so_far added = λ name.
      added name
      ∙ ap (λ o. option_or o (cond (is_name name (name_of row)) (Some (number_of row)) None)) (so_far name)
      ∙ ap (option_or (option_map number_of (row_named name_of (take i rows) name))) (sym (one_row row name))
      ∙ sym (option_map_or_other number_of (row_named name_of (take i rows) name) (find (λ r. is_name name (name_of r)) (row ∷ [])))
      ∙ ap (option_map number_of) (sym (find-append (λ r. is_name name (name_of r)) (take i rows) (row ∷ [])))
      ∙ ap (λ rs. option_map number_of (row_named name_of rs name)) (sym (take_more rows i row within ∙ ap (λ r. take i rows ++ r ∷ []) (sym is)))

  -- no row gives no id
  pub ids_none : (rows : List Row) (ids : BTreeMap (List ℕ) ℕ) → ids.entries ≡ [] → AreIdsOf name_of number_of (take 0 rows) (ids_in ids)
  ids_none rows ids none = λ name. found ids.entries name ∙ ap (λ es. lookup (is_at (bytes_cmp name)) es) none

-- an owner that is a text, and one that isn't
pub text_owner : (ids : Ids) (owner text : List ℕ) → text ≡ owner → IsUtf8 owner → owner_in ids text (after_front (codes "+") text) ≡ owner_id ids owner
text_owner ids owner text same good =
    ap (λ t. owner_in ids t (after_front (codes "+") t)) same
    ∙ sym (ap (λ b. cond b (owner_in ids owner (after_front (codes "+") owner)) None) (is_utf8-from_IsUtf8 owner good))

pub no_text : (ids : Ids) (owner : List ℕ) → (IsUtf8 owner → ⊥) → None ≡ owner_id ids owner
no_text ids owner bad =
    sym (ap (λ b. cond b (owner_in ids owner (after_front (codes "+") owner)) None) (false_from_ne_true (is_utf8 owner) (λ is. bad (IsUtf8-from_is_utf8 owner is))))
