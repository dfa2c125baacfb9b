-- The texts of the fields of a JSON value are UTF-8.
use Rattle.std.proofs.Common.{◌≡◌, ℕ, ◌&&◌, Bool, true, false, cond, List, [], ◌∷◌, Option, None, Some, IfSome, is_some, option_map, option_and_then, Ok, refl, subst}
use Rattle.std.proofs.lemmas.Bool.{and_from, and_parts}
use Rattle.std.specs.Cmp.Lexicographic.{slice_cmp}
use Rattle.std.specs.List.{list_all}
use Rattle.std.specs.Option.{ok_or, option_map_or}
use Rattle.std.specs.Ordering.{match_ordering, nat_cmp}
use Rattle.std.specs.Str.{is_utf8}
use Rattle.std.specs.declared.cmp.Ordering.{Ordering}
use Rattle.std.specs.declared.cmp.Ordering.TheVariants.{Equal, Greater, Less}
use Rattle.serde_json.specs.Data as values
use Rattle.serde_json.specs.Data.{Data, Items, Members}
use Rattle.serde_json.specs.Find.{as_null, as_str, get, get_member}
use Rattle.users_spec.specs.AccountName.{is_plain}
use Rattle.users_spec.specs.declared.place.Place.{Place}
use Rattle.users_spec.specs.declared.spec_fault.SpecFault.TheVariants.{Field}
use Rattle.users_spec.specs.Fields.{Form, all_of, as_list, as_plain, field, if_any, list_of, name_at, names_at, needed, or_default, present, texts_if_any}
use Rattle.users_spec.proofs.SoundReads.{bound, passed}
use Rattle.accounts_stage.proofs.JsonTextLemmas.{are_item_texts, are_member_texts, is_data_text}
use Rattle.accounts_stage.proofs.MergedRowLemmas.{is_some_text}

abbrev pub IsText : List ℕ → Type 0
IsText text = is_utf8 text ≡ true

abbrev pub IsValue : Data → Type 0
IsValue d = is_data_text d ≡ true

member_text : (key : List ℕ) (ms : Members) → are_member_texts ms ≡ true → IfSome (get_member key ms) IsValue
member_text key values.no_members all = tt
member_text key (values.member l e ms) all =
    let first = and_parts (is_utf8 l) (is_data_text e && are_member_texts ms) all in
    let second = and_parts (is_data_text e) (are_member_texts ms) first.1 in
    by (slice_cmp nat_cmp key l) second.0 (member_text key ms second.1)
  where
    by : (o : Ordering) → IsValue e → IfSome (get_member key ms) IsValue → IfSome (match_ordering o (get_member key ms) (Some e) (get_member key ms)) IsValue
    by Less here later = later
    by Equal here later = here
    by Greater here later = later

value_text : (key : List ℕ) (d : Data) → IsValue d → IfSome (get key d) IsValue
value_text key values.null is = tt
value_text key (values.boolean b) is = tt
value_text key (values.number n) is = tt
value_text key (values.string s) is = tt
value_text key (values.array ds) is = tt
value_text key (values.object ms) is = member_text key ms is

-- what a key stands for in a form
pub field_text : {A : Type 0} (P : A → Type 0) (form : Form A) (place : Place) (key : List ℕ) (d : Data) (x : A) → ((o : Option Data) → IfSome o IsValue → IfSome (form o) P) → IsValue d → field form place key d ≡ Ok x → P x
unfolding field
field_text {A = A} P form place key d x good is h = by (form (get key d)) (good (get key d) (value_text key d is)) h
  where
    by : (o : Option A) → IfSome o P → ok_or o (Field place key) ≡ Ok x → P x
    by None good h = absurd (cc)
    by (Some y) good h = subst P (let same : y ≡ x = cc in same) good

str_text : (d : Data) → IsValue d → IfSome (as_str d) IsText
str_text values.null is = tt
str_text (values.boolean b) is = tt
str_text (values.number n) is = tt
str_text (values.string s) is = is
str_text (values.array ds) is = tt
str_text (values.object ms) is = tt

plain_text : (d : Data) → IsValue d → IfSome (as_plain d) IsText
plain_text d is = by (as_str d) (str_text d is)
  where
    either : (text : List ℕ) (b : Bool) → IsText text → IfSome (cond b (Some text) None) IsText
    either text true is = is
    either text false is = tt

    by : (o : Option (List ℕ)) → IfSome o IsText → IfSome (option_and_then (λ text. cond (is_plain text) (Some text) None) o) IsText
    by None is = tt
    by (Some text) is = either text (is_plain text) is

present_text : (o : Option Data) → IfSome o IsValue → IfSome (present o) IsValue
present_text None is = tt
present_text (Some d) is = by (is_some (as_null d))
  where
    by : (b : Bool) → IfSome (cond b None (Some d)) IsValue
    by true = tt
    by false = is

needed_text : (o : Option Data) → IfSome o IsValue → IfSome (needed as_plain o) IsText
needed_text None is = tt
needed_text (Some d) is = plain_text d is

pub default_text : (default : List ℕ) → IsText default → (o : Option Data) → IfSome o IsValue → IfSome (or_default default as_plain o) IsText
default_text default base o is = by (present o) (present_text o is)
  where
    by : (v : Option Data) → IfSome v IsValue → IfSome (option_map_or as_plain v (Some default)) IsText
    by None is = base
    by (Some d) is = plain_text d is

pub any_text : (o : Option Data) → IfSome o IsValue → IfSome (if_any as_plain o) (λ text. is_some_text text ≡ true)
any_text o is = by (present o) (present_text o is)
  where
    inner : (p : Option (List ℕ)) → IfSome p IsText → IfSome (option_map Some p) (λ text. is_some_text text ≡ true)
    inner None is = tt
    inner (Some text) is = is

    by : (v : Option Data) → IfSome v IsValue → IfSome (option_map_or (λ d. option_map Some (as_plain d)) v (Some None)) (λ text. is_some_text text ≡ true)
    by None is = refl
    by (Some d) is = inner (as_plain d) (plain_text d is)

items_text : (ds : Items) → are_item_texts ds ≡ true → list_all is_data_text (list_of ds) ≡ true
items_text values.no_items all = refl
items_text (values.item d ds) all = let parts = and_parts (is_data_text d) (are_item_texts ds) all in and_from _ _ parts.0 (items_text ds parts.1)

list_text : (d : Data) → IsValue d → IfSome (as_list d) (λ ds. list_all is_data_text ds ≡ true)
list_text values.null is = tt
list_text (values.boolean b) is = tt
list_text (values.number n) is = tt
list_text (values.string s) is = tt
list_text (values.array ds) is = items_text ds is
list_text (values.object ms) is = tt

pub needed_list : (o : Option Data) → IfSome o IsValue → IfSome (needed as_list o) (λ ds. list_all is_data_text ds ≡ true)
needed_list None is = tt
needed_list (Some d) is = list_text d is

strs_text : (ds : List Data) → list_all is_data_text ds ≡ true → IfSome (all_of as_str ds) (λ texts. list_all is_utf8 texts ≡ true)
strs_text [] all = refl
strs_text (d ∷ ds) all = let parts = and_parts (is_data_text d) (list_all is_data_text ds) all in by (as_str d) (str_text d parts.0) (all_of as_str ds) (strs_text ds parts.1)
  where
    by : (o : Option (List ℕ)) → IfSome o IsText → (p : Option (List (List ℕ))) → IfSome p (λ texts. list_all is_utf8 texts ≡ true) →
        IfSome (option_and_then (λ y. option_map (λ ys. y ∷ ys) p) o) (λ texts. list_all is_utf8 texts ≡ true)
    by None one p rest = tt
    by (Some y) one None rest = tt
    by (Some y) one (Some ys) rest = and_from _ _ one rest

texts_text : (o : Option Data) → IfSome o IsValue → IfSome (texts_if_any o) (λ texts. list_all is_utf8 texts ≡ true)
texts_text None is = refl
texts_text (Some d) is = by (as_list d) (list_text d is)
  where
    by : (o : Option (List Data)) → IfSome o (λ ds. list_all is_data_text ds ≡ true) → IfSome (option_and_then (all_of as_str) o) (λ texts. list_all is_utf8 texts ≡ true)
    by None is = tt
    by (Some ds) is = strs_text ds is

pub name_text : (place : Place) (key : List ℕ) (d : Data) (name : List ℕ) → IsValue d → name_at place key d ≡ Ok name → IsText name
unfolding name_at
name_text place key d name is h =
    let text = bound _ _ _ h in
    let test = passed _ _ _ _ text.2 in
    subst IsText test.1 (field_text IsText (needed as_plain) place key d text.0 needed_text is text.1)

pub names_text : (place : Place) (key : List ℕ) (d : Data) (names : List (List ℕ)) → IsValue d → names_at place key d ≡ Ok names → list_all is_utf8 names ≡ true
unfolding names_at
names_text place key d names is h =
    let texts = bound _ _ _ h in
    let test = passed _ _ _ _ texts.2 in
    subst (λ ts. list_all is_utf8 ts ≡ true) test.1 (field_text (λ ts. list_all is_utf8 ts ≡ true) texts_if_any place key d texts.0 texts_text is texts.1)
