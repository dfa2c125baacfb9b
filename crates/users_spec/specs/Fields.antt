-- The keys of an object and the forms that their values must have: RFC 8259, sections 3 to 5.
use Rattle.std.specs.Prelude.{◌≡◌, ◌⊎◌, ℕ, List, [], ◌∷◌, ◌++◌, nat_le, Option, None, Some, is_some, option_map, option_and_then, Result, Ok, Err, if◌then◌else◌}
use Rattle.std.specs.List.{list_all}
use Rattle.std.specs.Option.{ok_or, option_map_or}
use Rattle.serde_json.specs.Data.{Data, Items, no_items, item}
use Rattle.serde_json.specs.Find.{get, as_null, as_number, as_u64, as_str, as_array, as_object}
use Rattle.switch_names.specs.Names.{has}
use Rattle.switch_names.specs.Ids.{id_max}
use Rattle.users_spec.specs.AccountName.{is_plain, is_account_name}
use Rattle.users_spec.specs.declared.place.Place.{Place}
use Rattle.users_spec.specs.declared.spec_fault.SpecFault.{SpecFault}
use Rattle.users_spec.specs.declared.spec_fault.SpecFault.TheVariants.{Field, Twice, Name, Memory}

-- what is read, or the first fault
abbrev pub Read : Type 0 → Type 0
Read A = Result A SpecFault

-- one step of reading, and then what it leads to
unfoldable pub read_and_then : {A B : Type 0} → Read A → (A → Read B) → Read B
read_and_then (Ok x) f = f x
read_and_then (Err fault) f = Err fault

infixl 10 ◌>>=◌
abbrev pub ◌>>=◌ : {A B : Type 0} → Read A → (A → Read B) → Read B
read >>= f = read_and_then read f

-- what a call answers, seen by view, is what is read, unless memory ran out
abbrev pub GivesBy : {X Y : Type 0} → (X → Y) → Read X → Read Y → Type 0
GivesBy view (Ok x) read = read ≡ Ok (view x)
GivesBy view (Err fault) read = (fault ≡ Memory) ⊎ (read ≡ Err fault)

-- what a call answers is what is read, unless memory ran out
abbrev pub Gives : {X : Type 0} → Read X → Read X → Type 0
Gives result read = GivesBy (λ x. x) result read

-- f of each, where f gives something of each
abbrev pub all_of : {A B : Type 0} → (A → Option B) → List A → Option (List B)
all_of f [] = Some []
all_of f (x ∷ xs) = option_and_then (λ y. option_map (λ ys. y ∷ ys) (all_of f xs)) (f x)

-- the values of a JSON array
abbrev pub list_of : Items → List Data
list_of no_items = []
list_of (item d ds) = d ∷ list_of ds

-- the list that a value is
abbrev pub as_list : Data → Option (List Data)
as_list d = option_map list_of (as_array d)

-- the id that a value is: a number in digits alone, without point and exponent, up to the greatest id
abbrev pub as_id : Data → Option ℕ
as_id d = option_and_then (λ n. if nat_le n id_max then Some n else None) (option_and_then as_u64 (as_number d))

-- the text that a value is, where it can be a field of a line
abbrev pub as_plain : Data → Option (List ℕ)
as_plain d = option_and_then (λ text. if is_plain text then Some text else None) (as_str d)

-- a form: what the value of a key stands for, or the lack of one; nothing where it has another form
abbrev pub Form : Type 0 → Type 0
Form A = Option Data → Option A

-- null counts as no value
abbrev pub present : Option Data → Option Data
present None = None
present (Some d) = if is_some (as_null d) then None else Some d

-- there must be a value
abbrev pub needed : {A : Type 0} → (Data → Option A) → Form A
needed form value = option_and_then form value

-- a value, or a default
abbrev pub or_default : {A : Type 0} → A → (Data → Option A) → Form A
or_default default form value = option_map_or form (present value) (Some default)

-- a value, or none
abbrev pub if_any : {A : Type 0} → (Data → Option A) → Form (Option A)
if_any form value = option_map_or (λ d. option_map Some (form d)) (present value) (Some None)

-- there may be no value
abbrev pub left_out : Form (Unit {0})
left_out value = if is_some (present value) then None else Some tt

-- a list of texts, or no value at all, which is the empty list
abbrev pub texts_if_any : Form (List (List ℕ))
texts_if_any value = option_map_or (λ d. option_and_then (all_of as_str) (as_list d)) value (Some [])

-- what the value of a key stands for in its form
unfoldable pub field : {A : Type 0} → Form A → Place → List ℕ → Data → Read A
field form place key d = ok_or (form (get key d)) (Field place key)

-- a place is an object
unfoldable pub object_at : Place → Data → Read (Unit {0})
object_at place d = if is_some (as_object d) then Ok tt else Err (Field place [])

-- the text of a key, which is a name
unfoldable pub name_at : Place → List ℕ → Data → Read (List ℕ)
name_at place key d = field (needed as_plain) place key d >>= λ text. if is_account_name text then Ok text else Err (Name place)

-- the texts of a key, which are names
unfoldable pub names_at : Place → List ℕ → Data → Read (List (List ℕ))
names_at place key d = field texts_if_any place key d >>= λ texts. if list_all is_account_name texts then Ok texts else Err (Name place)

-- a name is none of the earlier ones
unfoldable pub once : List (List ℕ) → List ℕ → Read (Unit {0})
once earlier name = if has earlier name then Err (Twice name) else Ok tt

-- values are read in order, each beside those before it, up to the first fault
abbrev pub read_each : {A : Type 0} → (List A → Data → Read A) → List A → List Data → Read (List A)
read_each read before [] = Ok before
read_each read before (d ∷ ds) = read before d >>= λ one. read_each read (before ++ one ∷ []) ds
