-- What is read has its form.
use Rattle.std.proofs.Common.{◌≡◌, ◌≤◌, ℕ, List, [], ◌∷◌, ◌++◌, map, All, Bool, true, false, cond, nat_le, Option, Some, None, IfSome, Ok, Err, option_map, refl, sym, subst, rules, tests}
use Rattle.std.specs.Prelude.{option_and_then, if◌then◌else◌}
use Rattle.std.proofs.lemmas.List.{map-append}
use Rattle.std.proofs.lemmas.List.Elements.{All-push}
use Rattle.std.specs.List.{list_all}
use Rattle.std.specs.Option.{ok_or, option_map_or}
use Rattle.serde_json.specs.Data.{Data}
use Rattle.serde_json.specs.Find.{get, as_str, as_number, as_u64}
use Rattle.switch_names.specs.Names.{has}
use Rattle.switch_names.specs.Ids.{id_max}
use Rattle.users_spec.specs.AccountName.{is_plain, is_account_name, are_distinct}
use Rattle.users_spec.specs.Fields.{Read, ◌>>=◌, read_and_then, Form, field, present, if_any, or_default, as_id, as_plain, name_at, names_at, once, read_each}
use Rattle.users_spec.specs.declared.place.Place.{Place}
use Rattle.users_spec.specs.declared.spec_fault.SpecFault.{SpecFault}
use Rattle.users_spec.specs.declared.spec_fault.SpecFault.TheVariants.{Field, Twice}
use Rattle.users_spec.proofs.Lists.{distinct_push}

-- where two steps read something, so does the first, and the second from that
pub bound : {A B : Type 0} (read : Read A) (f : A → Read B) (y : B) → (read >>= f) ≡ Ok y → (x : A) × (read ≡ Ok x) × (f x ≡ Ok y)
unfolding read_and_then
bound (Ok x) f y h = (x, refl, h)
bound (Err fault) f y h = cc

-- what is read is one
pub same_read : {A : Type 0} (x y : A) → (let read : Read A = Ok x in read) ≡ Ok y → x ≡ y
same_read x y h = cc

-- a test that was passed
pub passed : {A : Type 0} (test : Bool) (x y : A) (fault : SpecFault) → (let read : Read A = cond test (Ok x) (Err fault) in read) ≡ Ok y → (test ≡ true) × (x ≡ y)
passed true x y fault h = (refl, cc)
passed false x y fault h = cc

pub name_is_sound : (place : Place) (key : List ℕ) (d : Data) (name : List ℕ) → name_at place key d ≡ Ok name → is_account_name name ≡ true
unfolding name_at
name_is_sound place key d name h =
    let text = bound _ _ _ h in
    let test = passed _ _ _ _ text.2 in
    subst (λ t. is_account_name t ≡ true) test.1 test.0

pub names_are_sound : (place : Place) (key : List ℕ) (d : Data) (names : List (List ℕ)) → names_at place key d ≡ Ok names → list_all is_account_name names ≡ true
unfolding names_at
names_are_sound place key d names h =
    let texts = bound _ _ _ h in
    let test = passed _ _ _ _ texts.2 in
    subst (λ ts. list_all is_account_name ts ≡ true) test.1 test.0

pub once_is_new : (earlier : List (List ℕ)) (name : List ℕ) → once earlier name ≡ Ok (tt {0}) → has earlier name ≡ false
unfolding once
once_is_new earlier name h = by (has earlier name) h
  where
    by : (b : Bool) → (let read : Read (Unit {0}) = cond b (Err (Twice name)) (Ok (tt {0})) in read) ≡ Ok (tt {0}) → b ≡ false
    by true h = cc
    by false h = refl

-- a value in its form
field_is_read : {A : Type 0} (form : Form A) (place : Place) (key : List ℕ) (d : Data) (x : A) → field form place key d ≡ Ok x → form (get key d) ≡ Some x
unfolding field
field_is_read {A = A} form place key d x h = by (form (get key d)) h
  where
    by : (o : Option A) → ok_or o (Field place key) ≡ Ok x → o ≡ Some x
    by None h = cc
    by (Some y) h = cc

-- a value that a test let through
filtered : {A : Type 0} (P : A → Type 0) (test : A → Bool) → ((x : A) → test x ≡ true → P x) → (o : Option A) → IfSome (option_and_then (λ x. if test x then Some x else None) o) P
filtered P test sound None = tt
filtered P test sound (Some x) = elim (test x) as (λ b. test x ≡ b → IfSome (cond b (Some x) None) P) [ true ↦ λ is. sound x is | false ↦ λ _. tt ] refl

ids_are_sound : (d : Data) → IfSome (as_id d) (λ id. id ≤ id_max)
ids_are_sound d = filtered (λ id. id ≤ id_max) (λ id. nat_le id id_max) (λ id h. search (rules, tests)) (option_and_then as_u64 (as_number d))

plain_are_sound : (d : Data) → IfSome (as_plain d) (λ text. is_plain text ≡ true)
plain_are_sound d = filtered (λ text. is_plain text ≡ true) is_plain (λ text h. h) (as_str d)

-- the value of a key that may be left out
any_is_sound : {A : Type 0} (P : A → Type 0) (form : Data → Option A) → ((d : Data) → IfSome (form d) P) → (value : Option Data) (x : Option A) → if_any form value ≡ Some x → IfSome x P
any_is_sound {A = A} P form sound value x h = by (present value) h
  where
    inner : (o : Option A) (x : Option A) → IfSome o P → option_map Some o ≡ Some x → IfSome x P
    inner None x is h = cc
    inner (Some y) None is h = tt
    inner (Some y) (Some z) is h = let same : y ≡ z = cc in subst P same is

    by : (o : Option Data) → option_map_or (λ d. option_map Some (form d)) o (Some None) ≡ Some x → IfSome x P
    by None h = let same : None ≡ x = cc in subst (λ o. IfSome o P) same tt
    by (Some d) h = inner (form d) x (sound d) h

-- the value of a key that has a default
default_is_sound : {A : Type 0} (P : A → Type 0) (default : A) (form : Data → Option A) → P default → ((d : Data) → IfSome (form d) P) → (value : Option Data) (x : A) → or_default default form value ≡ Some x → P x
default_is_sound {A = A} P default form base sound value x h = by (present value) h
  where
    inner : (o : Option A) → IfSome o P → o ≡ Some x → P x
    inner None is h = cc
    inner (Some y) is h = let same : y ≡ x = cc in subst P same is

    by : (o : Option Data) → option_map_or form o (Some default) ≡ Some x → P x
    by None h = let same : default ≡ x = cc in subst P same base
    by (Some d) h = inner (form d) (sound d) h

pub id_is_sound : (place : Place) (key : List ℕ) (d : Data) (id : Option ℕ) → field (if_any as_id) place key d ≡ Ok id → IfSome id (λ id. id ≤ id_max)
id_is_sound place key d id h = any_is_sound (λ id. id ≤ id_max) as_id ids_are_sound (get key d) id (field_is_read (if_any as_id) place key d id h)

pub text_is_sound : (place : Place) (key : List ℕ) (d : Data) (text : Option (List ℕ)) → field (if_any as_plain) place key d ≡ Ok text → IfSome text (λ text. is_plain text ≡ true)
text_is_sound place key d text h = any_is_sound (λ text. is_plain text ≡ true) as_plain plain_are_sound (get key d) text (field_is_read (if_any as_plain) place key d text h)

pub text_or_is_sound : (default : List ℕ) → is_plain default ≡ true → (place : Place) (key : List ℕ) (d : Data) (text : List ℕ) → field (or_default default as_plain) place key d ≡ Ok text → is_plain text ≡ true
text_or_is_sound default base place key d text h = default_is_sound (λ text. is_plain text ≡ true) default as_plain base plain_are_sound (get key d) text (field_is_read (or_default default as_plain) place key d text h)

module _ {A : Type 0} (P : A → Type 0) (name : A → List ℕ) (read : List A → Data → Read A)
    (sound : (before : List A) (d : Data) (x : A) → read before d ≡ Ok x → P x × (has (map name before) (name x) ≡ false)) where
  -- what is read one after another is sound, and each has a name of its own
  pub each_is_sound : (before : List A) (ds : List Data) (xs : List A) → All P before → are_distinct (map name before) ≡ true → read_each read before ds ≡ Ok xs → All P xs × (are_distinct (map name xs) ≡ true)
  each_is_sound before [] xs all distinct h = let same : before ≡ xs = cc in (subst (All P) same all, subst (λ xs. are_distinct (map name xs) ≡ true) same distinct)
  each_is_sound before (d ∷ ds) xs all distinct h =
      let one = bound _ _ _ h in
      let is = sound before d one.0 one.1 in
      each_is_sound (before ++ one.0 ∷ []) ds xs (All-push P before one.0 all is.0)
      (subst (λ names. are_distinct names ≡ true) (sym (map-append name before (one.0 ∷ []))) (distinct_push (map name before) (name one.0) distinct is.1)) one.2
