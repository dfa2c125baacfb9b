-- Rows that are made again are the same.
use Rattle.std.proofs.Common.{◌≡◌, ◌⊎◌, ℕ, ◌&&◌, ◌||◌, ◌++◌, Bool, true, false, not, List, filter, Option, None, Some, inl, inr, refl, sym, ap, ◌∙◌, true≢false}
use Rattle.std.proofs.Math.Path.{fun_ext}
use Rattle.std.specs.Option.{option_or}
use Rattle.account_text.specs.declared.group.GroupRow.{GroupRow}
use Rattle.account_text.specs.declared.passwd.PasswdRow.{PasswdRow}
use Rattle.account_text.specs.declared.shadow.ShadowRow.{ShadowRow}
use Rattle.switch_names.specs.Names.{Name, has}
use Rattle.users_spec.specs.declared.group_spec.GroupSpec.{GroupSpec}
use Rattle.users_spec.specs.declared.user_spec.UserSpec.{UserSpec}
use Rattle.users_spec.specs.Spec.{Accounts}
use Rattle.users_merge.specs.Stored.{ordered}
use Rattle.users_merge.specs.Rows.{fixed, group_password, group_row, member_stays, members, old_members, passwd_row, row_password, shadow_rest, shadow_row, stays}
use Rattle.users_merge.proofs.NameLemmas.{has-append}
use Rattle.users_merge.proofs.NameOrderLemmas.{ordered_has}
use Rattle.users_merge.proofs.OrderedLemmas.{ordered_same}
use Rattle.host_trait.proofs.NameOrder.{has_filter}

-- ---- tests

-- names that are declared now are left out anyway
pub stays_in_union : (mutable now before : Bool) → (mutable && not now && not (before || now)) ≡ (mutable && not now && not before)
stays_in_union false now before = refl
stays_in_union true true before = refl
stays_in_union true false true = refl
stays_in_union true false false = refl

-- what stays by one test, where it stays by another too
pub stays_both : (mutable now before : Bool) → ((mutable && not now && not before) && (mutable && not now && not now)) ≡ (mutable && not now && not before)
stays_both false now before = refl
stays_both true true before = refl
stays_both true false true = refl
stays_both true false false = refl

pub and_self : (test : Bool) → (test && test) ≡ test
and_self true = refl
and_self false = refl

pub or_nothing : (test other : Bool) → other ≡ false → (test || other) ≡ test
or_nothing true other none = refl
or_nothing false other none = none

-- a member is declared, or stays by each test
member_again : (declared keeps again old : Bool) → (keeps && again) ≡ keeps → (declared || (again && (declared || (keeps && old)))) ≡ (declared || (keeps && old))
member_again true keeps again old both = refl
member_again false false true old both = refl
member_again false false false old both = refl
member_again false true true old both = refl
member_again false true false old both = absurd (true≢false (sym both))

pub or_again : {X : Type 0} (one other : Option X) → option_or one (option_or one other) ≡ option_or one other
or_again None other = refl
or_again (Some x) other = refl

-- ---- rows of accounts that aren't declared

stays_again : {Row : Type 0} (mutable was_declared : Bool) (row : Option Row) → stays mutable was_declared (stays mutable was_declared row) ≡ stays mutable was_declared row
stays_again false was_declared row = refl
stays_again true true row = refl
stays_again true false row = refl

stays_new : {Row : Type 0} (mutable was_declared : Bool) (row : Option Row) → stays mutable false (stays mutable was_declared row) ≡ stays mutable was_declared row
stays_new false was_declared row = refl
stays_new true true row = refl
stays_new true false row = refl

stays_later : {Row : Type 0} (mutable was_declared later : Bool) (row : Option Row) → (later ≡ was_declared) ⊎ (later ≡ false) → stays mutable later (stays mutable was_declared row) ≡ stays mutable was_declared row
stays_later mutable was_declared later row (inl same) = ap (λ b. stays mutable b (stays mutable was_declared row)) same ∙ stays_again mutable was_declared row
stays_later mutable was_declared later row (inr none) = ap (λ b. stays mutable b (stays mutable was_declared row)) none ∙ stays_new mutable was_declared row

-- ---- rows of groups

module _ (spec : Accounts) (before later : List Name) where
  -- the members of a row that was made
  members_again :
      (group : GroupSpec) (row : Option GroupRow) (new : GroupRow) → new.members ≡ members spec before group row →
      ((name : Name) → (member_stays spec before name && member_stays spec later name) ≡ member_stays spec before name) →
      members spec later group (Some new) ≡ members spec before group row
  members_again group row new made both = ordered_same _ _ (λ name.
      has-append group.members (filter (member_stays spec later) new.members) name
      ∙ ap (λ b. has group.members name || b)
      (has_filter (member_stays spec later) new.members name
      ∙ ap (λ b. member_stays spec later name && b) (ap (λ names. has names name) made ∙ ordered_has _ name ∙ named name))
      ∙ member_again (has group.members name) (member_stays spec before name) (member_stays spec later name) (has (old_members row) name) (both name)
      ∙ sym (named name))
    where
      named : (name : Name) → has (group.members ++ filter (member_stays spec before) (old_members row)) name ≡ (has group.members name || (member_stays spec before name && has (old_members row) name))
      named name =
          has-append group.members (filter (member_stays spec before) (old_members row)) name
          ∙ ap (λ b. has group.members name || b) (has_filter (member_stays spec before) (old_members row) name)

  -- the row that was made is made again
  pub group_row_again :
      (group : Option GroupSpec) (id : Option ℕ) (was_declared is_declared : Bool) (row : Option GroupRow) →
      ((name : Name) → (member_stays spec before name && member_stays spec later name) ≡ member_stays spec before name) →
      (group ≡ None → (is_declared ≡ was_declared) ⊎ (is_declared ≡ false)) →
      group_row spec later group id is_declared (group_row spec before group id was_declared row) ≡ group_row spec before group id was_declared row
  group_row_again None id was_declared is_declared row both was = stays_later spec.mutable was_declared is_declared row (was refl)
  group_row_again (Some group) None was_declared is_declared row both was = refl
  group_row_again (Some group) (Some id) was_declared is_declared row both was =
      ap (λ names. Some (record { name = group.name; password = group_password row; gid = id; members = names }))
      (members_again group row (record { name = group.name; password = group_password row; gid = id; members = members spec before group row }) refl both)

  -- the row that stood is made into the same one
  pub group_row_same :
      (group : Option GroupSpec) (id : Option ℕ) (was_declared is_declared : Bool) (row : Option GroupRow) →
      ((name : Name) → member_stays spec later name ≡ member_stays spec before name) → (group ≡ None → is_declared ≡ was_declared) →
      group_row spec later group id is_declared row ≡ group_row spec before group id was_declared row
  group_row_same None id was_declared is_declared row same was = ap (λ b. stays spec.mutable b row) (was refl)
  group_row_same (Some group) None was_declared is_declared row same was = refl
  group_row_same (Some group) (Some id) was_declared is_declared row same was =
      ap (λ (test : Name → Bool). Some (record { name = group.name; password = group_password row; gid = id; members = ordered (group.members ++ filter test (old_members row)) }))
      (fun_ext same)

-- ---- rows of users

pub passwd_row_again :
    (spec : Accounts) (gids : Name → Option ℕ) (user : Option UserSpec) (id : Option ℕ) (was_declared is_declared : Bool) (row : Option PasswdRow) →
    (user ≡ None → (is_declared ≡ was_declared) ⊎ (is_declared ≡ false)) →
    passwd_row spec gids user id is_declared (passwd_row spec gids user id was_declared row) ≡ passwd_row spec gids user id was_declared row
passwd_row_again spec gids None id was_declared is_declared row was = stays_later spec.mutable was_declared is_declared row (was refl)
passwd_row_again spec gids (Some user) None was_declared is_declared row was = refl
passwd_row_again spec gids (Some user) (Some id) was_declared is_declared row was = refl

pub passwd_row_same :
    (spec : Accounts) (gids : Name → Option ℕ) (user : Option UserSpec) (id : Option ℕ) (was_declared is_declared : Bool) (row : Option PasswdRow) →
    (user ≡ None → is_declared ≡ was_declared) →
    passwd_row spec gids user id is_declared row ≡ passwd_row spec gids user id was_declared row
passwd_row_same spec gids None id was_declared is_declared row was = ap (λ b. stays spec.mutable b row) (was refl)
passwd_row_same spec gids (Some user) None was_declared is_declared row was = refl
passwd_row_same spec gids (Some user) (Some id) was_declared is_declared row was = refl

fixed_again : (mutable : Bool) (hashed : Option (List ℕ)) (password : List ℕ) → fixed mutable hashed (fixed mutable hashed password) ≡ fixed mutable hashed password
fixed_again true hashed password = refl
fixed_again false None password = refl
fixed_again false (Some hash) password = refl

pub shadow_row_again :
    (spec : Accounts) (user : Option UserSpec) (merged : Bool) (row : Option ShadowRow) →
    shadow_row spec user merged (shadow_row spec user merged row) ≡ shadow_row spec user merged row
shadow_row_again spec user false row = refl
shadow_row_again spec None true row = refl
shadow_row_again spec (Some user) true None =
    ap (λ text. Some (record { name = user.name; password = text; rest = shadow_rest None })) (fixed_again spec.mutable user.hashed (row_password user None))
shadow_row_again spec (Some user) true (Some row) =
    ap (λ text. Some (record { name = user.name; password = text; rest = row.rest })) (fixed_again spec.mutable user.hashed row.password)
