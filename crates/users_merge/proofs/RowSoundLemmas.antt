-- The rows that are merged can be written.
use Rattle.std.proofs.Common.{◌≡◌, ℕ, ◌==◌, ◌&&◌, Bool, true, false, not, cond, List, [], ◌∷◌, codes, count_by, filter, map, Option, None, Some, IfSome, option_map, nat_le, refl, ◌∙◌}
use Rattle.std.proofs.lemmas.Bool.{and_parts, and_from, le-leb}
use Rattle.std.proofs.lemmas.List.Folds.{list_all-append}
use Rattle.std.specs.List.{AllByRecursion, cons_option, filter_map, list_all, list_any}
use Rattle.std.specs.Option.{option_or, unwrap_or}
use Rattle.switch_names.specs.Names.{Name, is_name}
use Rattle.switch_names.specs.Texts.{is_line_feed}
use Rattle.switch_names.specs.Ids.{id_max}
use Rattle.account_text.specs.Field.{is_colon, is_member, is_plain, is_row_name}
use Rattle.account_text.specs.Group.{group_name, is_group_row}
use Rattle.account_text.specs.Order.{row_named}
use Rattle.account_text.specs.Passwd.{is_passwd_row}
use Rattle.account_text.specs.Shadow.{is_shadow_row}
use Rattle.account_text.specs.declared.group.GroupRow.{GroupRow}
use Rattle.account_text.specs.declared.passwd.PasswdRow.{PasswdRow}
use Rattle.account_text.specs.declared.shadow.ShadowRow.{ShadowRow}
use Rattle.account_text.proofs.FirstLemmas.{all_filter}
use Rattle.users_spec.specs.AccountName as declared
use Rattle.users_spec.specs.AccountName.{is_account_name}
use Rattle.users_spec.specs.GroupSpec.{IsSoundGroup}
use Rattle.users_spec.specs.UserSpec.{IsSoundUser}
use Rattle.users_spec.specs.declared.group_spec.GroupSpec.{GroupSpec}
use Rattle.users_spec.specs.declared.user_spec.UserSpec.{UserSpec}
use Rattle.users_merge.specs.Given.{IsId, given_accounts, given_ids}
use Rattle.users_merge.specs.GroupRows.{given_group, merged_groups}
use Rattle.users_merge.specs.Rows.{declared_row, fixed, group_password, old_members, row_password, shadow_rest}
use Rattle.users_merge.specs.ShadowRows.{declared_shadow, shadow_beside, shadow_by}
use Rattle.users_merge.specs.UserRows.{given_row, merged_users}
use Rattle.users_merge.specs.declared.giving.Given.{Given}
use Rattle.users_merge.proofs.SoundLemmas.{all_ordered, name_is_member, name_is_row_name, plain_is_plain}

-- what a test says of each row it says of the row of a name
module _ {Row : Type 0} (name_of : Row → Name) (p : Row → Bool) where
  pub named_all : (rows : List Row) → list_all p rows ≡ true → (name : Name) → IfSome (row_named name_of rows name) (λ row. p row ≡ true)
  named_all [] all name = tt
  named_all (first ∷ rows) all name = by (is_name name (name_of first)) (named_all rows (and_parts (p first) (list_all p rows) all).1 name)
    where
      by : (b : Bool) → IfSome (row_named name_of rows name) (λ row. p row ≡ true) → IfSome (cond b (Some first) (row_named name_of rows name)) (λ row. p row ≡ true)
      by true later = (and_parts (p first) (list_all p rows) all).0
      by false later = later

pub all_names : (p q : Name → Bool) → ((name : Name) → p name ≡ true → q name ≡ true) → (names : List Name) → list_all p names ≡ true → list_all q names ≡ true
all_names p q more [] all = refl
all_names p q more (name ∷ names) all = let parts = and_parts (p name) (list_all p names) all in and_from _ _ (more name parts.0) (all_names p q more names parts.1)

-- ---- groups

group_parts : (row : GroupRow) → is_group_row row ≡ true → (is_plain row.password ≡ true) × (list_all is_member row.members ≡ true)
group_parts row is =
    let front = and_parts (is_row_name row.name && is_plain row.password && nat_le row.gid id_max) (list_all is_member row.members) is in
    let more = and_parts (is_row_name row.name && is_plain row.password) (nat_le row.gid id_max) front.0 in
    ((and_parts (is_row_name row.name) (is_plain row.password) more.0).1, front.1)

group_made : (users : Name → Bool) (old : Name → Option GroupRow) → ((name : Name) → IfSome (old name) (λ row. is_group_row row ≡ true)) → (one : Given GroupSpec) → IsSoundGroup one.account.now → IsId one.id →
    is_group_row (given_group users old one) ≡ true
group_made users old sound one group id =
    and_from _ _
    (and_from _ _ (and_from _ _ (name_is_row_name one.account.now.name group.name) (password (old one.account.now.name) (sound one.account.now.name))) (le-leb one.id id_max id))
    (all_ordered is_member _
    (list_all-append is_member one.account.now.members (filter users (old_members (old one.account.now.name)))
    ∙ and_from _ _ (all_names is_account_name is_member name_is_member one.account.now.members group.members) (all_filter users is_member (old_members (old one.account.now.name)) (members (old one.account.now.name) (sound one.account.now.name)))))
  where
    password : (o : Option GroupRow) → IfSome o (λ row. is_group_row row ≡ true) → is_plain (group_password o) ≡ true
    password None is = refl
    password (Some row) is = (group_parts row is).0

    members : (o : Option GroupRow) → IfSome o (λ row. is_group_row row ≡ true) → list_all is_member (old_members o) ≡ true
    members None is = refl
    members (Some row) is = (group_parts row is).1

all_made : {D Row : Type 0} (p : Row → Bool) (f : Given D → Row) (P : D → Type 0) → ((one : Given D) → P one.account.now → IsId one.id → p (f one) ≡ true) →
    (given : List (Given D)) → AllByRecursion P (given_accounts given) → AllByRecursion IsId (given_ids given) → list_all p (map f given) ≡ true
all_made p f P makes [] each ids = refl
all_made p f P makes (one ∷ given) each ids = and_from _ _ (makes one each.0 ids.0) (all_made p f P makes given each.1 ids.1)

pub groups_sound :
    (groups users : Name → Bool) (given : List (Given GroupSpec)) (table : List GroupRow) → list_all is_group_row table ≡ true → AllByRecursion IsSoundGroup (given_accounts given) → AllByRecursion IsId (given_ids given) →
    list_all is_group_row (merged_groups groups users given table) ≡ true
groups_sound groups users given table sound each ids =
    list_all-append is_group_row (map (given_group users (row_named group_name table)) given) (filter (λ row. groups row.name) table)
    ∙ and_from _ _
    (all_made is_group_row (given_group users (row_named group_name table)) IsSoundGroup (group_made users (row_named group_name table) (named_all group_name is_group_row table sound)) given each ids)
    (all_filter (λ (row : GroupRow). groups row.name) is_group_row table sound)

-- ---- users

user_made : (user : UserSpec) (id gid : ℕ) → IsSoundUser user → IsId id → IsId gid → is_passwd_row (declared_row user id gid) ≡ true
user_made user id gid is one other =
    and_from _ _
    (and_from _ _
    (and_from _ _
    (and_from _ _ (and_from _ _ (and_from _ _ (name_is_row_name user.name is.name) refl) (le-leb id id_max one)) (le-leb gid id_max other))
    (plain_is_plain user.description is.description))
    (plain_is_plain user.home is.home))
    (plain_is_plain user.shell is.shell)

pub users_sound :
    (users : Name → Bool) (gids : Name → Option ℕ) (given : List (Given UserSpec)) (table : List PasswdRow) → list_all is_passwd_row table ≡ true → ((name : Name) → IfSome (gids name) IsId) →
    AllByRecursion IsSoundUser (given_accounts given) → AllByRecursion IsId (given_ids given) → list_all is_passwd_row (merged_users users gids given table) ≡ true
users_sound users gids given table sound bounded each ids =
    list_all-append is_passwd_row (filter_map (given_row gids) given) (filter (λ row. users row.name) table)
    ∙ and_from _ _ (rows given each ids) (all_filter (λ (row : PasswdRow). users row.name) is_passwd_row table sound)
  where
    rows : (all : List (Given UserSpec)) → AllByRecursion IsSoundUser (given_accounts all) → AllByRecursion IsId (given_ids all) → list_all is_passwd_row (filter_map (given_row gids) all) ≡ true
    rows [] each ids = refl
    rows (one ∷ all) each ids = by (gids one.account.now.group) (bounded one.account.now.group) (rows all each.1 ids.1)
      where
        by : (o : Option ℕ) → IfSome o IsId → list_all is_passwd_row (filter_map (given_row gids) all) ≡ true → list_all is_passwd_row (cons_option (option_map (declared_row one.account.now one.id) o) (filter_map (given_row gids) all)) ≡ true
        by None is rest = rest
        by (Some gid) is rest = and_from _ _ (user_made one.account.now one.id gid each.0 ids.0 is) rest

-- ---- shadow

shadow_parts : (row : ShadowRow) → is_shadow_row row ≡ true → (is_plain row.password ≡ true) × (not (list_any is_line_feed row.rest) ≡ true) × ((count_by is_colon row.rest == 6) ≡ true)
shadow_parts row is =
    let front = and_parts (is_row_name row.name && is_plain row.password && not (list_any is_line_feed row.rest)) (count_by is_colon row.rest == 6) is in
    let more = and_parts (is_row_name row.name && is_plain row.password) (not (list_any is_line_feed row.rest)) front.0 in
    ((and_parts (is_row_name row.name) (is_plain row.password) more.0).1, more.1, front.1)

shadow_made : (mutable : Bool) (user : UserSpec) (old : Option ShadowRow) → IsSoundUser user → IfSome old (λ row. is_shadow_row row ≡ true) → is_shadow_row (declared_shadow mutable user old) ≡ true
shadow_made mutable user old is sound =
    and_from _ _ (and_from _ _ (and_from _ _ (name_is_row_name user.name is.name) (password mutable user.hashed is.hashed)) (rest_lines old sound)) (rest_colons old sound)
  where
    first : (hashed initial : Option (List ℕ)) → IfSome hashed (λ text. declared.is_plain text ≡ true) → IfSome initial (λ text. declared.is_plain text ≡ true) → is_plain (unwrap_or (option_or hashed initial) (codes "!")) ≡ true
    first None None one other = refl
    first None (Some initial) one other = plain_is_plain initial other
    first (Some hashed) initial one other = plain_is_plain hashed one

    row_is : (o : Option ShadowRow) → IfSome o (λ row. is_shadow_row row ≡ true) → is_plain (row_password user o) ≡ true
    row_is None none = first user.hashed user.initial is.hashed is.initial
    row_is (Some row) good = (shadow_parts row good).0

    password : (b : Bool) (hashed : Option (List ℕ)) → IfSome hashed (λ text. declared.is_plain text ≡ true) → is_plain (fixed b hashed (row_password user old)) ≡ true
    password true hashed one = row_is old sound
    password false None one = row_is old sound
    password false (Some hashed) one = plain_is_plain hashed one

    rest_lines : (o : Option ShadowRow) → IfSome o (λ row. is_shadow_row row ≡ true) → not (list_any is_line_feed (shadow_rest o)) ≡ true
    rest_lines None none = refl
    rest_lines (Some row) good = (shadow_parts row good).1

    rest_colons : (o : Option ShadowRow) → IfSome o (λ row. is_shadow_row row ≡ true) → (count_by is_colon (shadow_rest o) == 6) ≡ true
    rest_colons None none = refl
    rest_colons (Some row) good = (shadow_parts row good).2

pub shadow_sound :
    (mutable : Bool) (users : Name → Option UserSpec) (old : Name → Option ShadowRow) → ((name : Name) → IfSome (users name) IsSoundUser) → ((name : Name) → IfSome (old name) (λ row. is_shadow_row row ≡ true)) →
    (passwd : List PasswdRow) → list_all is_shadow_row (filter_map (shadow_beside mutable users old) passwd) ≡ true
shadow_sound mutable users old sound good [] = refl
shadow_sound mutable users old sound good (row ∷ passwd) = by (users row.name) (sound row.name) (old row.name) (good row.name) (shadow_sound mutable users old sound good passwd)
  where
    by : (user : Option UserSpec) → IfSome user IsSoundUser → (was : Option ShadowRow) → IfSome was (λ r. is_shadow_row r ≡ true) → list_all is_shadow_row (filter_map (shadow_beside mutable users old) passwd) ≡ true →
        list_all is_shadow_row (cons_option (shadow_by mutable user was) (filter_map (shadow_beside mutable users old) passwd)) ≡ true
    by (Some user) one was other rest = and_from _ _ (shadow_made mutable user was one other) rest
    by None one (Some r) other rest = and_from _ _ other rest
    by None one None other rest = rest
