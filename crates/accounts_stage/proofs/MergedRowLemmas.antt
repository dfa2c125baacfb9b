-- The rows that a merge makes can be written, and their texts are UTF-8.
use Rattle.std.proofs.Common.{◌≡◌, ℕ, ◌&&◌, ◌==◌, Bool, true, false, not, List, [], ◌∷◌, ◌++◌, codes, count_by, filter, Option, None, Some, IfSome, option_map, nat_le, refl, ◌∙◌, arith}
use Rattle.std.proofs.lemmas.Bool.{and_from, and_parts, le-leb}
use Rattle.std.proofs.lemmas.List.Folds.{list_all-append}
use Rattle.std.specs.List.{list_all, list_any}
use Rattle.std.specs.Option.{option_or, unwrap_or}
use Rattle.std.specs.Str.{is_utf8}
use Rattle.switch_names.specs.Names.{Name}
use Rattle.account_text.specs.declared.group.GroupRow.{GroupRow}
use Rattle.account_text.specs.declared.passwd.PasswdRow.{PasswdRow}
use Rattle.account_text.specs.declared.shadow.ShadowRow.{ShadowRow}
use Rattle.switch_names.specs.Texts.{is_line_feed}
use Rattle.switch_names.specs.Ids.{id_max}
use Rattle.account_text.specs.Field.{is_colon, is_member, is_plain, is_row_name}
use Rattle.account_text.specs.Group.{is_group_row}
use Rattle.account_text.specs.Shadow.{is_shadow_row}
use Rattle.account_text.proofs.FirstLemmas.{all_filter}
use Rattle.users_spec.specs.AccountName as declared
use Rattle.users_spec.specs.AccountName.{is_account_name}
use Rattle.users_spec.specs.declared.group_spec.GroupSpec.{GroupSpec}
use Rattle.users_spec.specs.declared.user_spec.UserSpec.{UserSpec}
use Rattle.users_spec.specs.GroupSpec.{IsSoundGroup}
use Rattle.users_spec.specs.UserSpec.{IsSoundUser}
use Rattle.users_spec.specs.Spec.{Accounts}
use Rattle.users_merge.specs.Given.{IsId}
use Rattle.users_merge.specs.Rows.{declared_row, fixed, group_password, group_row, member_stays, members, old_members, passwd_row, row_password, shadow_rest, shadow_row, stays}
use Rattle.users_merge.proofs.SoundLemmas.{all_ordered, name_is_member, name_is_row_name, plain_is_plain}
use Rattle.users_merge.proofs.RowSoundLemmas.{all_names}
use Rattle.accounts_stage.proofs.RowTextLemmas.{group_texts, is_group_text, is_passwd_text, is_shadow_text, shadow_texts}
use Rattle.accounts_stage.proofs.TextLemmas.{empty_text, then_text}

-- ---- what is declared

-- the texts of a declared account are UTF-8
abbrev pub is_group_spec_text : GroupSpec → Bool
is_group_spec_text group = list_all is_utf8 (group.name ∷ group.members)

abbrev pub is_some_text : Option (List ℕ) → Bool
is_some_text None = true
is_some_text (Some text) = is_utf8 text

abbrev pub is_user_spec_text : UserSpec → Bool
is_user_spec_text user = list_all is_utf8 (user.name ∷ user.description ∷ user.home ∷ user.shell ∷ []) && (is_some_text user.hashed && is_some_text user.initial)

-- a declared group is sound, and its texts are UTF-8
pub record IsGoodGroup (group : GroupSpec) : Type 0 where
  pub sound : IsSoundGroup group
  pub texts : is_group_spec_text group ≡ true

pub record IsGoodUser (user : UserSpec) : Type 0 where
  pub sound : IsSoundUser user
  pub texts : is_user_spec_text user ≡ true

x_text : is_utf8 (codes "x") ≡ true
x_text = then_text 120 [] (omega arith) empty_text

none_text : is_utf8 (codes "!") ≡ true
none_text = then_text 33 [] (omega arith) empty_text

rest_text : is_utf8 (codes "1::::::") ≡ true
rest_text =
    let colon = λ (text : List ℕ) (is : is_utf8 text ≡ true). then_text 58 text (omega arith) is in
    then_text 49 (codes "::::::") (omega arith) (colon _ (colon _ (colon _ (colon _ (colon _ (colon _ empty_text))))))

-- ---- a row that stays

stays_good : {Row : Type 0} (P : Row → Type 0) (mutable was : Bool) (row : Option Row) → IfSome row P → IfSome (stays mutable was row) P
stays_good P false was row is = tt
stays_good P true true row is = tt
stays_good P true false row is = is

-- ---- groups

-- what is known of an old row of a group
record GroupParts (row : GroupRow) : Type 0 where
  password : is_plain row.password ≡ true
  password_text : is_utf8 row.password ≡ true
  members : list_all is_member row.members ≡ true
  member_texts : list_all is_utf8 row.members ≡ true

group_parts : (row : GroupRow) → is_group_text row ≡ true → GroupParts row
group_parts row is =
    let both = and_parts (is_group_row row) (list_all is_utf8 (group_texts row)) is in
    let front = and_parts (is_row_name row.name && is_plain row.password && nat_le row.gid id_max) (list_all is_member row.members) both.0 in
    let more = and_parts (is_row_name row.name && is_plain row.password) (nat_le row.gid id_max) front.0 in
    let texts = and_parts (is_utf8 row.name) (list_all is_utf8 (row.password ∷ row.members)) both.1 in
    let rest = and_parts (is_utf8 row.password) (list_all is_utf8 row.members) texts.1 in
    record { password = (and_parts (is_row_name row.name) (is_plain row.password) more.0).1; password_text = rest.0; members = front.1; member_texts = rest.1 }

module _ (spec : Accounts) (before : List Name) (group : GroupSpec) (good : IsGoodGroup group) where
  password_plain : (old : Option GroupRow) → IfSome old (λ row. is_group_text row ≡ true) → is_plain (group_password old) ≡ true
  password_plain None is = refl
  password_plain (Some row) is = (group_parts row is).password

  password_utf8 : (old : Option GroupRow) → IfSome old (λ row. is_group_text row ≡ true) → is_utf8 (group_password old) ≡ true
  password_utf8 None is = x_text
  password_utf8 (Some row) is = (group_parts row is).password_text

  were_members : (old : Option GroupRow) → IfSome old (λ row. is_group_text row ≡ true) → list_all is_member (old_members old) ≡ true
  were_members None is = refl
  were_members (Some row) is = (group_parts row is).members

  were_texts : (old : Option GroupRow) → IfSome old (λ row. is_group_text row ≡ true) → list_all is_utf8 (old_members old) ≡ true
  were_texts None is = refl
  were_texts (Some row) is = (group_parts row is).member_texts

  member_all : (p : Name → Bool) (old : Option GroupRow) → list_all p group.members ≡ true → list_all p (old_members old) ≡ true → list_all p (members spec before group old) ≡ true
  member_all p old one other =
      all_ordered p (group.members ++ filter (member_stays spec before) (old_members old))
      (list_all-append p group.members (filter (member_stays spec before) (old_members old)) ∙ and_from _ _ one (all_filter (member_stays spec before) p (old_members old) other))

  declared_group : (old : Option GroupRow) (id : ℕ) → IsId id → IfSome old (λ row. is_group_text row ≡ true) →
      is_group_text (record { name = group.name; password = group_password old; gid = id; members = members spec before group old }) ≡ true
  declared_group old id is was =
      let texts = and_parts (is_utf8 group.name) (list_all is_utf8 group.members) good.texts in
      and_from _ _
      (and_from _ _
      (and_from _ _ (and_from _ _ (name_is_row_name group.name good.sound.name) (password_plain old was)) (le-leb id id_max is))
      (member_all is_member old (all_names is_account_name is_member name_is_member group.members good.sound.members) (were_members old was)))
      (and_from _ _ texts.0 (and_from _ _ (password_utf8 old was) (member_all is_utf8 old texts.1 (were_texts old was))))

-- the row of a group can be written
pub group_row_good : (spec : Accounts) (before : List Name) (group : Option GroupSpec) → IfSome group IsGoodGroup → (id : Option ℕ) → IfSome id IsId → (was : Bool) (old : Option GroupRow) → IfSome old (λ row. is_group_text row ≡ true) →
    IfSome (group_row spec before group id was old) (λ row. is_group_text row ≡ true)
group_row_good spec before None good id is was old known = stays_good (λ (row : GroupRow). is_group_text row ≡ true) spec.mutable was old known
group_row_good spec before (Some group) good None is was old known = tt
group_row_good spec before (Some group) good (Some id) is was old known = declared_group spec before group good old id is known

-- ---- users

declared_user : (user : UserSpec) (id gid : ℕ) → IsGoodUser user → IsId id → IsId gid → is_passwd_text (declared_row user id gid) ≡ true
declared_user user id gid good one other =
    let texts = and_parts (list_all is_utf8 (user.name ∷ user.description ∷ user.home ∷ user.shell ∷ [])) (is_some_text user.hashed && is_some_text user.initial) good.texts in
    let name = and_parts (is_utf8 user.name) (list_all is_utf8 (user.description ∷ user.home ∷ user.shell ∷ [])) texts.0 in
    and_from _ _
    (and_from _ _
    (and_from _ _
    (and_from _ _
    (and_from _ _ (and_from _ _ (and_from _ _ (name_is_row_name user.name good.sound.name) refl) (le-leb id id_max one)) (le-leb gid id_max other))
    (plain_is_plain user.description good.sound.description))
    (plain_is_plain user.home good.sound.home))
    (plain_is_plain user.shell good.sound.shell))
    (and_from _ _ name.0 (and_from _ _ x_text name.1))

pub passwd_row_good : (spec : Accounts) (gids : Name → Option ℕ) → ((name : Name) → IfSome (gids name) IsId) → (user : Option UserSpec) → IfSome user IsGoodUser → (id : Option ℕ) → IfSome id IsId → (was : Bool) (old : Option PasswdRow) →
    IfSome old (λ row. is_passwd_text row ≡ true) → IfSome (passwd_row spec gids user id was old) (λ row. is_passwd_text row ≡ true)
passwd_row_good spec gids bounded None good id is was old known = stays_good (λ (row : PasswdRow). is_passwd_text row ≡ true) spec.mutable was old known
passwd_row_good spec gids bounded (Some user) good None is was old known = tt
passwd_row_good spec gids bounded (Some user) good (Some id) is was old known = by (gids user.group) (bounded user.group)
  where
    by : (o : Option ℕ) → IfSome o IsId → IfSome (option_map (λ gid. declared_row user id gid) o) (λ row. is_passwd_text row ≡ true)
    by None small = tt
    by (Some gid) small = declared_user user id gid good is small

-- ---- shadow

record ShadowParts (row : ShadowRow) : Type 0 where
  password : is_plain row.password ≡ true
  password_text : is_utf8 row.password ≡ true
  feeds : not (list_any is_line_feed row.rest) ≡ true
  colons : (count_by is_colon row.rest == 6) ≡ true
  rest_text : is_utf8 row.rest ≡ true

shadow_parts : (row : ShadowRow) → is_shadow_text row ≡ true → ShadowParts row
shadow_parts row is =
    let both = and_parts (is_shadow_row row) (list_all is_utf8 (shadow_texts row)) is in
    let front = and_parts (is_row_name row.name && is_plain row.password && not (list_any is_line_feed row.rest)) (count_by is_colon row.rest == 6) both.0 in
    let more = and_parts (is_row_name row.name && is_plain row.password) (not (list_any is_line_feed row.rest)) front.0 in
    let name = and_parts (is_utf8 row.name) (list_all is_utf8 (row.password ∷ row.rest ∷ [])) both.1 in
    let password = and_parts (is_utf8 row.password) (list_all is_utf8 (row.rest ∷ [])) name.1 in
    record {
      password = (and_parts (is_row_name row.name) (is_plain row.password) more.0).1;
      password_text = password.0;
      feeds = more.1;
      colons = front.1;
      rest_text = (and_parts (is_utf8 row.rest) true password.1).0;
    }

module _ (mutable : Bool) (user : UserSpec) (good : IsGoodUser user) (old : Option ShadowRow) (was : IfSome old (λ row. is_shadow_text row ≡ true)) where
  -- what holds of the texts that a password may be holds of the password
  password_is : (p : List ℕ → Bool) → p (codes "!") ≡ true → IfSome user.hashed (λ text. p text ≡ true) → IfSome user.initial (λ text. p text ≡ true) → IfSome old (λ row. p row.password ≡ true) →
      p (fixed mutable user.hashed (row_password user old)) ≡ true
  password_is p none hashed initial known = by mutable user.hashed hashed
    where
      first : (h i : Option (List ℕ)) → IfSome h (λ text. p text ≡ true) → IfSome i (λ text. p text ≡ true) → p (unwrap_or (option_or h i) (codes "!")) ≡ true
      first None None one other = none
      first None (Some i) one other = other
      first (Some h) i one other = one

      row_is : (o : Option ShadowRow) → IfSome o (λ row. p row.password ≡ true) → p (row_password user o) ≡ true
      row_is None known = first user.hashed user.initial hashed initial
      row_is (Some row) known = known

      by : (b : Bool) (h : Option (List ℕ)) → IfSome h (λ text. p text ≡ true) → p (fixed b h (row_password user old)) ≡ true
      by true h one = row_is old known
      by false None one = row_is old known
      by false (Some h) one = one

  plain_of : (o : Option (List ℕ)) → IfSome o (λ text. declared.is_plain text ≡ true) → IfSome o (λ text. is_plain text ≡ true)
  plain_of None is = tt
  plain_of (Some text) is = plain_is_plain text is

  text_of : (o : Option (List ℕ)) → is_some_text o ≡ true → IfSome o (λ text. is_utf8 text ≡ true)
  text_of None is = tt
  text_of (Some text) is = is

  of_old : (p : List ℕ → Bool) → ((row : ShadowRow) → ShadowParts row → p row.password ≡ true) → (o : Option ShadowRow) → IfSome o (λ row. is_shadow_text row ≡ true) → IfSome o (λ row. p row.password ≡ true)
  of_old p says None is = tt
  of_old p says (Some row) is = says row (shadow_parts row is)

  rest_is : (p : List ℕ → Bool) → p (codes "1::::::") ≡ true → ((row : ShadowRow) → ShadowParts row → p row.rest ≡ true) → (o : Option ShadowRow) → IfSome o (λ row. is_shadow_text row ≡ true) → p (shadow_rest o) ≡ true
  rest_is p none says None is = none
  rest_is p none says (Some row) is = says row (shadow_parts row is)

  declared_shadow : is_shadow_text (record { name = user.name; password = fixed mutable user.hashed (row_password user old); rest = shadow_rest old }) ≡ true
  declared_shadow =
      let texts = and_parts (list_all is_utf8 (user.name ∷ user.description ∷ user.home ∷ user.shell ∷ [])) (is_some_text user.hashed && is_some_text user.initial) good.texts in
      let name = and_parts (is_utf8 user.name) (list_all is_utf8 (user.description ∷ user.home ∷ user.shell ∷ [])) texts.0 in
      let hashes = and_parts (is_some_text user.hashed) (is_some_text user.initial) texts.1 in
      and_from _ _
      (and_from _ _
      (and_from _ _
      (and_from _ _ (name_is_row_name user.name good.sound.name)
      (password_is is_plain refl (plain_of user.hashed good.sound.hashed) (plain_of user.initial good.sound.initial) (of_old is_plain (λ row parts. parts.password) old was)))
      (rest_is (λ text. not (list_any is_line_feed text)) refl (λ row parts. parts.feeds) old was))
      (rest_is (λ text. count_by is_colon text == 6) refl (λ row parts. parts.colons) old was))
      (and_from _ _ name.0
      (and_from _ _ (password_is is_utf8 none_text (text_of user.hashed hashes.0) (text_of user.initial hashes.1) (of_old is_utf8 (λ row parts. parts.password_text) old was))
      (and_from _ _ (rest_is is_utf8 rest_text (λ row parts. parts.rest_text) old was) refl)))

pub shadow_row_good : (spec : Accounts) (user : Option UserSpec) → IfSome user IsGoodUser → (merged : Bool) (old : Option ShadowRow) → IfSome old (λ row. is_shadow_text row ≡ true) →
    IfSome (shadow_row spec user merged old) (λ row. is_shadow_text row ≡ true)
shadow_row_good spec user good false old was = tt
shadow_row_good spec None good true old was = was
shadow_row_good spec (Some user) good true old was = declared_shadow spec.mutable user good old was
