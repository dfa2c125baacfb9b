-- The line of a sound row is read as that row.
use Rattle.std.proofs.Common.{◌≡◌, ℕ, ◌≤◌, ◌&&◌, true, false, cond, not, List, [], ◌∷◌, filter, ◌==◌, None, Some, option_map, option_and_then, nat_le, refl, ap, ◌∙◌}
use Rattle.std.specs.Fmt.{decimal}
use Rattle.std.specs.List.{count_by, join_with_byte, list_all, list_any}
use Rattle.std.proofs.lemmas.Bool.{and_parts, and_from, eqb-true, leb-true, not-true}
use Rattle.std.proofs.lemmas.List.Splits.{slice_split_at}
use Rattle.account_text.specs.declared.group.GroupRow.{GroupRow}
use Rattle.account_text.specs.declared.passwd.PasswdRow.{PasswdRow}
use Rattle.account_text.specs.declared.shadow.ShadowRow.{ShadowRow}
use Rattle.switch_names.specs.Texts.{is_empty, is_line_feed}
use Rattle.switch_names.specs.Ids.{id_max}
use Rattle.account_text.specs.Field.{fields, id_of, is_colon, is_comma, is_member, is_plain, is_row_name, members_of}
use Rattle.account_text.specs.Group.{group_row, group_line, is_group_row}
use Rattle.account_text.specs.Passwd.{passwd_row, passwd_line, is_passwd_row}
use Rattle.account_text.specs.Shadow.{shadow_row, shadow_line, is_shadow_row}
use Rattle.account_text.proofs.FieldLemmas.{joined_lacks, none_none, plain_id, split_joined, written_id}
use Rattle.account_text.proofs.RowLemmas.{fields_again, no_feed, passwd_with, shadow_read}
use Rattle.account_text.proofs.SoundLemmas.{WritesBack}

record IsNamed (name : List ℕ) : Type 0 where
  plain : is_plain name ≡ true
  some : is_empty name ≡ false

named_parts : (name : List ℕ) → is_row_name name ≡ true → IsNamed name
named_parts name is = let parts = and_parts (is_plain name) (not (is_empty name)) is in record { plain = parts.0; some = not-true _ parts.1 }

-- ---- passwd

record PasswdParts (row : PasswdRow) : Type 0 where
  name : IsNamed row.name
  password : is_plain row.password ≡ true
  uid : row.uid ≤ id_max
  gid : row.gid ≤ id_max
  gecos : is_plain row.gecos ≡ true
  home : is_plain row.home ≡ true
  shell : is_plain row.shell ≡ true

passwd_parts : (row : PasswdRow) → is_passwd_row row ≡ true → PasswdParts row
passwd_parts row is =
    let p6 = and_parts (is_row_name row.name && is_plain row.password && nat_le row.uid id_max && nat_le row.gid id_max && is_plain row.gecos && is_plain row.home) (is_plain row.shell) is in
    let p5 = and_parts (is_row_name row.name && is_plain row.password && nat_le row.uid id_max && nat_le row.gid id_max && is_plain row.gecos) (is_plain row.home) p6.0 in
    let p4 = and_parts (is_row_name row.name && is_plain row.password && nat_le row.uid id_max && nat_le row.gid id_max) (is_plain row.gecos) p5.0 in
    let p3 = and_parts (is_row_name row.name && is_plain row.password && nat_le row.uid id_max) (nat_le row.gid id_max) p4.0 in
    let p2 = and_parts (is_row_name row.name && is_plain row.password) (nat_le row.uid id_max) p3.0 in
    let p1 = and_parts (is_row_name row.name) (is_plain row.password) p2.0 in
    record {
      name = named_parts row.name p1.0;
      password = p1.1;
      uid = leb-true row.uid id_max p2.1;
      gid = leb-true row.gid id_max p3.1;
      gecos = p4.1;
      home = p5.1;
      shell = p6.1;
    }

abbrev passwd_fields : PasswdRow → List (List ℕ)
passwd_fields row = row.name ∷ row.password ∷ decimal row.uid ∷ decimal row.gid ∷ row.gecos ∷ row.home ∷ row.shell ∷ []

plain_passwd : (row : PasswdRow) → PasswdParts row → list_all is_plain (passwd_fields row) ≡ true
plain_passwd row p =
    and_from _ _ p.name.plain (and_from _ _ p.password (and_from _ _ (plain_id row.uid p.uid) (and_from _ _ (plain_id row.gid p.gid) (and_from _ _ p.gecos (and_from _ _ p.home (and_from _ _ p.shell refl))))))

passwd_again : (row : PasswdRow) → PasswdParts row → passwd_row (passwd_fields row) ≡ Some row
passwd_again row p =
    ap (λ b. cond b None (option_and_then (λ x. option_map (λ y. passwd_with row.name row.password x y row.gecos row.home row.shell) (id_of (decimal row.gid))) (id_of (decimal row.uid)))) p.name.some
    ∙ ap (λ o. option_and_then (λ x. option_map (λ y. passwd_with row.name row.password x y row.gecos row.home row.shell) (id_of (decimal row.gid))) o) (written_id row.uid p.uid)
    ∙ ap (λ o. option_map (λ y. passwd_with row.name row.password row.uid y row.gecos row.home row.shell) o) (written_id row.gid p.gid)

pub passwd_back : WritesBack passwd_row is_passwd_row passwd_line
passwd_back = record {
  one = λ row sound. no_feed (passwd_fields row) (plain_passwd row (passwd_parts row sound));
  again = λ row sound.
      let p = passwd_parts row sound in
      ap passwd_row (fields_again row.name (row.password ∷ decimal row.uid ∷ decimal row.gid ∷ row.gecos ∷ row.home ∷ row.shell ∷ []) (plain_passwd row p)) ∙ passwd_again row p;
  blank = refl;
}

-- ---- group

record GroupParts (row : GroupRow) : Type 0 where
  name : IsNamed row.name
  password : is_plain row.password ≡ true
  gid : row.gid ≤ id_max
  members : list_all is_member row.members ≡ true

group_parts : (row : GroupRow) → is_group_row row ≡ true → GroupParts row
group_parts row is =
    let p3 = and_parts (is_row_name row.name && is_plain row.password && nat_le row.gid id_max) (list_all is_member row.members) is in
    let p2 = and_parts (is_row_name row.name && is_plain row.password) (nat_le row.gid id_max) p3.0 in
    let p1 = and_parts (is_row_name row.name) (is_plain row.password) p2.0 in
    record { name = named_parts row.name p1.0; password = p1.1; gid = leb-true row.gid id_max p2.1; members = p3.1 }

record MemberParts (members : List (List ℕ)) : Type 0 where
  feeds : list_all (λ m. not (list_any is_line_feed m)) members ≡ true
  colons : list_all (λ m. not (list_any is_colon m)) members ≡ true
  commas : list_all (λ m. not (list_any is_comma m)) members ≡ true
  all_some : filter (λ m. not (is_empty m)) members ≡ members

member_parts : (members : List (List ℕ)) → list_all is_member members ≡ true → MemberParts members
member_parts [] all = record { feeds = refl; colons = refl; commas = refl; all_some = refl }
member_parts (m ∷ ms) all =
    let here = and_parts (is_member m) (list_all is_member ms) all in
    let comma = and_parts (is_row_name m) (not (list_any is_comma m)) here.0 in
    let name = named_parts m comma.0 in
    let plain = and_parts (not (list_any is_line_feed m)) (not (list_any is_colon m)) name.plain in
    let rest = member_parts ms here.1 in
    record {
      feeds = and_from _ _ plain.0 rest.feeds;
      colons = and_from _ _ plain.1 rest.colons;
      commas = and_from _ _ comma.1 rest.commas;
      all_some = ap (λ b. cond (not b) (m ∷ filter (λ t. not (is_empty t)) ms) (filter (λ t. not (is_empty t)) ms)) name.some ∙ ap (λ ts. m ∷ ts) rest.all_some;
    }

members_again : (members : List (List ℕ)) → MemberParts members → members_of (join_with_byte 44 members) ≡ members
members_again [] p = refl
members_again (m ∷ ms) p = ap (filter (λ t. not (is_empty t))) (split_joined 44 m ms p.commas) ∙ p.all_some

plain_joined : (members : List (List ℕ)) → MemberParts members → is_plain (join_with_byte 44 members) ≡ true
plain_joined members p = and_from _ _ (ap not (joined_lacks 44 is_line_feed members refl p.feeds)) (ap not (joined_lacks 44 is_colon members refl p.colons))

abbrev group_fields : GroupRow → List (List ℕ)
group_fields row = row.name ∷ row.password ∷ decimal row.gid ∷ join_with_byte 44 row.members ∷ []

plain_group : (row : GroupRow) → GroupParts row → list_all is_plain (group_fields row) ≡ true
plain_group row p =
    and_from _ _ p.name.plain (and_from _ _ p.password (and_from _ _ (plain_id row.gid p.gid) (and_from _ _ (plain_joined row.members (member_parts row.members p.members)) refl)))

abbrev group_with : List ℕ → List ℕ → ℕ → List (List ℕ) → GroupRow
group_with name password gid members = record { name = name; password = password; gid = gid; members = members }

group_again : (row : GroupRow) → GroupParts row → group_row (group_fields row) ≡ Some row
group_again row p =
    ap (λ b. cond b None (option_map (λ y. group_with row.name row.password y (members_of (join_with_byte 44 row.members))) (id_of (decimal row.gid)))) p.name.some
    ∙ ap (λ o. option_map (λ y. group_with row.name row.password y (members_of (join_with_byte 44 row.members))) o) (written_id row.gid p.gid)
    ∙ ap (λ ms. Some (group_with row.name row.password row.gid ms)) (members_again row.members (member_parts row.members p.members))

pub group_back : WritesBack group_row is_group_row group_line
group_back = record {
  one = λ row sound. no_feed (group_fields row) (plain_group row (group_parts row sound));
  again = λ row sound.
      let p = group_parts row sound in
      ap group_row (fields_again row.name (row.password ∷ decimal row.gid ∷ join_with_byte 44 row.members ∷ []) (plain_group row p)) ∙ group_again row p;
  blank = refl;
}

-- ---- shadow

record ShadowParts (row : ShadowRow) : Type 0 where
  name : IsNamed row.name
  password : is_plain row.password ≡ true
  rest : not (list_any is_line_feed row.rest) ≡ true
  colons : count_by is_colon row.rest ≡ 6

shadow_parts : (row : ShadowRow) → is_shadow_row row ≡ true → ShadowParts row
shadow_parts row is =
    let p3 = and_parts (is_row_name row.name && is_plain row.password && not (list_any is_line_feed row.rest)) (count_by is_colon row.rest == 6) is in
    let p2 = and_parts (is_row_name row.name && is_plain row.password) (not (list_any is_line_feed row.rest)) p3.0 in
    let p1 = and_parts (is_row_name row.name) (is_plain row.password) p2.0 in
    record { name = named_parts row.name p1.0; password = p1.1; rest = p2.1; colons = eqb-true (count_by is_colon row.rest) 6 p3.1 }

feedless : (text : List ℕ) → is_plain text ≡ true → not (list_any is_line_feed text) ≡ true
feedless text plain = (and_parts (not (list_any is_line_feed text)) (not (list_any is_colon text)) plain).0

colonless : (text : List ℕ) → is_plain text ≡ true → list_any is_colon text ≡ false
colonless text plain = not-true _ (and_parts (not (list_any is_line_feed text)) (not (list_any is_colon text)) plain).1

shadow_fields : (row : ShadowRow) → ShadowParts row → fields (shadow_line row) ≡ row.name ∷ row.password ∷ fields row.rest
shadow_fields row p =
    slice_split_at is_colon row.name 58 (join_with_byte 58 (row.password ∷ row.rest ∷ [])) (none_none is_colon row.name (colonless row.name p.name.plain)) refl
    ∙ ap (λ fs. row.name ∷ fs) (slice_split_at is_colon row.password 58 row.rest (none_none is_colon row.password (colonless row.password p.password)) refl)

pub shadow_back : WritesBack shadow_row is_shadow_row shadow_line
shadow_back = record {
  one = λ row sound.
      let p = shadow_parts row sound in
      joined_lacks 58 is_line_feed (row.name ∷ row.password ∷ row.rest ∷ []) refl (and_from _ _ (feedless row.name p.name.plain) (and_from _ _ (feedless row.password p.password) (and_from _ _ p.rest refl)));
  again = λ row sound.
      let p = shadow_parts row sound in
      ap shadow_row (shadow_fields row p) ∙ shadow_read row.name row.password row.rest p.name.some p.colons;
  blank = refl;
}
