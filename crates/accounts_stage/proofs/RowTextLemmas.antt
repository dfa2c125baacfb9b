-- The rows of a table that is read can be written, and their texts are UTF-8.
use Rattle.std.proofs.Common.{◌≡◌, ℕ, ◌<◌, ◌&&◌, ◌==◌, Bool, true, false, not, cond, List, [], ◌∷◌, length, decimal, Option, None, Some, IfSome, option_map, option_and_then, nat_le, refl, subst, arith}
use Rattle.std.proofs.lemmas.Bool.{and_from, and_parts, eqb-true, leb-true}
use Rattle.std.proofs.lemmas.Fmt.{IsAscii-decimal}
use Rattle.std.proofs.lemmas.Str.{IsUtf8-from_ascii, is_utf8-from_IsUtf8}
use Rattle.std.proofs.lemmas.Option.{same_Some}
use Rattle.std.specs.List.{cons_option, filter_map, join_with_byte, list_all, slice_split}
use Rattle.std.specs.Str.{is_utf8}
use Rattle.switch_names.specs.Names.{Name}
use Rattle.account_text.specs.declared.group.GroupRow.{GroupRow}
use Rattle.account_text.specs.declared.passwd.PasswdRow.{PasswdRow}
use Rattle.account_text.specs.declared.shadow.ShadowRow.{ShadowRow}
use Rattle.switch_names.specs.Texts.{is_empty}
use Rattle.switch_names.specs.Ids.{id_max}
use Rattle.account_text.specs.Field.{fields, id_of, is_colon, is_comma, is_member, is_plain, is_row_name, lines, members_of}
use Rattle.account_text.specs.Group.{group_line, group_name, group_row, is_group_row}
use Rattle.account_text.specs.Passwd.{is_passwd_row, passwd_line, passwd_name, passwd_row}
use Rattle.account_text.specs.Shadow.{is_shadow_row, shadow_line, shadow_name, shadow_row}
use Rattle.account_text.specs.Table.{row_in, rows_of}
use Rattle.account_text.proofs.FirstLemmas.{all_filter, all_firsts}
use Rattle.account_text.proofs.RowLemmas.{group_sound, passwd_sound, shadow_sound}
use Rattle.account_text.proofs.SoundLemmas.{read_sound}
use Rattle.accounts_stage.proofs.TextLemmas.{join_texts, split_texts}

-- ---- what can be written as UTF-8

abbrev pub group_texts : GroupRow → List (List ℕ)
group_texts row = row.name ∷ row.password ∷ row.members

abbrev pub passwd_texts : PasswdRow → List (List ℕ)
passwd_texts row = row.name ∷ row.password ∷ row.gecos ∷ row.home ∷ row.shell ∷ []

abbrev pub shadow_texts : ShadowRow → List (List ℕ)
shadow_texts row = row.name ∷ row.password ∷ row.rest ∷ []

-- a row that can be written, whose texts are UTF-8
abbrev pub is_group_text : GroupRow → Bool
is_group_text row = is_group_row row && list_all is_utf8 (group_texts row)

abbrev pub is_passwd_text : PasswdRow → Bool
is_passwd_text row = is_passwd_row row && list_all is_utf8 (passwd_texts row)

abbrev pub is_shadow_text : ShadowRow → Bool
is_shadow_text row = is_shadow_row row && list_all is_utf8 (shadow_texts row)

id_text : (id : ℕ) → nat_le id id_max ≡ true → is_utf8 (decimal id) ≡ true
id_text id low = let small = leb-true id id_max low in is_utf8-from_IsUtf8 (decimal id) (IsUtf8-from_ascii (decimal id) (IsAscii-decimal id (omega arith)))

pub group_line_text : (row : GroupRow) → is_group_text row ≡ true → is_utf8 (group_line row) ≡ true
group_line_text row is =
    let parts = and_parts (is_group_row row) (list_all is_utf8 (group_texts row)) is in
    let front = and_parts (is_row_name row.name && is_plain row.password && nat_le row.gid id_max) (list_all is_member row.members) parts.0 in
    let id = and_parts (is_row_name row.name && is_plain row.password) (nat_le row.gid id_max) front.0 in
    let name = and_parts (is_utf8 row.name) (list_all is_utf8 (row.password ∷ row.members)) parts.1 in
    let password = and_parts (is_utf8 row.password) (list_all is_utf8 row.members) name.1 in
    join_texts 58 (omega arith) (row.name ∷ row.password ∷ decimal row.gid ∷ join_with_byte 44 row.members ∷ [])
    (and_from _ _ name.0 (and_from _ _ password.0 (and_from _ _ (id_text row.gid id.1) (and_from _ _ (join_texts 44 (omega arith) row.members password.1) refl))))

pub passwd_line_text : (row : PasswdRow) → is_passwd_text row ≡ true → is_utf8 (passwd_line row) ≡ true
passwd_line_text row is =
    let parts = and_parts (is_passwd_row row) (list_all is_utf8 (passwd_texts row)) is in
    let p6 = and_parts (is_row_name row.name && is_plain row.password && nat_le row.uid id_max && nat_le row.gid id_max && is_plain row.gecos && is_plain row.home) (is_plain row.shell) parts.0 in
    let p5 = and_parts (is_row_name row.name && is_plain row.password && nat_le row.uid id_max && nat_le row.gid id_max && is_plain row.gecos) (is_plain row.home) p6.0 in
    let p4 = and_parts (is_row_name row.name && is_plain row.password && nat_le row.uid id_max && nat_le row.gid id_max) (is_plain row.gecos) p5.0 in
    let p3 = and_parts (is_row_name row.name && is_plain row.password && nat_le row.uid id_max) (nat_le row.gid id_max) p4.0 in
    let p2 = and_parts (is_row_name row.name && is_plain row.password) (nat_le row.uid id_max) p3.0 in
    let name = and_parts (is_utf8 row.name) (list_all is_utf8 (row.password ∷ row.gecos ∷ row.home ∷ row.shell ∷ [])) parts.1 in
    let password = and_parts (is_utf8 row.password) (list_all is_utf8 (row.gecos ∷ row.home ∷ row.shell ∷ [])) name.1 in
    join_texts 58 (omega arith) (row.name ∷ row.password ∷ decimal row.uid ∷ decimal row.gid ∷ row.gecos ∷ row.home ∷ row.shell ∷ [])
    (and_from _ _ name.0 (and_from _ _ password.0 (and_from _ _ (id_text row.uid p2.1) (and_from _ _ (id_text row.gid p3.1) password.1))))

pub shadow_line_text : (row : ShadowRow) → is_shadow_text row ≡ true → is_utf8 (shadow_line row) ≡ true
shadow_line_text row is = join_texts 58 (omega arith) (row.name ∷ row.password ∷ row.rest ∷ []) (and_parts (is_shadow_row row) (list_all is_utf8 (shadow_texts row)) is).1

-- ---- what is read

colon_low : (x : ℕ) → is_colon x ≡ true → x < 128
colon_low x is = let same = eqb-true x 58 is in omega arith

comma_low : (x : ℕ) → is_comma x ≡ true → x < 128
comma_low x is = let same = eqb-true x 44 is in omega arith

both_tests : {X : Type 0} (p q : X → Bool) (xs : List X) → list_all p xs ≡ true → list_all q xs ≡ true → list_all (λ x. p x && q x) xs ≡ true
both_tests p q [] one other = refl
both_tests p q (x ∷ xs) one other =
    let first = and_parts (p x) (list_all p xs) one in
    let second = and_parts (q x) (list_all q xs) other in
    and_from _ _ (and_from _ _ first.0 second.0) (both_tests p q xs first.1 second.1)

module _ {Row : Type 0} (row_of : List (List ℕ) → Option Row) (name_of : Row → Name) (texts : Row → List (List ℕ))
    (reads : (parts : List (List ℕ)) (row : Row) → list_all is_utf8 parts ≡ true → row_of parts ≡ Some row → list_all is_utf8 (texts row) ≡ true) where
  abbrev has_texts : Row → Bool
  has_texts row = list_all is_utf8 (texts row)

  line_texts : (line : List ℕ) → IfSome (row_in row_of line) (λ row. has_texts row ≡ true)
  line_texts line = by (is_utf8 line) refl
    where
      of_row : (o : Option Row) → row_of (fields line) ≡ o → is_utf8 line ≡ true → IfSome o (λ row. has_texts row ≡ true)
      of_row None is utf8 = tt
      of_row (Some row) is utf8 = reads (fields line) row (split_texts is_colon colon_low line utf8) is

      by : (b : Bool) → is_utf8 line ≡ b → IfSome (cond b (row_of (fields line)) None) (λ row. has_texts row ≡ true)
      by true utf8 = of_row (row_of (fields line)) refl utf8
      by false utf8 = tt

  lines_texts : (all : List (List ℕ)) → list_all has_texts (filter_map (row_in row_of) all) ≡ true
  lines_texts [] = refl
  lines_texts (line ∷ all) = by (row_in row_of line) (line_texts line) (lines_texts all)
    where
      by : (o : Option Row) → IfSome o (λ row. has_texts row ≡ true) → list_all has_texts (filter_map (row_in row_of) all) ≡ true → list_all has_texts (cons_option o (filter_map (row_in row_of) all)) ≡ true
      by None is rest = rest
      by (Some row) is rest = and_from _ _ is rest

  read_texts : (text : List ℕ) → list_all has_texts (rows_of row_of name_of text) ≡ true
  read_texts text = all_firsts name_of has_texts (filter_map (row_in row_of) (lines text)) (lines_texts (lines text))

-- ---- groups

group_reads : (parts : List (List ℕ)) (row : GroupRow) → list_all is_utf8 parts ≡ true → group_row parts ≡ Some row → list_all is_utf8 (group_texts row) ≡ true
group_reads [] row all is = absurd (cc)
group_reads (name ∷ []) row all is = absurd (cc)
group_reads (name ∷ password ∷ []) row all is = absurd (cc)
group_reads (name ∷ password ∷ gid ∷ []) row all is = absurd (cc)
group_reads (name ∷ password ∷ gid ∷ members ∷ more ∷ rest) row all is = absurd (cc)
group_reads (name ∷ password ∷ gid ∷ members ∷ []) row all is = by (is_empty name) (id_of gid) is
  where
    texts : list_all is_utf8 (name ∷ password ∷ members_of members) ≡ true
    texts =
        let first = and_parts (is_utf8 name) (list_all is_utf8 (password ∷ gid ∷ members ∷ [])) all in
        let second = and_parts (is_utf8 password) (list_all is_utf8 (gid ∷ members ∷ [])) first.1 in
        let third = and_parts (is_utf8 gid) (list_all is_utf8 (members ∷ [])) second.1 in
        let last = and_parts (is_utf8 members) true third.1 in
        and_from _ _ first.0 (and_from _ _ second.0 (all_filter (λ name. not (is_empty name)) is_utf8 (slice_split is_comma members) (split_texts is_comma comma_low members last.0)))

    by : (b : Bool) (o : Option ℕ) → cond b None (option_map (λ gid. record { name = name; password = password; gid = gid; members = members_of members }) o) ≡ Some row → list_all is_utf8 (group_texts row) ≡ true
    by true o is = absurd (cc)
    by false None is = absurd (cc)
    by false (Some id) is = subst (λ (r : GroupRow). list_all is_utf8 (group_texts r) ≡ true) (same_Some (record { name = name; password = password; gid = id; members = members_of members }) row is) texts

passwd_reads : (parts : List (List ℕ)) (row : PasswdRow) → list_all is_utf8 parts ≡ true → passwd_row parts ≡ Some row → list_all is_utf8 (passwd_texts row) ≡ true
passwd_reads [] row all is = absurd (cc)
passwd_reads (name ∷ []) row all is = absurd (cc)
passwd_reads (name ∷ password ∷ []) row all is = absurd (cc)
passwd_reads (name ∷ password ∷ uid ∷ []) row all is = absurd (cc)
passwd_reads (name ∷ password ∷ uid ∷ gid ∷ []) row all is = absurd (cc)
passwd_reads (name ∷ password ∷ uid ∷ gid ∷ gecos ∷ []) row all is = absurd (cc)
passwd_reads (name ∷ password ∷ uid ∷ gid ∷ gecos ∷ home ∷ []) row all is = absurd (cc)
passwd_reads (name ∷ password ∷ uid ∷ gid ∷ gecos ∷ home ∷ shell ∷ more ∷ rest) row all is = absurd (cc)
passwd_reads (name ∷ password ∷ uid ∷ gid ∷ gecos ∷ home ∷ shell ∷ []) row all is = by (is_empty name) (id_of uid) (id_of gid) is
  where
    texts : list_all is_utf8 (name ∷ password ∷ gecos ∷ home ∷ shell ∷ []) ≡ true
    texts =
        let first = and_parts (is_utf8 name) (list_all is_utf8 (password ∷ uid ∷ gid ∷ gecos ∷ home ∷ shell ∷ [])) all in
        let second = and_parts (is_utf8 password) (list_all is_utf8 (uid ∷ gid ∷ gecos ∷ home ∷ shell ∷ [])) first.1 in
        let third = and_parts (is_utf8 uid) (list_all is_utf8 (gid ∷ gecos ∷ home ∷ shell ∷ [])) second.1 in
        let fourth = and_parts (is_utf8 gid) (list_all is_utf8 (gecos ∷ home ∷ shell ∷ [])) third.1 in
        and_from _ _ first.0 (and_from _ _ second.0 fourth.1)

    by : (b : Bool) (o p : Option ℕ) → cond b None (option_and_then (λ x. option_map (λ y. record { name = name; password = password; uid = x; gid = y; gecos = gecos; home = home; shell = shell }) p) o) ≡ Some row →
        list_all is_utf8 (passwd_texts row) ≡ true
    by true o p is = absurd (cc)
    by false None p is = absurd (cc)
    by false (Some x) None is = absurd (cc)
    by false (Some x) (Some y) is = subst (λ (r : PasswdRow). list_all is_utf8 (passwd_texts r) ≡ true) (same_Some (record { name = name; password = password; uid = x; gid = y; gecos = gecos; home = home; shell = shell }) row is) texts

shadow_reads : (parts : List (List ℕ)) (row : ShadowRow) → list_all is_utf8 parts ≡ true → shadow_row parts ≡ Some row → list_all is_utf8 (shadow_texts row) ≡ true
shadow_reads [] row all is = absurd (cc)
shadow_reads (name ∷ []) row all is = absurd (cc)
shadow_reads (name ∷ password ∷ rest) row all is = by (not (is_empty name) && length rest == 7) is
  where
    by : (b : Bool) → cond b (Some (record { name = name; password = password; rest = join_with_byte 58 rest })) None ≡ Some row → list_all is_utf8 (shadow_texts row) ≡ true
    by false is = absurd (cc)
    by true is =
        let first = and_parts (is_utf8 name) (list_all is_utf8 (password ∷ rest)) all in
        let second = and_parts (is_utf8 password) (list_all is_utf8 rest) first.1 in
        subst (λ (r : ShadowRow). list_all is_utf8 (shadow_texts r) ≡ true) (same_Some (record { name = name; password = password; rest = join_with_byte 58 rest }) row is)
        (and_from _ _ first.0 (and_from _ _ second.0 (and_from _ _ (join_texts 58 (omega arith) rest second.1) refl)))

pub read_groups : (text : List ℕ) → list_all is_group_text (rows_of group_row group_name text) ≡ true
read_groups text =
    both_tests is_group_row (λ row. list_all is_utf8 (group_texts row)) (rows_of group_row group_name text)
    (read_sound group_row is_group_row group_name group_sound text (rows_of group_row group_name text) refl).each (read_texts group_row group_name group_texts group_reads text)

pub read_users : (text : List ℕ) → list_all is_passwd_text (rows_of passwd_row passwd_name text) ≡ true
read_users text =
    both_tests is_passwd_row (λ row. list_all is_utf8 (passwd_texts row)) (rows_of passwd_row passwd_name text)
    (read_sound passwd_row is_passwd_row passwd_name passwd_sound text (rows_of passwd_row passwd_name text) refl).each (read_texts passwd_row passwd_name passwd_texts passwd_reads text)

pub read_shadows : (text : List ℕ) → list_all is_shadow_text (rows_of shadow_row shadow_name text) ≡ true
read_shadows text =
    both_tests is_shadow_row (λ row. list_all is_utf8 (shadow_texts row)) (rows_of shadow_row shadow_name text)
    (read_sound shadow_row is_shadow_row shadow_name shadow_sound text (rows_of shadow_row shadow_name text) refl).each (read_texts shadow_row shadow_name shadow_texts shadow_reads text)
