-- Rows and the fields of their lines.
use Rattle.std.proofs.Common.{◌≡◌, ℕ, ◌≢◌, ◌≤◌, ◌&&◌, Bool, true, false, cond, not, List, [], ◌∷◌, length, filter, ◌==◌, Option, None, Some, option_map, option_and_then, refl, sym, ap, ◌∙◌, arith}
use Rattle.std.specs.List.{count_by, join_with_byte, list_all, list_any, slice_split}
use Rattle.std.proofs.lemmas.Bool.{and_parts, and_from, eqb-true, eq-eqb, ne_eqb, not-true}
use Rattle.std.proofs.lemmas.List.Splits.{join_with_byte-slice_split, length-slice_split}
use Rattle.std.proofs.lemmas.Option.{same_Some}
use Rattle.account_text.specs.declared.group.GroupRow.{GroupRow}
use Rattle.account_text.specs.declared.passwd.PasswdRow.{PasswdRow}
use Rattle.account_text.specs.declared.shadow.ShadowRow.{ShadowRow}
use Rattle.switch_names.specs.Texts.{is_empty, is_line_feed}
use Rattle.account_text.specs.Field.{fields, id_of, is_colon, is_comma, is_member, is_plain, is_row_name, members_of}
use Rattle.account_text.specs.Group.{group_row, is_group_row}
use Rattle.account_text.specs.Passwd.{passwd_row, is_passwd_row}
use Rattle.account_text.specs.Shadow.{shadow_row, is_shadow_row}
use Rattle.account_text.proofs.FieldLemmas.{low_id, joined_lacks, parts_lack, parts_uncut, split_joined}

-- ---- too few or too many fields

pub other_passwd : (parts : List (List ℕ)) → length parts ≢ 7 → passwd_row parts ≡ None
other_passwd [] other = refl
other_passwd (a ∷ []) other = refl
other_passwd (a ∷ (b ∷ [])) other = refl
other_passwd (a ∷ (b ∷ (c ∷ []))) other = refl
other_passwd (a ∷ (b ∷ (c ∷ (d ∷ [])))) other = refl
other_passwd (a ∷ (b ∷ (c ∷ (d ∷ (e ∷ []))))) other = refl
other_passwd (a ∷ (b ∷ (c ∷ (d ∷ (e ∷ (f ∷ [])))))) other = refl
other_passwd (a ∷ (b ∷ (c ∷ (d ∷ (e ∷ (f ∷ (g ∷ []))))))) other = absurd (other refl)
other_passwd (a ∷ (b ∷ (c ∷ (d ∷ (e ∷ (f ∷ (g ∷ (h ∷ rest)))))))) other = refl

pub other_group : (parts : List (List ℕ)) → length parts ≢ 4 → group_row parts ≡ None
other_group [] other = refl
other_group (a ∷ []) other = refl
other_group (a ∷ (b ∷ [])) other = refl
other_group (a ∷ (b ∷ (c ∷ []))) other = refl
other_group (a ∷ (b ∷ (c ∷ (d ∷ [])))) other = absurd (other refl)
other_group (a ∷ (b ∷ (c ∷ (d ∷ (e ∷ rest))))) other = refl

abbrev pub shadow_with : List ℕ → List ℕ → List ℕ → Option ShadowRow
shadow_with name password rest = Some (record { name = name; password = password; rest = rest })

pub few_shadow : (parts : List (List ℕ)) → length parts ≤ 2 → shadow_row parts ≡ None
few_shadow [] few = refl
few_shadow (a ∷ []) few = refl
few_shadow (a ∷ (b ∷ [])) few = none (not (is_empty a))
  where
    none : (some : Bool) → cond (some && false) (shadow_with a b []) None ≡ None
    none true = refl
    none false = refl
few_shadow (a ∷ (b ∷ (c ∷ rest))) few = absurd (omega arith)

-- ---- the fields of a line of shadow

seven : (rest : List ℕ) → count_by is_colon rest ≡ 6 → (length (fields rest) == 7) ≡ true
seven rest six = eq-eqb (length (fields rest)) 7 (omega (arith, length-slice_split is_colon rest))

pub shadow_read : (name password rest : List ℕ) → is_empty name ≡ false → count_by is_colon rest ≡ 6 → shadow_row (name ∷ password ∷ fields rest) ≡ shadow_with name password rest
shadow_read name password rest some six =
    ap (λ b. cond (not b && (length (fields rest) == 7)) (shadow_with name password (join_with_byte 58 (fields rest))) None) some
    ∙ ap (λ b. cond b (shadow_with name password (join_with_byte 58 (fields rest))) None) (seven rest six)
    ∙ ap (shadow_with name password) (join_with_byte-slice_split 58 rest)

pub shadow_short : (name password rest : List ℕ) → (count_by is_colon rest ≡ 6 → ⊥) → shadow_row (name ∷ password ∷ fields rest) ≡ None
shadow_short name password rest other =
    ap (λ b. cond (not (is_empty name) && b) (shadow_with name password (join_with_byte 58 (fields rest))) None)
    (ne_eqb (length (fields rest)) 7 (λ is. other (omega (arith, length-slice_split is_colon rest))))
    ∙ none (not (is_empty name))
  where
    none : (b : Bool) → cond (b && false) (shadow_with name password (join_with_byte 58 (fields rest))) None ≡ None
    none true = refl
    none false = refl

-- ---- what is read is sound

named : (name : List ℕ) → is_plain name ≡ true → is_empty name ≡ false → is_row_name name ≡ true
named name plain some = and_from _ _ plain (ap not some)

abbrev pub passwd_with : List ℕ → List ℕ → ℕ → ℕ → List ℕ → List ℕ → List ℕ → PasswdRow
passwd_with name password uid gid gecos home shell = record { name = name; password = password; uid = uid; gid = gid; gecos = gecos; home = home; shell = shell }

-- a line whose fields are those of a row is that row
pub passwd_joined : (line name password rest u v more gecos home shell : List ℕ) (uid gid : ℕ) → fields line ≡ name ∷ password ∷ fields rest → fields rest ≡ u ∷ v ∷ fields more
    → fields more ≡ gecos ∷ home ∷ shell ∷ [] → is_empty name ≡ false → Some uid ≡ id_of u → Some gid ≡ id_of v
    → passwd_row (fields line) ≡ Some (passwd_with name password uid gid gecos home shell)
passwd_joined line name password rest u v more gecos home shell uid gid first second third some is_uid is_gid =
    ap passwd_row (first ∙ ap (λ parts. name ∷ password ∷ parts) (second ∙ ap (λ parts. u ∷ v ∷ parts) third))
    ∙ (λ i. cond (some i) None (option_and_then (λ x. option_map (λ y. passwd_with name password x y gecos home shell) (sym is_gid i)) (sym is_uid i)))

module _ (name password u v gecos home shell : List ℕ) (row : PasswdRow) where
  abbrev read_with : Bool → Option ℕ → Option ℕ → Option PasswdRow
  read_with empty uid gid = cond empty None (option_and_then (λ x. option_map (λ y. passwd_with name password x y gecos home shell) gid) uid)

  passwd_parts : (empty : Bool) (uid gid : Option ℕ) → is_empty name ≡ empty → id_of u ≡ uid → id_of v ≡ gid → read_with empty uid gid ≡ Some row
      → list_all is_plain (name ∷ password ∷ u ∷ v ∷ gecos ∷ home ∷ shell ∷ []) ≡ true → is_passwd_row row ≡ true
  passwd_parts true uid gid some is_uid is_gid same plain = absurd cc
  passwd_parts false None gid some is_uid is_gid same plain = absurd cc
  passwd_parts false (Some x) None some is_uid is_gid same plain = absurd cc
  passwd_parts false (Some x) (Some y) some is_uid is_gid same plain =
      let p1 = and_parts (is_plain name) (list_all is_plain (password ∷ u ∷ v ∷ gecos ∷ home ∷ shell ∷ [])) plain in
      let p2 = and_parts (is_plain password) (list_all is_plain (u ∷ v ∷ gecos ∷ home ∷ shell ∷ [])) p1.1 in
      let p3 = and_parts (is_plain u) (list_all is_plain (v ∷ gecos ∷ home ∷ shell ∷ [])) p2.1 in
      let p4 = and_parts (is_plain v) (list_all is_plain (gecos ∷ home ∷ shell ∷ [])) p3.1 in
      let p5 = and_parts (is_plain gecos) (list_all is_plain (home ∷ shell ∷ [])) p4.1 in
      let p6 = and_parts (is_plain home) (list_all is_plain (shell ∷ [])) p5.1 in
      let p7 = and_parts (is_plain shell) true p6.1 in
      ap is_passwd_row (sym (same_Some (passwd_with name password x y gecos home shell) row same))
      ∙ and_from _ _ (and_from _ _ (and_from _ _ (and_from _ _ (and_from _ _ (and_from _ _ (named name p1.0 some) p2.0) (low_id u x is_uid)) (low_id v y is_gid)) p5.0) p6.0) p7.0

pub passwd_sound : (parts : List (List ℕ)) (row : PasswdRow) → list_all is_plain parts ≡ true → passwd_row parts ≡ Some row → is_passwd_row row ≡ true
passwd_sound [] row plain is = absurd cc
passwd_sound (a ∷ []) row plain is = absurd cc
passwd_sound (a ∷ (b ∷ [])) row plain is = absurd cc
passwd_sound (a ∷ (b ∷ (c ∷ []))) row plain is = absurd cc
passwd_sound (a ∷ (b ∷ (c ∷ (d ∷ [])))) row plain is = absurd cc
passwd_sound (a ∷ (b ∷ (c ∷ (d ∷ (e ∷ []))))) row plain is = absurd cc
passwd_sound (a ∷ (b ∷ (c ∷ (d ∷ (e ∷ (f ∷ [])))))) row plain is = absurd cc
passwd_sound (a ∷ (b ∷ (u ∷ (v ∷ (e ∷ (f ∷ (g ∷ []))))))) row plain is = passwd_parts a b u v e f g row (is_empty a) (id_of u) (id_of v) refl refl refl is plain
passwd_sound (a ∷ (b ∷ (u ∷ (v ∷ (e ∷ (f ∷ (g ∷ (h ∷ rest)))))))) row plain is = absurd cc

abbrev group_with : List ℕ → List ℕ → ℕ → List ℕ → GroupRow
group_with name password gid members = record { name = name; password = password; gid = gid; members = members_of members }

-- the members of a plain field can be members
pub plain_members : (field : List ℕ) → is_plain field ≡ true → list_all is_member (members_of field) ≡ true
plain_members field plain =
    let parts = and_parts (not (list_any is_line_feed field)) (not (list_any is_colon field)) plain in
    each (slice_split is_comma field) (parts_lack is_comma is_line_feed field (not-true _ parts.0)) (parts_lack is_comma is_colon field (not-true _ parts.1)) (parts_uncut is_comma field)
  where
    each : (ms : List (List ℕ)) → list_all (λ m. not (list_any is_line_feed m)) ms ≡ true → list_all (λ m. not (list_any is_colon m)) ms ≡ true → list_all (λ m. not (list_any is_comma m)) ms ≡ true
        → list_all is_member (filter (λ m. not (is_empty m)) ms) ≡ true
    each [] feeds colons commas = refl
    each (m ∷ ms) feeds colons commas =
        let f = and_parts (not (list_any is_line_feed m)) (list_all (λ t. not (list_any is_line_feed t)) ms) feeds in
        let k = and_parts (not (list_any is_colon m)) (list_all (λ t. not (list_any is_colon t)) ms) colons in
        let j = and_parts (not (list_any is_comma m)) (list_all (λ t. not (list_any is_comma t)) ms) commas in
        by (is_empty m) refl (and_from _ _ f.0 k.0) j.0 (each ms f.1 k.1 j.1)
      where
        by : (b : Bool) → is_empty m ≡ b → is_plain m ≡ true → not (list_any is_comma m) ≡ true → list_all is_member (filter (λ t. not (is_empty t)) ms) ≡ true
            → list_all is_member (cond (not b) (m ∷ filter (λ t. not (is_empty t)) ms) (filter (λ t. not (is_empty t)) ms)) ≡ true
        by true some plain comma rest = rest
        by false some plain comma rest = and_from _ _ (and_from _ _ (named m plain some) comma) rest

module _ (name password v members : List ℕ) (row : GroupRow) where
  group_parts : (empty : Bool) (gid : Option ℕ) → is_empty name ≡ empty → id_of v ≡ gid → cond empty None (option_map (λ y. group_with name password y members) gid) ≡ Some row
      → list_all is_plain (name ∷ password ∷ v ∷ members ∷ []) ≡ true → is_group_row row ≡ true
  group_parts true gid some is_gid same plain = absurd cc
  group_parts false None some is_gid same plain = absurd cc
  group_parts false (Some y) some is_gid same plain =
      let p1 = and_parts (is_plain name) (list_all is_plain (password ∷ v ∷ members ∷ [])) plain in
      let p2 = and_parts (is_plain password) (list_all is_plain (v ∷ members ∷ [])) p1.1 in
      let p3 = and_parts (is_plain v) (list_all is_plain (members ∷ [])) p2.1 in
      let p4 = and_parts (is_plain members) true p3.1 in
      ap is_group_row (sym (same_Some (group_with name password y members) row same))
      ∙ and_from _ _ (and_from _ _ (and_from _ _ (named name p1.0 some) p2.0) (low_id v y is_gid)) (plain_members members p4.0)

pub group_sound : (parts : List (List ℕ)) (row : GroupRow) → list_all is_plain parts ≡ true → group_row parts ≡ Some row → is_group_row row ≡ true
group_sound [] row plain is = absurd cc
group_sound (a ∷ []) row plain is = absurd cc
group_sound (a ∷ (b ∷ [])) row plain is = absurd cc
group_sound (a ∷ (b ∷ (c ∷ []))) row plain is = absurd cc
group_sound (a ∷ (b ∷ (v ∷ (m ∷ [])))) row plain is = group_parts a b v m row (is_empty a) (id_of v) refl refl is plain
group_sound (a ∷ (b ∷ (v ∷ (m ∷ (h ∷ rest))))) row plain is = absurd cc

-- joined plain fields have no line feed
pub no_feed : (parts : List (List ℕ)) → list_all is_plain parts ≡ true → list_any is_line_feed (join_with_byte 58 parts) ≡ false
no_feed parts plain = joined_lacks 58 is_line_feed parts refl (feeds parts plain)
  where
    feeds : (ps : List (List ℕ)) → list_all is_plain ps ≡ true → list_all (λ t. not (list_any is_line_feed t)) ps ≡ true
    feeds [] all = refl
    feeds (part ∷ ps) all =
        let one = and_parts (is_plain part) (list_all is_plain ps) all in
        and_from _ _ (and_parts (not (list_any is_line_feed part)) (not (list_any is_colon part)) one.0).0 (feeds ps one.1)

-- and are its fields
pub fields_again : (part : List ℕ) (parts : List (List ℕ)) → list_all is_plain (part ∷ parts) ≡ true → fields (join_with_byte 58 (part ∷ parts)) ≡ part ∷ parts
fields_again part parts plain = split_joined 58 part parts (colons (part ∷ parts) plain)
  where
    colons : (ps : List (List ℕ)) → list_all is_plain ps ≡ true → list_all (λ t. not (list_any is_colon t)) ps ≡ true
    colons [] all = refl
    colons (p ∷ ps) all =
        let one = and_parts (is_plain p) (list_all is_plain ps) all in
        and_from _ _ (and_parts (not (list_any is_line_feed p)) (not (list_any is_colon p)) one.0).1 (colons ps one.1)

colons_joined : (parts : List (List ℕ)) → list_all (λ t. not (list_any is_colon t)) parts ≡ true → length parts == 7 ≡ true → count_by is_colon (join_with_byte 58 parts) ≡ 6
colons_joined [] all seven = absurd cc
colons_joined (part ∷ parts) all seven =
    let len = length-slice_split is_colon (join_with_byte 58 (part ∷ parts)) in
    let same = ap length (split_joined 58 part parts all) in
    let is = eqb-true (length (part ∷ parts)) 7 seven in
    omega arith

module _ (name password : List ℕ) (rest : List (List ℕ)) (row : ShadowRow) where
  shadow_parts : (empty seven : Bool) → is_empty name ≡ empty → (length rest == 7) ≡ seven → cond (not empty && seven) (shadow_with name password (join_with_byte 58 rest)) None ≡ Some row
      → list_all is_plain (name ∷ password ∷ rest) ≡ true → is_shadow_row row ≡ true
  shadow_parts true seven some is same plain = absurd cc
  shadow_parts false false some is same plain = absurd cc
  shadow_parts false true some is same plain =
      let p1 = and_parts (is_plain name) (list_all is_plain (password ∷ rest)) plain in
      let p2 = and_parts (is_plain password) (list_all is_plain rest) p1.1 in
      ap is_shadow_row (sym (same_Some (record { name = name; password = password; rest = join_with_byte 58 rest }) row same))
      ∙ and_from _ _ (and_from _ _ (and_from _ _ (named name p1.0 some) p2.0) (ap not (no_feed rest p2.1))) (eq-eqb _ 6 (colons_joined rest (lacks rest p2.1) is))
    where
      lacks : (ps : List (List ℕ)) → list_all is_plain ps ≡ true → list_all (λ t. not (list_any is_colon t)) ps ≡ true
      lacks [] all = refl
      lacks (p ∷ ps) all =
          let one = and_parts (is_plain p) (list_all is_plain ps) all in
          and_from _ _ (and_parts (not (list_any is_line_feed p)) (not (list_any is_colon p)) one.0).1 (lacks ps one.1)

pub shadow_sound : (parts : List (List ℕ)) (row : ShadowRow) → list_all is_plain parts ≡ true → shadow_row parts ≡ Some row → is_shadow_row row ≡ true
shadow_sound [] row plain is = absurd cc
shadow_sound (a ∷ []) row plain is = absurd cc
shadow_sound (a ∷ (b ∷ rest)) row plain is = shadow_parts a b rest row (is_empty a) (length rest == 7) refl refl is plain
