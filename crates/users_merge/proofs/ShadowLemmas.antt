-- The shadow rows of users are those of a merge.
use Rattle.std.proofs.Common.{◌≡◌, Bool, true, false, not, cond, List, [], ◌∷◌, map, Option, None, Some, is_some, refl, sym, ap, ◌∙◌}
use Rattle.std.proofs.lemmas.Bool.{and_parts, and_from, false≢true, or_from, or_parts, not-true}
use Rattle.std.specs.FinMap.{get}
use Rattle.std.specs.List.{AllByRecursion, cons_option, filter_map}
use Rattle.std.specs.Option.{option_and_then}
use Rattle.switch_names.specs.Names.{Name, has, is_name}
use Rattle.switch_names.proofs.Lists.{find_passes}
use Rattle.account_text.specs.declared.passwd.PasswdRow.{PasswdRow}
use Rattle.account_text.specs.declared.shadow.ShadowRow.{ShadowRow}
use Rattle.account_text.specs.Passwd.{passwd_name}
use Rattle.account_text.specs.Shadow.{shadow_name}
use Rattle.account_text.specs.Order.{row_named}
use Rattle.account_text.specs.Table.{are_distinct}
use Rattle.users_spec.specs.declared.user_spec.UserSpec.{UserSpec}
use Rattle.users_spec.specs.Spec.{Accounts}
use Rattle.users_merge.specs.Merge.{passwd_at, shadow_at, user_of}
use Rattle.users_merge.specs.Rows.{shadow_row}
use Rattle.users_merge.specs.ShadowRows.{declared_shadow, merged_shadow, shadow_beside, shadow_by}
use Rattle.users_merge.specs.Stored.{Stored, table_of}
use Rattle.users_merge.proofs.TableLemmas.{in_table, some_row}
use Rattle.host_trait.proofs.NameOrder.{name_exact, name_itself}

-- rows that are made of others, each of the name of the row that it is made of
module _ {Row Made : Type 0} (name_of : Row → Name) (made_name : Made → Name) (f : Row → Option Made) where
  abbrev KeepName : Row → Type 0
  KeepName row = (made : Made) → f row ≡ Some made → made_name made ≡ name_of row

  -- a row of a name is made of the row of that name
  pub made_found :
      (rows : List Row) (name : Name) → ((row : Row) (made : Made) → is_name name (name_of row) ≡ true → f row ≡ Some made → made_name made ≡ name_of row) →
      ((row : Row) (made : Made) → f row ≡ Some made → is_name name (made_name made) ≡ is_name name (name_of row)) →
      are_distinct (map name_of rows) ≡ true → row_named made_name (filter_map f rows) name ≡ option_and_then f (row_named name_of rows name)
  made_found [] name keep same distinct = refl
  made_found (row ∷ rows) name keep same distinct =
      let parts = and_parts (not (has (map name_of rows) (name_of row))) (are_distinct (map name_of rows)) distinct in
      by (f row) refl (is_name name (name_of row)) refl (not-true _ parts.0) (made_found rows name keep same parts.1)
    where
      rest : List Made
      rest = filter_map f rows

      by : (o : Option Made) → f row ≡ o → (b : Bool) → is_name name (name_of row) ≡ b → has (map name_of rows) (name_of row) ≡ false →
          row_named made_name rest name ≡ option_and_then f (row_named name_of rows name) →
          row_named made_name (cons_option o rest) name ≡ option_and_then f (cond b (Some row) (row_named name_of rows name))
      by (Some made) is true here apart rec = ap (λ b. cond b (Some made) (row_named made_name rest name)) (same row made is ∙ here) ∙ sym is
      by (Some made) is false here apart rec = ap (λ b. cond b (Some made) (row_named made_name rest name)) (same row made is ∙ here) ∙ rec
      by None is true here apart rec = rec ∙ ap (option_and_then f) (lack (row_named name_of rows name) refl) ∙ sym is
        where
          lack : (o : Option Row) → row_named name_of rows name ≡ o → row_named name_of rows name ≡ None
          lack None none = none
          lack (Some other) there =
              let twin = some_row name_of rows name other there in
              absurd (false≢true (sym apart ∙ ap (has (map name_of rows)) (sym (name_exact name (name_of row) here)) ∙ twin))
      by None is false here apart rec = rec

-- the shadow row that goes with a passwd row has its name
module _ (spec : Accounts) (table : List ShadowRow) where
  abbrev pub beside : PasswdRow → Option ShadowRow
  beside = shadow_beside spec.mutable (row_named (λ (user : UserSpec). user.name) spec.users) (row_named shadow_name table)

  pub beside_name : (row : PasswdRow) (made : ShadowRow) → beside row ≡ Some made → shadow_name made ≡ row.name
  beside_name row made is = by (row_named (λ (user : UserSpec). user.name) spec.users row.name) refl (row_named shadow_name table row.name) refl is
    where
      by : (user : Option UserSpec) → row_named (λ (u : UserSpec). u.name) spec.users row.name ≡ user → (old : Option ShadowRow) → row_named shadow_name table row.name ≡ old →
          shadow_by spec.mutable user old ≡ Some made → shadow_name made ≡ row.name
      by (Some user) found old was here =
          let same : declared_shadow spec.mutable user old ≡ made = cc in
          ap shadow_name (sym same) ∙ sym (name_exact row.name user.name (find_passes (λ (u : UserSpec). is_name row.name u.name) spec.users user found))
      by None found (Some old) was here =
          let same : old ≡ made = cc in
          ap shadow_name (sym same) ∙ sym (name_exact row.name old.name (find_passes (λ (r : ShadowRow). is_name row.name (shadow_name r)) table old was))
      by None found None was here = absurd (let none : None ≡ Some made = here in cc)

  module _ (s : Stored) (passwd : List PasswdRow) where
    -- the shadow row of a name among those that are made
    pub shadow_found :
        s.shadow ≡ table_of shadow_name table → are_distinct (map passwd_name passwd) ≡ true → ((name : Name) → row_named passwd_name passwd name ≡ passwd_at spec s name) →
        (name : Name) → row_named shadow_name (merged_shadow spec.mutable spec.users table passwd) name ≡ shadow_at spec s name
    shadow_found is_table distinct rows name =
        made_found passwd_name shadow_name beside passwd name (λ row made here is. beside_name row made is) (λ row made is. ap (is_name name) (beside_name row made is)) distinct
        ∙ by (row_named passwd_name passwd name) refl
      where
        was : row_named shadow_name table name ≡ get s.shadow name
        was = sym (ap (λ t. get t name) is_table ∙ in_table shadow_name table name)

        same_row : (user : Option UserSpec) (old : Option ShadowRow) → shadow_by spec.mutable user old ≡ shadow_row spec user true old
        same_row None old = refl
        same_row (Some user) old = refl

        by : (o : Option PasswdRow) → row_named passwd_name passwd name ≡ o → option_and_then beside o ≡ shadow_at spec s name
        by None is = sym (ap (λ o. shadow_row spec (user_of spec name) (is_some o) (get s.shadow name)) (sym (rows name) ∙ is))
        by (Some row) is =
            let same : name ≡ row.name = name_exact name row.name (find_passes (λ (r : PasswdRow). is_name name (passwd_name r)) passwd row is) in
            ap (λ n. shadow_by spec.mutable (row_named (λ (user : UserSpec). user.name) spec.users n) (row_named shadow_name table n)) (sym same)
            ∙ ap (shadow_by spec.mutable (user_of spec name)) was ∙ same_row (user_of spec name) (get s.shadow name)
            ∙ sym (ap (λ o. shadow_row spec (user_of spec name) (is_some o) (get s.shadow name)) (sym (rows name) ∙ is))

-- what a test makes of rows that all agree on
pub filter_map_alike : {X Y : Type 0} (f g : X → Option Y) (xs : List X) → AllByRecursion (λ x. f x ≡ g x) xs → filter_map f xs ≡ filter_map g xs
filter_map_alike f g [] same = refl
filter_map_alike f g (x ∷ xs) same = λ i. cons_option (same.0 i) (filter_map_alike f g xs same.1 i)

-- each of the rows is the row of its name
pub each_found :
    {Row : Type 0} (name_of : Row → Name) (P : Row → Type 0) (rows : List Row) → are_distinct (map name_of rows) ≡ true →
    ((row : Row) → row_named name_of rows (name_of row) ≡ Some row → P row) → AllByRecursion P rows
each_found name_of P [] distinct holds = tt
each_found {Row} name_of P (row ∷ rows) distinct holds =
    let parts = and_parts (not (has (map name_of rows) (name_of row))) (are_distinct (map name_of rows)) distinct in (
      holds row (ap (λ b. cond b (Some row) (row_named name_of rows (name_of row))) (name_itself (name_of row))),
      each_found name_of P rows parts.1 (λ other found. holds other (later other found (not-true _ parts.0) (is_name (name_of other) (name_of row)) refl)),
    )
  where
    later : (other : Row) → row_named name_of rows (name_of other) ≡ Some other → has (map name_of rows) (name_of row) ≡ false → (b : Bool) → is_name (name_of other) (name_of row) ≡ b →
        cond (is_name (name_of other) (name_of row)) (Some row) (row_named name_of rows (name_of other)) ≡ Some other
    later other found apart true is =
        absurd (false≢true (sym apart ∙ ap (has (map name_of rows)) (sym (name_exact (name_of other) (name_of row) is)) ∙ some_row name_of rows (name_of other) other found))
    later other found apart false is = ap (λ b. cond b (Some row) (row_named name_of rows (name_of other))) is ∙ found

-- no two of the rows that are made have one name
pub made_distinct :
    {Row Made : Type 0} (name_of : Row → Name) (made_name : Made → Name) (f : Row → Option Made) → ((row : Row) (made : Made) → f row ≡ Some made → made_name made ≡ name_of row) →
    (rows : List Row) → are_distinct (map name_of rows) ≡ true → are_distinct (map made_name (filter_map f rows)) ≡ true
made_distinct name_of made_name f keep [] distinct = refl
made_distinct {Row} {Made} name_of made_name f keep (row ∷ rows) distinct =
    let parts = and_parts (not (has (map name_of rows) (name_of row))) (are_distinct (map name_of rows)) distinct in
    by (f row) refl (not-true _ parts.0) (made_distinct name_of made_name f keep rows parts.1)
  where
    fewer : (rs : List Row) (name : Name) → has (map name_of rs) name ≡ false → has (map made_name (filter_map f rs)) name ≡ false
    fewer [] name none = refl
    fewer (r ∷ rs) name none =
        let parts = or_parts (is_name name (name_of r)) (has (map name_of rs) name) none in
        one (f r) refl parts.0 (fewer rs name parts.1)
      where
        one : (o : Option Made) → f r ≡ o → is_name name (name_of r) ≡ false → has (map made_name (filter_map f rs)) name ≡ false → has (map made_name (cons_option o (filter_map f rs))) name ≡ false
        one None is apart rest = rest
        one (Some made) is apart rest = or_from _ _ (ap (is_name name) (keep r made is) ∙ apart) rest

    by : (o : Option Made) → f row ≡ o → has (map name_of rows) (name_of row) ≡ false → are_distinct (map made_name (filter_map f rows)) ≡ true → are_distinct (map made_name (cons_option o (filter_map f rows))) ≡ true
    by None is apart rest = rest
    by (Some made) is apart rest = and_from _ _ (ap not (ap (has (map made_name (filter_map f rows))) (keep row made is) ∙ fewer rows (name_of row) apart)) rest
