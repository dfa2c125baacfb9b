-- Shadow rows of users, as they are made one after another.
use Rattle.std.specs.Prelude.{Bool, List, Option, None, Some}
use Rattle.std.specs.List.{filter_map}
use Rattle.switch_names.specs.Names.{Name}
use Rattle.account_text.specs.declared.passwd.PasswdRow.{PasswdRow}
use Rattle.account_text.specs.declared.shadow.ShadowRow.{ShadowRow}
use Rattle.account_text.specs.Order.{row_named}
use Rattle.account_text.specs.Shadow.{shadow_name}
use Rattle.users_spec.specs.declared.user_spec.UserSpec.{UserSpec}
use Rattle.users_merge.specs.Rows.{fixed, row_password, shadow_rest}

-- the shadow row of a declared user
abbrev pub declared_shadow : Bool → UserSpec → Option ShadowRow → ShadowRow
declared_shadow mutable user row =
    record { name = user.name; password = fixed mutable user.hashed (row_password user row); rest = shadow_rest row }

-- the shadow row of a user who has a passwd row
abbrev pub shadow_by : Bool → Option UserSpec → Option ShadowRow → Option ShadowRow
shadow_by mutable None row = row
shadow_by mutable (Some user) row = Some (declared_shadow mutable user row)

-- the shadow row that goes with a passwd row
abbrev pub shadow_beside : Bool → (Name → Option UserSpec) → (Name → Option ShadowRow) → PasswdRow → Option ShadowRow
shadow_beside mutable users old row = shadow_by mutable (users row.name) (old row.name)

-- the shadow rows that go with passwd rows
abbrev pub merged_shadow : Bool → List UserSpec → List ShadowRow → List PasswdRow → List ShadowRow
merged_shadow mutable users table passwd =
    filter_map (shadow_beside mutable (row_named (λ user. user.name) users) (row_named shadow_name table)) passwd
