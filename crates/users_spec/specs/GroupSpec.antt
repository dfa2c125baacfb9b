-- Groups of a specification: NixOS manual, option `users.groups`.
use Rattle.std.specs.Prelude.{◌≡◌, ◌≤◌, ℕ, true, List, map, length, codes, IfSome, Ok}
use Rattle.std.specs.List.{list_all}
use Rattle.serde_json.specs.Data.{Data}
use Rattle.switch_names.specs.Ids.{id_max}
use Rattle.users_spec.specs.AccountName.{is_account_name}
use Rattle.users_spec.specs.Place.{place_number}
use Rattle.users_spec.specs.Fields.{Read, ◌>>=◌, field, if_any, as_id, object_at, name_at, names_at, once}
use Rattle.users_spec.specs.declared.place.Place.{Place}
use Rattle.users_spec.specs.declared.place.Place.TheVariants.{Group}
use Rattle.users_spec.specs.declared.group_spec.GroupSpec.{GroupSpec}

-- the group that a value is at a place, beside the names that stand before it
unfoldable pub group_at : Place → List (List ℕ) → Data → Read GroupSpec
group_at place earlier d = do
  _ ← object_at place d
  name ← name_at place (codes "name") d
  _ ← once earlier name
  gid ← field (if_any as_id) place (codes "gid") d
  members ← names_at place (codes "members") d
  Ok (record { name = name; gid = gid; members = members })

-- a group after those that stand before
abbrev pub group_after : List GroupSpec → Data → Read GroupSpec
group_after before d = group_at (Group (place_number (length before))) (map (λ group. group.name) before) d

-- its name and its members are names, and its id is an id
pub record IsSoundGroup (group : GroupSpec) : Type 0 where
  pub name : is_account_name group.name ≡ true
  pub gid : IfSome group.gid (λ id. id ≤ id_max)
  pub members : list_all is_account_name group.members ≡ true
