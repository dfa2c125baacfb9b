-- Store paths, and what lies in them: Nix manual, "Store Path".
use Rattle.std.specs.Prelude.{◌≡◌, ◌≢◌, ◌&&◌, ◌||◌, not, Bool, true, IsSome, nat_eq}
use Rattle.std.specs.FinMap.{get}
use Rattle.std.specs.List.{list_any, starts_with}
use Rattle.host_trait.specs.World.{Leaves, is_path, stage}
use Rattle.switch_names.specs.Names.{Name}
use Rattle.switch_names.specs.Path.{is_below, is_slash}
use Rattle.switch_names.specs.SystemName.{store_folder, store_name}

-- a path is one in the store: the store's folder and a single name
abbrev pub is_store_path : Name → Bool
is_store_path x = starts_with nat_eq x store_folder && not (list_any is_slash (store_name x))

-- a path is another or lies below it
abbrev pub is_at : Name → Name → Bool
is_at x q = is_path q x || is_below q x

-- a leaf stands at a store path or below it
pub record IsStored (leaves : Leaves) (x : Name) : Type 0 where
  pub path : is_store_path x ≡ true
  pub leaf : Name
  pub stands : IsSome (get leaves leaf)
  pub inside : is_at x leaf ≡ true

-- a leaf stands at a place other than the stage
pub record IsPlace (leaves : Leaves) (q : Name) : Type 0 where
  pub stands : IsSome (get leaves q)
  pub other : q ≢ stage
