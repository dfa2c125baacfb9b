-- The store: Nix manual, "Store Path".
use Rattle.std.specs.Prelude.{Bool, codes, nat_eq}
use Rattle.std.specs.List.{starts_with}
use Rattle.switch_names.specs.Names.{Name}

-- a path lies in the store
unfoldable pub is_in_store : Name → Bool
is_in_store q = starts_with nat_eq q (codes "nix/store/")
