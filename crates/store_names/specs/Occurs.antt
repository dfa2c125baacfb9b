-- Store paths that stand in texts: Nix manual, "Store Object", "References", and nix-store(1), "--query --references".
use Rattle.std.specs.Prelude.{◌≡◌, ◌++◌, ℕ, true, IsTrue, List, nat_eq}
use Rattle.std.specs.List.{AllByRecursion, starts_with}
use Rattle.switch_names.specs.Names.{Name, has}
use Rattle.switch_names.specs.SystemName.{store_folder}

-- some bytes stand somewhere in a text
pub record Stands (bytes text : List ℕ) : Type 0 where
  pub before : List ℕ
  pub after : List ℕ
  pub whole : text ≡ before ++ (bytes ++ after)

-- one of these names stands in a text, with these bytes before it
pub record Occurs (names : List Name) (front text name : List ℕ) : Type 0 where
  pub listed : IsTrue (has names name)
  pub stands : Stands (front ++ name) text

-- each of these names begins with the store's folder
abbrev pub AreInFolder : List Name → Type 0
AreInFolder names = AllByRecursion (λ name. starts_with nat_eq name store_folder ≡ true) names
