-- What is wanted below /etc, place by place.
use Rattle.std.specs.Prelude.{◌≡◌, true, false, List, [], ◌∷◌, ◌++◌, map, find, Option, option_map, Result, Ok, Err}
use Rattle.std.specs.List.{AllByRecursion}
use Rattle.std.specs.List.Sorted.{IsStrictlySortedBy}
use Rattle.switch_names.specs.Names.{Name, has, is_name}
use Rattle.switch_names.specs.Path.{is_below}
use Rattle.host_trait.specs.Bytes.{bytes_cmp}
use Rattle.etc_manifest.specs.declared.item.Item.{Item}
use Rattle.etc_manifest.specs.declared.item.ItemKind.{ItemKind}
use Rattle.etc_manifest.specs.Place.{is_reserved}

-- the places in order
abbrev pub places : List Item → List Name
places items = map (λ item. item.place) items

-- what is wanted at a place
abbrev pub entry : List Item → Name → Option ItemKind
entry items name = option_map (λ item. item.kind) (find (λ item. is_name name item.place) items)

-- each place once, in byte order, and none of them reserved
pub record IsManifest (items : List Item) : Type 0 where
  pub sorted : IsStrictlySortedBy bytes_cmp (places items)
  pub free : AllByRecursion (λ name. is_reserved name ≡ false) (places items)

-- no place is above another
abbrev pub AreApart : List Name → Type 0
AreApart names = (name other : Name) → has names name ≡ true → has names other ≡ true → is_below name other ≡ false

module _ {T E : Type 0} where
  -- these items before others
  abbrev pub prefixed : List T → Result (List T) E → Result (List T) E
  prefixed front (Ok items) = Ok (front ++ items)
  prefixed front (Err fault) = Err fault

  -- all of them, or the first fault
  abbrev pub gathered : List (Result T E) → Result (List T) E
  gathered [] = Ok []
  gathered (Ok item ∷ rest) = prefixed (item ∷ []) (gathered rest)
  gathered (Err fault ∷ rest) = Err fault
