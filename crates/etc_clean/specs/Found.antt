-- What the leaves below etc are found to be: setup-etc.pl of nixpkgs.
use Rattle.std.specs.Prelude.{◌≡◌, ◌&&◌, ◌++◌, ℕ, not, Bool, List, [], ◌∷◌, filter}
use Rattle.switch_names.specs.Names.{Name}
use Rattle.host_trait.specs.World.{Leaves}
use Rattle.etc_manifest.specs.declared.item.Item.{Item}
use Rattle.etc_manifest.specs.Place.{is_reserved}
use Rattle.etc_clean.specs.declared.found.FoundLeaves.{FoundLeaves}
use Rattle.etc_clean.specs.Farm.{at, is_entry, is_ours}
use Rattle.etc_clean.specs.Names.{names_below}
use Rattle.etc_clean.specs.Standing.{is_standing}

-- a name is neither reserved nor an entry's
abbrev pub is_free : List Item → Name → Bool
is_free items q = not (is_reserved q) && not (is_entry items q)

module _ (items : List Item) (clean : List Name) (leaves : Leaves) where
  -- what stands at such a name is the farm's, by the names of a clean list
  abbrev pub is_gone_by : Name → Bool
  is_gone_by q = is_free items q && is_ours clean q (at leaves q)

  -- what stands at such a name isn't the farm's
  abbrev pub is_foreign_by : Name → Bool
  is_foreign_by q = is_free items q && not (is_ours clean q (at leaves q))

  -- some names, by whose their leaves are
  pub record AreFoundLeaves (names : List Name) (found : FoundLeaves) : Type 0 where
    pub gone : found.gone ≡ filter is_gone_by names
    pub foreign : found.foreign ≡ filter is_foreign_by names
    pub standing : found.standing ≡ filter (is_standing items leaves) names

  -- the name of one path more, where it has one
  pub record TakesPath (path : List ℕ) (old new : FoundLeaves) : Type 0 where
    pub gone : new.gone ≡ old.gone ++ filter is_gone_by (names_below (path ∷ []))
    pub foreign : new.foreign ≡ old.foreign ++ filter is_foreign_by (names_below (path ∷ []))
    pub standing : new.standing ≡ old.standing ++ filter (is_standing items leaves) (names_below (path ∷ []))
