-- What stays the same while a farm is put: setup-etc.pl of nixpkgs.
use Rattle.std.specs.Prelude.{◌≡◌, ◌||◌, true, false, All, List}
use Rattle.std.specs.FinMap.{insert, remove}
use Rattle.switch_names.specs.Names.{Name, has}
use Rattle.switch_names.specs.Texts.{is_line_feed}
use Rattle.host_trait.specs.declared.leaf.LeafKind.{LeafKind}
use Rattle.host_trait.specs.World.{Leaves}
use Rattle.etc_manifest.specs.declared.item.Item.{Item}
use Rattle.etc_manifest.specs.Place.{is_reserved}
use Rattle.etc_clean.specs.Names.{place}
use Rattle.etc_clean.specs.CleanList.{clean_leaf, clean_name, clean_names, clean_of, clean_text}
use Rattle.etc_clean.specs.Etc.{Farm, etc, is_owned, static_name}
use Rattle.etc_clean.specs.Farm.{at, is_blocked, is_entry, is_foreign, is_gone, placed}

-- the same leaves are foreign, and they and what stands at blocked entries are as they were
pub record Keeps (items : List Item) (w m : Leaves) : Type 0 where
  pub foreign : (q : Name) → is_foreign items m q ≡ is_foreign items w q
  pub at_foreign : (q : Name) → is_foreign items w q ≡ true → at m q ≡ at w q
  pub at_blocked : (q : Name) → is_entry items q ≡ true → is_blocked items w q ≡ true → at m q ≡ at w q

-- no entry's first name is reserved
abbrev pub AreFree : List Item → Type 0
AreFree items = (q : Name) → is_entry items q ≡ true → is_reserved q ≡ false

-- no entry has a line feed: each is a line of its own on a clean list
abbrev pub AreLines : List Item → Type 0
AreLines items = (q : Name) → is_entry items q ≡ true → All (λ byte. is_line_feed byte ≡ false) q

-- a farm leaves the same at its names, from the one tree and from the other
abbrev pub SameEtc : Farm → Leaves → Leaves → Type 0
SameEtc farm w m = (q : Name) → is_owned q ≡ true → etc farm m q ≡ etc farm w q

-- where a farm looks, two trees are alike
pub record AreAlike (w m : Leaves) : Type 0 where
  pub leaves : (q : Name) → is_owned q ≡ true → at m q ≡ at w q
  pub clean : clean_of m ≡ clean_of w

-- a clean list has the old names and those of the copies to come, as the first of a switch does
abbrev pub IsFirstList : List Item → Leaves → List Name → Type 0
IsFirstList items w names = (q : Name) → has (clean_names (clean_text names)) q ≡ (has (clean_of w) q || has (placed items w) q)

-- a clean list has the names of the copies, as the last of a switch does, and nothing is gone any more
pub record IsLastList (items : List Item) (w : Leaves) (names : List Name) : Type 0 where
  pub names_are : (q : Name) → has (clean_names (clean_text names)) q ≡ has (placed items w) q
  pub none_gone : (q : Name) → is_gone items w q ≡ false

-- a tree that keeps what a farm looks at has the same end
abbrev pub EndLaw : Type 0
EndLaw = (farm : Farm) (w m : Leaves) → Keeps farm.items w m → SameEtc farm w m

-- where the places that aren't the farm's stay as well, the whole of etc has the same end
abbrev pub WholeLaw : Type 0
WholeLaw = (farm : Farm) (w m : Leaves) → Keeps farm.items w m → ((q : Name) → is_owned q ≡ false → at m q ≡ at w q) → (q : Name) → etc farm m q ≡ etc farm w q

-- what is kept from one tree to the next, and on to a third, is kept from the first to the third
abbrev pub StepsLaw : Type 0
StepsLaw = (items : List Item) (w v m : Leaves) → Keeps items w v → Keeps items v m → Keeps items w m

-- what changes elsewhere alone keeps a farm
abbrev pub AlikeLaw : Type 0
AlikeLaw = (items : List Item) (w m : Leaves) → AreFree items → AreAlike w m → Keeps items w m

-- the link at `static` may be put
abbrev pub StaticLaw : Type 0
StaticLaw = (items : List Item) (w : Leaves) (leaf : LeafKind) → AreFree items → Keeps items w (insert w (place static_name) leaf)

-- a leaf that isn't foreign may be removed, where it is neither reserved nor an entry
abbrev pub RemovalLaw : Type 0
RemovalLaw =
    (items : List Item) (w : Leaves) (x : Name) → is_reserved x ≡ false → is_entry items x ≡ false → is_foreign items w x ≡ false →
    Keeps items w (remove w (place x))

-- an entry that isn't blocked may be put
abbrev pub PutLaw : Type 0
PutLaw =
    (items : List Item) (w : Leaves) (x : Name) (leaf : LeafKind) → is_reserved x ≡ false → is_entry items x ≡ true → is_blocked items w x ≡ false →
    Keeps items w (insert w (place x) leaf)

-- the first clean list may be put
abbrev pub FirstListLaw : Type 0
FirstListLaw = (items : List Item) (w : Leaves) (names : List Name) → AreFree items → IsFirstList items w names → Keeps items w (insert w (place clean_name) (clean_leaf names))

-- the last clean list may be put, once nothing is gone
abbrev pub LastListLaw : Type 0
LastListLaw = (items : List Item) (w : Leaves) (names : List Name) → AreFree items → IsLastList items w names → Keeps items w (insert w (place clean_name) (clean_leaf names))

-- a farm's end keeps what the farm looks at
abbrev pub AgainLaw : Type 0
AgainLaw = (farm : Farm) (w v : Leaves) → AreFree farm.items → AreLines farm.items → ((q : Name) → is_owned q ≡ true → at v q ≡ etc farm w q) → Keeps farm.items w v
