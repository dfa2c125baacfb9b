-- Names that a text begins with.
use Rattle.std.specs.Prelude.{◌≡◌, ◌==◌, ◌||◌, ◌+◌, ◌<◌, ℕ, suc, not, Bool, true, List, [], ◌∷◌, length, if◌then◌else◌}
use Rattle.std.specs.Ordering.{is_gt}
use Rattle.host_trait.specs.World.{bytes_cmp}
use Rattle.switch_names.specs.Names.{Name, has, is_name}

-- how many bytes two texts begin with alike
abbrev pub common : List ℕ → List ℕ → ℕ
common [] other = 0
common (byte ∷ bytes) [] = 0
common (byte ∷ bytes) (first ∷ rest) = if byte == first then suc (common bytes rest) else 0

-- a name isn't above a text in byte order
abbrev pub is_up_to : List ℕ → Name → Bool
is_up_to text name = not (is_gt (bytes_cmp name text))

-- the greatest of some names that isn't above a text
pub record IsGreatest (names : List Name) (text : List ℕ) (greatest : Name) : Type 0 where
  pub listed : has names greatest ≡ true
  pub reaches : is_up_to text greatest ≡ true
  pub others : (name : Name) → has names name ≡ true → is_up_to text name ≡ true → is_up_to greatest name ≡ true

-- one more name is found
abbrev pub IsAdded : Name → List Name → List Name → Type 0
IsAdded name found more = (other : Name) → has more other ≡ (has found other || is_name other name)

-- how far the shorter names reach with which a text begins that has a name at its beginning, or has it not: that name is found, or it isn't
pub data IsCut (name : Name) (text : List ℕ) (found more : List Name) (count : ℕ) : Type 0 where
  Whole : common name text ≡ length name → count + 1 ≡ length name → IsAdded name found more → IsCut name text found more count
  Part : common name text < length name → count ≡ common name text → more ≡ found → IsCut name text found more count
