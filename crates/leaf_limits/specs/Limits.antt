-- How long a content may be that is read.
use Rattle.std.specs.Prelude.{◌≡◌, ◌≤◌, ◌<◌, ◌^◌, ◌&&◌, ℕ, Bool, IsSome, true, List, [], length, nat_lt, Option, None, Some, option_map, unwrap_or, if◌then◌else◌}
use Rattle.std.specs.FinMap.{keys}
use Rattle.std.specs.List.{find}
use Rattle.std.specs.Ordering.{is_lt}
use Rattle.std.specs.declared.cmp.Ordering.TheVariants.{Less}
use Rattle.host_trait.specs.World.{Leaves, bytes_cmp, content_of}
use Rattle.leaf_limits.specs.Counts.{past}
use Rattle.leaf_limits.specs.declared.too_long.TooLong.{TooLong}
use Rattle.switch_names.specs.Names.{Name, has}

-- the greatest length of a content that is read, in bytes: 16 MiB
abbrev pub leaf_max : ℕ
leaf_max = 2 ^ 24

-- how many bytes a content has: none where there is none
abbrev pub length_of : Option (List ℕ) → ℕ
length_of content = length (unwrap_or content [])

-- whether a content is too long
abbrev pub is_long_content : Option (List ℕ) → Bool
is_long_content content = nat_lt leaf_max (length_of content)

-- how many bytes a content has, where it is too long
abbrev pub content_past : Option (List ℕ) → Option ℕ
content_past content = past leaf_max (length_of content)

-- how many bytes the content at a place has: none where there is none
abbrev pub length_at : Leaves → Name → ℕ
length_at leaves at = length_of (content_of leaves at)

-- whether the content at a place is too long
abbrev pub is_long : Leaves → Name → Bool
is_long leaves at = is_long_content (content_of leaves at)

-- the length of the first content in byte order that is taken and too long, where there is one
abbrev pub long_past : (Name → Bool) → Leaves → Option ℕ
long_past is_taken leaves = option_map (length_at leaves) (find (λ q. is_taken q && is_long leaves q) (keys leaves))

-- of the places with a content, these are the ones that are taken
abbrev pub AreTaken : List Name → (Name → Bool) → Leaves → Type 0
AreTaken places is_taken leaves = (q : Name) → IsSome (content_of leaves q) → has places q ≡ is_taken q

-- the contents at some places are within the limit
abbrev pub AreWithin : List Name → Leaves → Type 0
AreWithin places leaves = (q : Name) → has places q ≡ true → length_at leaves q ≤ leaf_max

-- of some places the first in byte order whose content is too long, and its length
pub record IsFirstTooLong (places : List Name) (leaves : Leaves) (long : TooLong) : Type 0 where
  pub among : has places long.at ≡ true
  pub count : long.count ≡ length_at leaves long.at
  pub past : leaf_max < long.count
  pub first : (q : Name) → has places q ≡ true → bytes_cmp q long.at ≡ Less → length_at leaves q ≤ leaf_max

-- the first such of some places, where there is one
abbrev pub IsFirstOf : List Name → Leaves → Option TooLong → Type 0
IsFirstOf places leaves None = AreWithin places leaves
IsFirstOf places leaves (Some long) = IsFirstTooLong places leaves long

-- a place stands before the one that was found, where one was
abbrev pub IsBefore : Name → Option TooLong → Type 0
IsBefore place None = Unit {0}
IsBefore place (Some long) = bytes_cmp place long.at ≡ Less

-- the first in byte order of two contents that are too long, where there are any: of two at one place the one that is told first
abbrev pub first_long : Option TooLong → Option TooLong → Option TooLong
first_long None other = other
first_long (Some one) None = Some one
first_long (Some one) (Some other) = if is_lt (bytes_cmp other.at one.at) then Some other else Some one
