-- Reading from left to right: a field and the bytes after it, or how many bytes are left from the first that can't go on.
use Rattle.std.specs.Prelude.{◌≡◌, ℕ, ◌+◌, ◌*◌, ◌-◌, ◌^◌, ◌==◌, ◌&&◌, Bool, List, [], ◌∷◌, length, take, drop, nat_lt, nat_le, Result, Ok, Err, slice_index, position, unwrap_or, if◌then◌else◌}
use Rattle.std.specs.Str.{IsUtf8}
use Rattle.switch_names.specs.Path.{is_no_path_byte}
use Rattle.host_trait.specs.declared.leaf.LeafKind.{LeafKind}
use Rattle.host_trait.specs.declared.leaf.LeafKind.TheVariants.{File, Link}
use Rattle.node_text.specs.declared.fault.NodeFault.{NodeFault}
use Rattle.node_text.specs.declared.fault.NodeFault.TheVariants.{Tag, Header, Utf8, Memory}
use Rattle.node_text.specs.Node.{blank, line_feed}

abbrev pub Read : Type 0 → Type 0
Read A = Result A ℕ

infixl 10 ◌>>=◌
abbrev pub ◌>>=◌ : {A B : Type 0} → Read A → (A → Read B) → Read B
(Ok x) >>= f = f x
(Err left) >>= f = Err left

-- what a function answers, seen by view, is what reading gives
abbrev pub Gives : {X Y : Type 0} → (X → Y) → Result X ℕ → Read Y → Type 0
Gives view (Ok x) read = read ≡ Ok (view x)
Gives view (Err left) read = read ≡ Err left

-- one octal digit
abbrev pub octal_at : List ℕ → Read (ℕ × List ℕ)
octal_at [] = Err 0
octal_at (b ∷ bs) = if nat_le 48 b && nat_le b 55 then Ok (b - 48, bs) else Err (length (b ∷ bs))

-- this byte
abbrev pub byte_at : ℕ → List ℕ → Read (List ℕ)
byte_at byte [] = Err 0
byte_at byte (b ∷ bs) = if b == byte then Ok bs else Err (length (b ∷ bs))

abbrev pub is_digit : ℕ → Bool
is_digit b = nat_le 48 b && nat_le b 57

-- a number has no leading zero and stays below 2 ^ 32
abbrev pub is_longer : ℕ → ℕ → Bool
is_longer n b = is_digit b && (nat_lt 0 n && nat_lt (10 * n + (b - 48)) (2 ^ 32))

-- the digits that follow a number, up to this byte
abbrev pub digits_at : ℕ → ℕ → List ℕ → Read (ℕ × List ℕ)
digits_at end n [] = Err 0
digits_at end n (b ∷ bs) =
    if b == end then Ok (n, bs) else if is_longer n b then digits_at end (10 * n + (b - 48)) bs else Err (length (b ∷ bs))

-- a number and the byte that ends it
abbrev pub number_at : ℕ → List ℕ → Read (ℕ × List ℕ)
number_at end [] = Err 0
number_at end (b ∷ bs) = if is_digit b then digits_at end (b - 48) bs else Err (length (b ∷ bs))

-- one field, and then another
abbrev pub both : {A B : Type 0} → (List ℕ → Read (A × List ℕ)) → (List ℕ → Read (B × List ℕ)) → List ℕ → Read ((A × B) × List ℕ)
both first second text = do
  a ← first text
  b ← second a.1
  Ok ((a.0, b.0), b.1)

-- a field, and then this byte
abbrev pub ended : {A : Type 0} → (List ℕ → Read (A × List ℕ)) → ℕ → List ℕ → Read (A × List ℕ)
ended field byte text = do
  a ← field text
  rest ← byte_at byte a.1
  Ok (a.0, rest)

-- a mode and the blank after it
unfoldable pub mode_at : List ℕ → Read (ℕ × List ℕ)
mode_at text = do
  mode ← ended (both octal_at (both octal_at (both octal_at octal_at))) blank text
  Ok (512 * mode.0.0 + 64 * mode.0.1.0 + 8 * mode.0.1.1.0 + mode.0.1.1.1, mode.1)

-- a file behind its tag: mode and owners, and all else is its bytes
unfoldable pub file_at : List ℕ → Read LeafKind
file_at text = do
  header ← both mode_at (both (number_at blank) (number_at line_feed)) text
  Ok (File header.1 header.0.0 header.0.1.0 header.0.1.1)

-- how many bytes of a target stand at the front
abbrev pub target_len : List ℕ → ℕ
target_len text = unwrap_or (position is_no_path_byte text) (length text)

-- a target and the line feed that ends it
unfoldable pub target_at : List ℕ → Read (List ℕ × List ℕ)
target_at text =
    if nat_lt 4096 (target_len text) then Err (length text - 4096)
    else if target_len text == 0 then Err (length text)
    else if slice_index text (target_len text) == line_feed then Ok (take (target_len text) text, drop (target_len text + 1) text)
    else Err (length text - target_len text)

-- a link behind its tag
unfoldable pub link_at : List ℕ → Read LeafKind
link_at text = do
  target ← target_at text
  if length target.1 == 0 then Ok (Link target.0) else Err (length target.1)

-- what a reader behind a tag refuses, when it reads these fields of the whole text
abbrev pub FailsBy : NodeFault → List ℕ → Read LeafKind → Type 0
FailsBy Tag text read = ⊥
FailsBy (Header at) text read = (left : ℕ) × (read ≡ Err left) × (at ≡ length text - left)
FailsBy Utf8 text read = (target : List ℕ) × (read ≡ Ok (Link target)) × (IsUtf8 target → ⊥)
FailsBy Memory text read = Unit {0}

abbrev pub GivesLeaf : Result LeafKind NodeFault → List ℕ → Read LeafKind → Type 0
GivesLeaf (Ok leaf) text read = read ≡ Ok leaf
GivesLeaf (Err fault) text read = FailsBy fault text read
