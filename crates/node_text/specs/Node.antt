-- The text of a leaf. This project's own, after mode, user and group of inode(7) and the target of symlink(7).
use Rattle.std.specs.Prelude.{◌≡◌, ℕ, ◌+◌, ◌<◌, ◌≤◌, ◌^◌, ◌/◌, ◌%◌, ◌⊎◌, List, [], ◌∷◌, ◌++◌, length, take, codes, decimal, Result, MatchResult}
use Rattle.std.specs.Str.{IsUtf8}
use Rattle.host_trait.specs.Leaf.{IsLeaf}
use Rattle.host_trait.specs.declared.leaf.LeafKind.{LeafKind}
use Rattle.host_trait.specs.declared.leaf.LeafKind.TheVariants.{File, Link}
use Rattle.node_text.specs.declared.fault.NodeFault.{NodeFault}
use Rattle.node_text.specs.declared.fault.NodeFault.TheVariants.{Tag, Header, Utf8, Memory}

abbrev pub blank : ℕ
blank = 32

abbrev pub line_feed : ℕ
line_feed = 10

-- a mode in four octal digits
abbrev pub octal : ℕ → List ℕ
octal mode = (48 + mode / 512) ∷ (48 + mode / 64 % 8) ∷ (48 + mode / 8 % 8) ∷ (48 + mode % 8) ∷ []

-- the text of a leaf: a file's header is one line before its bytes, and a link is one line
abbrev pub node_of : LeafKind → List ℕ
node_of (File bytes mode uid gid) =
    codes "F " ++ octal mode ++ blank ∷ decimal uid ++ blank ∷ decimal gid ++ line_feed ∷ bytes
node_of (Link target) = codes "L " ++ target ++ line_feed ∷ []

-- owners have 32 bits
abbrev pub HasOwners : LeafKind → Type 0
HasOwners (File bytes mode uid gid) = (uid < 2 ^ 32) × (gid < 2 ^ 32)
HasOwners (Link target) = Unit {0}

-- the text is this leaf's, whatever the encoding of a target
pub record IsNodeOf (text : List ℕ) (kind : LeafKind) : Type 0 where
  pub leaf : IsLeaf kind
  pub owners : HasOwners kind
  pub spelled : text ≡ node_of kind

-- a target is UTF-8
abbrev pub IsEncoded : LeafKind → Type 0
IsEncoded (File bytes mode uid gid) = Unit {0}
IsEncoded (Link target) = IsUtf8 target

-- some leaf's text begins with this
abbrev pub Begins : List ℕ → Type 0
Begins front = (kind : LeafKind) × (more : List ℕ) × IsNodeOf (front ++ more) kind

-- So many bytes of the text begin a leaf's, and not one more does, nor are they a leaf's when they are all.
pub record IsStuckAt (text : List ℕ) (at : ℕ) : Type 0 where
  pub within : at ≤ length text
  pub begins : Begins (take at text)
  pub ends : at < length text → Begins (take (at + 1) text) → ⊥
  pub is_none : (kind : LeafKind) → IsNodeOf text kind → ⊥

-- the first two bytes are a file's or a link's
abbrev pub IsTagged : List ℕ → Type 0
IsTagged text = (take 2 text ≡ codes "F ") ⊎ (take 2 text ≡ codes "L ")

-- what keeps a text from being a leaf's; want of memory may come with any text
abbrev pub IsFaultOf : List ℕ → NodeFault → Type 0
IsFaultOf text Tag = IsTagged text → ⊥
IsFaultOf text (Header at) = IsTagged text × IsStuckAt text at
IsFaultOf text Utf8 = (target : List ℕ) × IsNodeOf text (Link target) × (IsUtf8 target → ⊥)
IsFaultOf text Memory = Unit {0}

-- the leaf is read, unless memory ran out
abbrev pub IsReadAs : Result LeafKind NodeFault → LeafKind → Type 0
IsReadAs result kind = MatchResult result (λ leaf. leaf ≡ kind) (λ fault. fault ≡ Memory)
