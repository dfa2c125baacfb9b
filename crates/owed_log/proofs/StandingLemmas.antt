-- What is read at the place of the log, by what stands there.
use Rattle.std.proofs.Common.{◌≡◌, ◌⊎◌, true, false, List, [], ℕ, length, Option, None, Some, IsSome, refl, sym, subst, ◌∙◌, inl, inr}
use Rattle.std.proofs.lemmas.Bool.{both_ways}
use Rattle.std.specs.FinMap.{get}
use Rattle.host_trait.specs.declared.leaf.LeafKind.{LeafKind}
use Rattle.host_trait.specs.declared.leaf.LeafKind.TheVariants as leaf
use Rattle.host_trait.specs.World.{Leaves, content_of, file_bytes, leaf_content}
use Rattle.log_text.specs.declared.lists.Lists.{Lists}
use Rattle.log_text.specs.declared.log.Log.{Log}
use Rattle.log_text.specs.Lists.{IsReadOf}
use Rattle.log_text.specs.Log.{IsLog}
use Rattle.log_text.proofs.BlockLemmas.{one_log}
use Rattle.owed_lists.specs.Lists.{AreListsOf}
use Rattle.tree_put.specs.declared.found.Standing.{Standing}
use Rattle.tree_put.specs.declared.found.Standing.TheVariants.{Nothing, File, Link}
use Rattle.tree_put.specs.Found.{standing_of}
use Rattle.owed_log.specs.declared.standing.LogState.TheVariants.{Absent, Whole, Other}
use Rattle.owed_log.specs.Places.{log_place}
use Rattle.owed_log.specs.Standing.{AreListsAt, AreListsBy, IsLogState, IsWholeLog}
use Rattle.owed_log.proofs.ContentLemmas.{file_content}
use Rattle.owed_log.proofs.ListLemmas.{given_lists}

-- ---- a leaf, by what stands there

nothing_there : (o : Option LeafKind) → Nothing ≡ standing_of o → o ≡ None
nothing_there None is = refl
nothing_there (Some (leaf.File bytes mode uid gid)) is = absurd cc
nothing_there (Some (leaf.Link target)) is = absurd cc

file_there : (o : Option LeafKind) → File ≡ standing_of o → IsSome o
file_there None is = absurd cc
file_there (Some leaf) is = refl

link_there : (o : Option LeafKind) → Link ≡ standing_of o → IsSome o
link_there None is = absurd cc
link_there (Some leaf) is = refl

content_there : (leaves : Leaves) (o : Option LeafKind) (text : List ℕ) → leaf_content leaves o ≡ Some text → IsSome o
content_there leaves None text is = absurd cc
content_there leaves (Some leaf) text is = refl

-- the content of a file is its bytes
bytes_there : (leaves : Leaves) (o : Option LeafKind) (text : List ℕ) → File ≡ standing_of o → leaf_content leaves o ≡ Some text → file_bytes o ≡ Some text
bytes_there leaves None text file is = absurd cc
bytes_there leaves (Some (leaf.File bytes mode uid gid)) text file is = is
bytes_there leaves (Some (leaf.Link target)) text file is = absurd cc

-- what has bytes is a file
file_by_bytes : (o : Option LeafKind) (text : List ℕ) → file_bytes o ≡ Some text → standing_of o ≡ File
file_by_bytes None text is = absurd cc
file_by_bytes (Some (leaf.File bytes mode uid gid)) text is = refl
file_by_bytes (Some (leaf.Link target)) text is = absurd cc

-- ---- where the log has content

module _ (leaves : Leaves) (bytes : List ℕ) (content : content_of leaves log_place ≡ Some bytes) (log : Log) (read : IsReadOf bytes log) where
  pub log_lists : AreListsAt leaves log.lists
  log_lists = given_lists leaves log.lists bytes content record { blocks = read.blocks; tail = read.tail; is_log = read.is_log; are = read.lists }

  pub file_whole : File ≡ standing_of (get leaves log_place) → log.is_whole ≡ true → IsLogState leaves (Whole (length bytes))
  file_whole file whole = record {
    text = bytes;
    file = bytes_there leaves (get leaves log_place) bytes file content;
    blocks = read.blocks;
    is_log = subst (λ tail. IsLog bytes read.blocks tail) (read.whole.0 whole) read.is_log;
    is_count = refl;
  }

  -- what is no file, or torn, is no whole log
  pub other_state : (stands : Standing) → stands ≡ standing_of (get leaves log_place) → (stands ≡ File → log.is_whole ≡ false) → IsLogState leaves Other
  other_state stands is torn = (
    content_there leaves (get leaves log_place) bytes content,
    λ count whole.
        let same : whole.text ≡ bytes = let both : Some whole.text ≡ Some bytes = sym (file_content leaves log_place whole.text whole.file) ∙ content in cc in
        let none = (one_log bytes read.blocks whole.blocks read.tail [] read.is_log (subst (λ text. IsLog text whole.blocks []) same whole.is_log)).1 in
        both_ways _ (torn (is ∙ file_by_bytes (get leaves log_place) whole.text whole.file)) (read.whole.1 none),
  )

-- ---- where it has none

module _ (leaves : Leaves) (content : content_of leaves log_place ≡ None) where
  pub old_lists : (lists : Lists) → AreListsOf leaves lists → AreListsAt leaves lists
  old_lists lists are = subst (λ (content : Option (List ℕ)). AreListsBy content leaves lists) (sym content) are

  no_log : (count : ℕ) → IsWholeLog leaves count → ⊥
  no_log count whole = none_there (sym content ∙ file_content leaves log_place whole.text whole.file)
    where
      none_there : None ≡ Some whole.text → ⊥
      none_there is = cc

  pub absent_state : Nothing ≡ standing_of (get leaves log_place) → IsLogState leaves Absent
  absent_state is = nothing_there (get leaves log_place) is

  pub left_state : (stands : Standing) → (stands ≡ File) ⊎ (stands ≡ Link) → stands ≡ standing_of (get leaves log_place) → IsLogState leaves Other
  left_state stands (inl file) is = (file_there (get leaves log_place) (sym file ∙ is), no_log)
  left_state stands (inr link) is = (link_there (get leaves log_place) (sym link ∙ is), no_log)
