-- The log and the lists in worlds that have the same there.
use Rattle.std.proofs.Common.{◌≡◌, true, ℕ, List, Option, None, Some, is_some, sym, ap, subst, ◌∙◌, inl, inr}
use Rattle.std.specs.FinMap.{get}
use Rattle.host_trait.specs.declared.leaf.LeafKind.{LeafKind}
use Rattle.host_trait.specs.World.{Leaves, content_of, file_bytes, leaf_content}
use Rattle.log_text.specs.declared.lists.Lists.{Lists}
use Rattle.log_text.specs.declared.lists.Which.{Which}
use Rattle.log_text.specs.Lists.{list_names}
use Rattle.owed_lists.specs.Lists.{IsListOf, place_of}
use Rattle.owed_log.specs.declared.log_write.LogWrite.{LogWrite}
use Rattle.owed_log.specs.declared.log_write.LogWrite.TheVariants.{Nothing, Append, Put}
use Rattle.owed_log.specs.Laws.{AreAlone, IsTidy, NoneOld}
use Rattle.owed_log.specs.Places.{log_place}
use Rattle.owed_log.specs.Standing.{AreListsAt, AreListsBy, IsWholeLog}
use Rattle.owed_log.specs.Writing.{CanAppend, IsPrepared, IsWriteFor, NeedsNothing}
use Rattle.owed_log.proofs.ListLemmas.{one_lists, some_lists}
use Rattle.owed_plan.specs.Store.{AreSameInStore}
use Rattle.owed_plan.proofs.StoreLemmas.{leaf_same}
use Rattle.switch_names.specs.Names.{Name}

-- ---- the log

module _ (w m : Leaves) (log : get m log_place ≡ get w log_place) where
  whole_same : (count : ℕ) → IsWholeLog w count → IsWholeLog m count
  whole_same count whole = record { text = whole.text; file = ap file_bytes log ∙ whole.file; blocks = whole.blocks; is_log = whole.is_log; is_count = whole.is_count }

  tidy_same : IsTidy w → IsTidy m
  tidy_same (inl none) = inl (log ∙ none)
  tidy_same (inr whole) = inr (whole.0, whole_same whole.0 whole.1)

  nothing_same : (lists : Lists) → NeedsNothing w lists → NeedsNothing m lists
  nothing_same lists needs = (needs.0, log ∙ needs.1)

  append_same : (lists : Lists) → CanAppend w lists → CanAppend m lists
  append_same lists can = record { count = can.count; whole = whole_same can.count can.whole; short = can.short }

-- what has to be written is told by what stands at the log's place
pub write_same : (w m : Leaves) → get m log_place ≡ get w log_place → (lists : Lists) (write : LogWrite) → IsWriteFor w lists write → IsWriteFor m lists write
write_same w m log lists write is = record { prepared = by write is.prepared; counted = is.counted }
  where
    by : (write : LogWrite) → IsPrepared w lists write → IsPrepared m lists write
    by Nothing needs = nothing_same w m log lists needs
    by (Append text) both = (both.0, append_same w m log lists both.1)
    by (Put text) all = (all.0, λ needs. all.1 (nothing_same m w (sym log) lists needs), λ can. all.2 (append_same m w (sym log) lists can))

-- ---- the lists

-- two trees have the same leaves of the log and of the lists
pub record AreSameLists (w m : Leaves) : Type 0 where
  pub log : get m log_place ≡ get w log_place
  pub old : (which : Which) → get m (place_of which) ≡ get w (place_of which)

module _ (w m : Leaves) (store : AreSameInStore m w) (same : AreSameLists w m) where
  content : (at : Name) → get m at ≡ get w at → content_of m at ≡ content_of w at
  content at there = ap (leaf_content m) there ∙ leaf_same m w store (get w at)

  pub lists_same : (lists : Lists) → AreListsAt w lists → AreListsAt m lists
  lists_same lists are = subst (λ (o : Option (List ℕ)). AreListsBy o m lists) (sym (content log_place same.log)) (by (content_of w log_place) are)
    where
      by : (o : Option (List ℕ)) → AreListsBy o w lists → AreListsBy o m lists
      by (Some text) gives = gives
      by None are = λ which. subst (λ (o : Option (List ℕ)). IsListOf o (list_names lists which)) (sym (content (place_of which) (same.old which))) (are which)

  none_same : NoneOld w → NoneOld m
  none_same none which = same.old which ∙ none which

  pub alone_same : (lists : Lists) → AreAlone w lists → AreAlone m lists
  alone_same lists alone = record { are = lists_same lists alone.are; tidy = tidy_same w m same.log alone.tidy; none_old = none_same alone.none_old }

-- where the lists of a tree are those of another, the other's are those of the first
pub lists_back : (w m : Leaves) → ((lists : Lists) → AreListsAt w lists → AreListsAt m lists) → (lists : Lists) → AreListsAt m lists → AreListsAt w lists
lists_back w m forth lists are = let first = some_lists w in subst (AreListsAt w) (sym (one_lists m lists first.0 are (forth first.0 first.1))) first.1

-- ---- what stands at their places

-- at a place stands what stood there, or nothing, or a file
pub data IsListLeaf (leaves : Leaves) (at : Name) (leaf : Option LeafKind) : Type 0 where
  Old : leaf ≡ get leaves at → IsListLeaf leaves at leaf
  Gone : leaf ≡ None → IsListLeaf leaves at leaf
  Written : is_some (file_bytes leaf) ≡ true → IsListLeaf leaves at leaf

-- so it is at the places of the log and of the lists
pub record AreListLeaves (first leaves : Leaves) : Type 0 where
  pub log : IsListLeaf first log_place (get leaves log_place)
  pub old : (which : Which) → IsListLeaf first (place_of which) (get leaves (place_of which))

leaf_there : (first : Leaves) (at : Name) (one other : Option LeafKind) → other ≡ one → IsListLeaf first at one → IsListLeaf first at other
leaf_there first at one other same is = subst (IsListLeaf first at) (sym same) is

pub leaves_same : (first w m : Leaves) → AreSameLists w m → AreListLeaves first w → AreListLeaves first m
leaves_same first w m same are = record {
  log = leaf_there first log_place (get w log_place) (get m log_place) same.log are.log;
  old = λ which. leaf_there first (place_of which) (get w (place_of which)) (get m (place_of which)) (same.old which) (are.old which);
}

pub old_leaves : (first m : Leaves) → AreSameLists first m → AreListLeaves first m
old_leaves first m same = record { log = IsListLeaf.Old same.log; old = λ which. IsListLeaf.Old (same.old which) }

-- lists that stand alone have a file, or nothing
pub alone_leaves : (first leaves : Leaves) (lists : Lists) → AreAlone leaves lists → AreListLeaves first leaves
alone_leaves first leaves lists alone = record {
  log = by alone.tidy;
  old = λ which. IsListLeaf.Gone (alone.none_old which);
}
  where
    by : IsTidy leaves → IsListLeaf first log_place (get leaves log_place)
    by (inl none) = IsListLeaf.Gone none
    by (inr whole) = IsListLeaf.Written (ap is_some whole.1.file)
