-- The lists, and what stands at their places, where what is owed is recorded and where a list is cleared.
use Rattle.std.proofs.Common.{◌≡◌, ◌≢◌, ◌⊎◌, true, false, cond, ℕ, List, [], take, Option, None, Some, is_some, refl, sym, ap, subst, ◌∙◌, Bool, inl, inr}
use Rattle.std.proofs.lemmas.Bool.{both_ways}
use Rattle.std.specs.FinMap.{get}
use Rattle.std.specs.List.{list_any}
use Rattle.host_trait.specs.Change.{IsMoment, finished}
use Rattle.host_trait.specs.Leaf.{open_file}
use Rattle.host_trait.specs.World.{IsFileAt, Leaves, WorldState, file_bytes, stage, with_leaf, with_more}
use Rattle.host_trait.proofs.Places.{at_same}
use Rattle.host_trait.proofs.Seen.{seen_at}
use Rattle.log_text.specs.declared.lists.Lists.{Lists}
use Rattle.log_text.specs.declared.lists.Which.{Which}
use Rattle.log_text.specs.declared.lists.Which.TheVariants.{Starts}
use Rattle.log_text.specs.Lists.{block_of, with_list}
use Rattle.log_text.specs.Log.{block_text}
use Rattle.owed_lists.specs.Lists.{place_of}
use Rattle.owed_log.specs.declared.log_write.LogWrite.{LogWrite}
use Rattle.owed_log.specs.declared.log_write.LogWrite.TheVariants.{Nothing, Append, Put}
use Rattle.owed_log.specs.Laws.{AreAlone, CanClear}
use Rattle.owed_log.specs.Places.{log_place, old_places}
use Rattle.owed_log.specs.Standing.{AreListsAt}
use Rattle.owed_log.specs.Writing.{IsPrepared, IsRecordMoment, IsWriting, clearing, with_write}
use Rattle.owed_log.proofs.ContentLemmas.{file_longer, log_other, more_elsewhere, old_not_log}
use Rattle.owed_log.proofs.ListLemmas.{some_lists}
use Rattle.owed_log.proofs.MomentLemmas.{clear_law_of, cleared_law, prepared_law}
use Rattle.switch_names.specs.Names.{Name, is_name}
use Rattle.tree_put.specs.Sequence.{without_places}
use Rattle.tree_put.proofs.LeftLemmas.{gone_at}
use Rattle.owed_lists.proofs.PlaceLemmas.{place_apart}
use Rattle.tree_put.proofs.PutLemmas.{apart_ne}
use Rattle.owed_log.proofs.BesideLemmas.{write_beside, writing_beside}
use Rattle.unit_stage.proofs.ListsLemmas.{AreListLeaves, IsListLeaf, alone_leaves}

-- ---- a file stays a file

pub more_file : (leaves : Leaves) (at more : List ℕ) → IsFileAt leaves at → IsFileAt (with_more leaves at more) at
more_file leaves at more is = by (file_bytes (get leaves at)) refl
  where
    by : (o : Option (List ℕ)) → file_bytes (get leaves at) ≡ o → IsFileAt (with_more leaves at more) at
    by None none = absurd (both_ways _ (ap is_some none) is)
    by (Some text) file = ap is_some (file_longer leaves at text more file)

-- ---- what stands at the places while it is recorded

module _ (first : Leaves) where
  -- a leaf that is removed, or stays
  gone_leaf : (at : Name) (count : ℕ) (u : WorldState) → IsListLeaf first at (get u.leaves at) → IsListLeaf first at (get (without_places (take count old_places) u).leaves at)
  gone_leaf at count u is = subst (IsListLeaf first at) (sym (gone_at (take count old_places) u at)) (either (list_any (is_name at) (take count old_places)))
    where
      either : (b : Bool) → IsListLeaf first at (cond b None (get u.leaves at))
      either true = IsListLeaf.Gone refl
      either false = is

pub list_other : (which : Which) → place_of which ≢ stage
list_other which = apart_ne (place_of which) stage (place_apart which)

module _ (lists : Lists) (w : WorldState) where
  writing_log : (write : LogWrite) → IsPrepared w.leaves lists write → (m : WorldState) → IsWriting write w m → IsListLeaf w.leaves log_place (get m.leaves log_place)
  writing_log Nothing is m cut = IsListLeaf.Old (ap (λ (x : WorldState). get x.leaves log_place) cut)
  writing_log (Append text) is m (inl cut) = IsListLeaf.Old (ap (λ (x : WorldState). get x.leaves log_place) cut)
  writing_log (Append text) is m (inr (inl done)) =
      IsListLeaf.Written (ap (λ (x : WorldState). is_some (file_bytes (get x.leaves log_place))) done ∙ more_file w.leaves log_place text (prepared_law w.leaves lists text is).0)
  writing_log (Append text) is m (inr (inr middle)) =
      IsListLeaf.Written
      (ap (λ (x : WorldState). is_some (file_bytes (get x.leaves log_place))) middle.1 ∙ more_file w.leaves log_place (take middle.0 text) (prepared_law w.leaves lists text is).0)
  writing_log (Put text) is m (inl cut) = IsListLeaf.Old (seen_at m w cut log_place log_other)
  writing_log (Put text) is m (inr new) =
      IsListLeaf.Written
      (ap (λ o. is_some (file_bytes o)) (seen_at m (with_leaf log_place (open_file text) w) new log_place log_other ∙ at_same w.leaves log_place (open_file text)))

  write_log : (write : LogWrite) → IsPrepared w.leaves lists write → IsListLeaf w.leaves log_place (get (with_write write w).leaves log_place)
  write_log Nothing is = IsListLeaf.Old refl
  write_log (Append text) is = IsListLeaf.Written (more_file w.leaves log_place text (prepared_law w.leaves lists text is).0)
  write_log (Put text) is = IsListLeaf.Written (ap (λ o. is_some (file_bytes o)) (at_same w.leaves log_place (open_file text)))

  pub record_leaves : (write : LogWrite) → IsPrepared w.leaves lists write → (m : WorldState) → IsRecordMoment write w m → AreListLeaves w.leaves m.leaves
  record_leaves write is m (IsRecordMoment.Writing cut) =
      record { log = writing_log write is m cut; old = λ which. IsListLeaf.Old (writing_beside (place_of which) (list_other which) (old_not_log which) write w m cut) }
  record_leaves write is m (IsRecordMoment.Removing u came removing) =
      let count = removing.count in
      subst (λ (x : WorldState). AreListLeaves w.leaves x.leaves) (sym removing.world)
      record {
        log = gone_leaf w.leaves log_place count u (subst (IsListLeaf w.leaves log_place) (sym (seen_at u (with_write write w) came log_place log_other)) (write_log write is));
        old = λ which. gone_leaf w.leaves (place_of which) count u
            (IsListLeaf.Old (seen_at u (with_write write w) came (place_of which) (list_other which) ∙ write_beside (place_of which) (list_other which) (old_not_log which) write w));
      }

-- ---- where a list is cleared

-- the lists are as they were, or one is empty
pub record IsClearing (which : Which) (lists : Lists) (first : Leaves) (u : WorldState) : Type 0 where
  pub now : Lists
  pub are : AreListsAt u.leaves now
  pub either : (now ≡ lists) ⊎ (now ≡ with_list lists which [])
  pub leaves : AreListLeaves first u.leaves

module _ (lists : Lists) (first : Leaves) (y u : WorldState) (alone : AreAlone y.leaves lists) where
  -- some of an empty block is appended
  module _ (which : Which) (file : IsFileAt y.leaves log_place) where
    abbrev empty : List ℕ
    empty = block_text (block_of which [])

    longer : (count : ℕ) → u ≡ record y { leaves = with_more y.leaves log_place (take count empty) } → AreListLeaves first u.leaves
    longer count is =
        let part = take count empty in
        subst (λ (x : WorldState). AreListLeaves first x.leaves) (sym is)
        record {
          log = IsListLeaf.Written (more_file y.leaves log_place part file);
          old = λ which. IsListLeaf.Gone (more_elsewhere y.leaves log_place part (place_of which) (old_not_log which) ∙ alone.none_old which);
        }

  clearing_leaves : (which : Which) → CanClear which y.leaves lists → IsMoment (clearing which) y u → AreListLeaves first u.leaves
  clearing_leaves which can (inl same) = subst (λ (x : WorldState). AreListLeaves first x.leaves) (sym same) (alone_leaves first y.leaves lists alone)
  clearing_leaves which can (inr (inl done)) =
      subst (λ (x : WorldState). AreListLeaves first x.leaves) (sym done) (alone_leaves first (finished (clearing which) y).leaves (with_list lists which []) (cleared_law which y lists alone can))
  clearing_leaves Starts can (inr (inr middle)) = absurd middle
  clearing_leaves which file (inr (inr middle)) = longer which file middle.0 middle.1

  pub clears : (which : Which) → CanClear which y.leaves lists → IsMoment (clearing which) y u → IsClearing which lists first u
  clears which can moment =
      let now = some_lists u.leaves in
      record { now = now.0; are = now.1; either = clear_law_of which y u lists now.0 alone can moment now.1; leaves = clearing_leaves which can moment }
