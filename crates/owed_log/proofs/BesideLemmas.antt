-- What is left alone where lists are recorded, and where one is cleared.
use Rattle.std.proofs.Common.{◌≡◌, ◌≢◌, rules, ℕ, false, cond, List, [], ◌∷◌, length, take, Option, None, Some, refl, ap, ◌∙◌, inl, inr}
use Rattle.std.specs.FinMap.{get, gets, remove}
use Rattle.std.specs.List.{list_any}
use Rattle.host_trait.specs.Change.{Change, IsMiddle, IsMoment, finished}
use Rattle.host_trait.specs.Leaf.{open_file}
use Rattle.host_trait.specs.declared.leaf.LeafKind.{LeafKind}
use Rattle.host_trait.specs.World.{Leaves, WorldState, seen, extended, stage, with_extended, with_leaf, with_more, without_leaf}
use Rattle.host_trait.proofs.Seen.{other_of, seen_at, seen_with_leaf}
use Rattle.host_trait.proofs.Sound.{get_other}
use Rattle.log_text.specs.declared.lists.Which.{Which}
use Rattle.log_text.specs.declared.lists.Which.TheVariants.{Starts}
use Rattle.log_text.specs.Lists.{block_of, record_order}
use Rattle.log_text.specs.Log.{block_text}
use Rattle.switch_names.specs.Names.{Name, is_name}
use Rattle.tree_put.specs.Sequence.{without_places}
use Rattle.tree_put.proofs.LeftLemmas.{gone_at}
use Rattle.tree_put.proofs.SequenceLemmas.{seen_without_leaf}
use Rattle.owed_log.specs.declared.log_write.LogWrite.{LogWrite}
use Rattle.owed_log.specs.declared.log_write.LogWrite.TheVariants.{Nothing, Append, Put}
use Rattle.owed_log.specs.Places.{log_place, old_places}
use Rattle.owed_log.specs.Writing.{IsRecordMoment, IsWriting, clearing, recorded, with_write}
use Rattle.owed_log.proofs.ContentLemmas.{log_other, more_elsewhere}

at_of : (m w : WorldState) (q : Name) → m ≡ w → get m.leaves q ≡ get w.leaves q
at_of m w q same = ap (λ (x : WorldState). get x.leaves q) same

-- ---- other places

-- bytes are appended to the log
append_beside : (text : List ℕ) (w m : WorldState) (q : Name) → q ≢ log_place → IsMoment (Change.Append log_place text) w m → get m.leaves q ≡ get w.leaves q
append_beside text w m q other (inl is) = at_of m w q is
append_beside text w m q other (inr (inl is)) = ap (λ (x : WorldState). get x.leaves q) is ∙ more_elsewhere w.leaves log_place text q other
append_beside text w m q other (inr (inr middle)) = ap (λ (x : WorldState). get x.leaves q) middle.1 ∙ more_elsewhere w.leaves log_place (take middle.0 text) q other

module _ (q : Name) (ne : q ≢ stage) (other : q ≢ log_place) where
  pub writing_beside : (write : LogWrite) (w m : WorldState) → IsWriting write w m → get m.leaves q ≡ get w.leaves q
  writing_beside Nothing w m is = at_of m w q is
  writing_beside (Append text) w m cut = append_beside text w m q other cut
  writing_beside (Put text) w m (inl is) = seen_at m w is q ne
  writing_beside (Put text) w m (inr is) = seen_at m (with_leaf log_place (open_file text) w) is q ne ∙ get_other w.leaves log_place q (open_file text) (other_of q log_place other)

  pub write_beside : (write : LogWrite) (w : WorldState) → get (with_write write w).leaves q ≡ get w.leaves q
  write_beside Nothing w = refl
  write_beside (Append text) w = more_elsewhere w.leaves log_place text q other
  write_beside (Put text) w = get_other w.leaves log_place q (open_file text) (other_of q log_place other)

-- what isn't at the place of an older program's list
module _ (q : Name) (ne : q ≢ stage) (other : q ≢ log_place) (apart : (count : ℕ) → list_any (is_name q) (take count old_places) ≡ false) where
  removed_beside : (count : ℕ) (u : WorldState) → get (without_places (take count old_places) u).leaves q ≡ get u.leaves q
  removed_beside count u = gone_at (take count old_places) u q ∙ ap (λ b. cond b None (get u.leaves q)) (apart count)

  pub record_beside : (write : LogWrite) (w m : WorldState) → IsRecordMoment write w m → get m.leaves q ≡ get w.leaves q
  record_beside write w m (IsRecordMoment.Writing cut) = writing_beside q ne other write w m cut
  record_beside write w m (IsRecordMoment.Removing u came removing) =
      ap (λ (x : WorldState). get x.leaves q) removing.world ∙ removed_beside removing.count u ∙ seen_at u (with_write write w) came q ne ∙ write_beside q ne other write w

  pub recorded_beside : (write : LogWrite) (w : WorldState) → get (recorded write w).leaves q ≡ get w.leaves q
  recorded_beside write w = removed_beside (length record_order) (with_write write w) ∙ write_beside q ne other write w

pub removed_elsewhere : (leaves : Leaves) (k q : Name) → q ≢ k → get (remove leaves k) q ≡ get leaves q
removed_elsewhere leaves k q other = let no = other_of q k other in grind (gets, rules)

pub clearing_beside : (which : Which) (w m : WorldState) (q : Name) → q ≢ log_place → IsMoment (clearing which) w m → get m.leaves q ≡ get w.leaves q
clearing_beside Starts w m q other (inl is) = at_of m w q is
clearing_beside Starts w m q other (inr (inl is)) = ap (λ (x : WorldState). get x.leaves q) is ∙ removed_elsewhere w.leaves log_place q other
clearing_beside Starts w m q other (inr (inr middle)) = absurd middle
clearing_beside which w m q other cut = append_beside (block_text (block_of which [])) w m q other cut

-- ---- the manager

append_manager : (text : List ℕ) (w m : WorldState) → IsMoment (Change.Append log_place text) w m → m.manager ≡ w.manager
append_manager text w m (inl is) = ap (λ (x : WorldState). x.manager) is
append_manager text w m (inr (inl is)) = ap (λ (x : WorldState). x.manager) is
append_manager text w m (inr (inr middle)) = ap (λ (x : WorldState). x.manager) middle.1

writing_manager : (write : LogWrite) (w m : WorldState) → IsWriting write w m → m.manager ≡ w.manager
writing_manager Nothing w m is = ap (λ (x : WorldState). x.manager) is
writing_manager (Append text) w m cut = append_manager text w m cut
writing_manager (Put text) w m (inl is) = ap (λ (x : WorldState). x.manager) is
writing_manager (Put text) w m (inr is) = ap (λ (x : WorldState). x.manager) is

write_manager : (write : LogWrite) (w : WorldState) → (with_write write w).manager ≡ w.manager
write_manager Nothing w = refl
write_manager (Append text) w = refl
write_manager (Put text) w = refl

gone_manager : (places : List Name) (w : WorldState) → (without_places places w).manager ≡ w.manager
gone_manager [] w = refl
gone_manager (at ∷ places) w = gone_manager places (without_leaf at w)

pub record_manager : (write : LogWrite) (w m : WorldState) → IsRecordMoment write w m → m.manager ≡ w.manager
record_manager write w m (IsRecordMoment.Writing cut) = writing_manager write w m cut
record_manager write w m (IsRecordMoment.Removing u came removing) =
    ap (λ (x : WorldState). x.manager) removing.world ∙ gone_manager (take removing.count old_places) u ∙ ap (λ (x : WorldState). x.manager) came ∙ write_manager write w

pub recorded_manager : (write : LogWrite) (w : WorldState) → (recorded write w).manager ≡ w.manager
recorded_manager write w = gone_manager old_places (with_write write w) ∙ write_manager write w

pub clearing_manager : (which : Which) (w m : WorldState) → IsMoment (clearing which) w m → m.manager ≡ w.manager
clearing_manager Starts w m (inl is) = ap (λ (x : WorldState). x.manager) is
clearing_manager Starts w m (inr (inl is)) = ap (λ (x : WorldState). x.manager) is
clearing_manager Starts w m (inr (inr middle)) = absurd middle
clearing_manager which w m cut = append_manager (block_text (block_of which [])) w m cut

-- ---- worlds that are equal but for the stage

module _ (v w : WorldState) (same : seen v ≡ seen w) where
  -- stay so where bytes are appended
  longer_seen : (more : List ℕ) (one other : Option LeafKind) → one ≡ other →
      seen (record v { leaves = with_extended v.leaves log_place more one }) ≡ seen (record w { leaves = with_extended w.leaves log_place more other })
  longer_seen more None None is = same
  longer_seen more None (Some other) is = absurd cc
  longer_seen more (Some one) None is = absurd cc
  longer_seen more (Some one) (Some other) is =
      let leaf : one ≡ other = cc in ap (λ (l : LeafKind). seen (with_leaf log_place (extended l more) v)) leaf ∙ seen_with_leaf log_place (extended other more) v w same

  pub more_seen : (more : List ℕ) → seen (record v { leaves = with_more v.leaves log_place more }) ≡ seen (record w { leaves = with_more w.leaves log_place more })
  more_seen more = longer_seen more (get v.leaves log_place) (get w.leaves log_place) (seen_at v w same log_place log_other)

  -- and where a list is cleared
  pub cleared_seen : (which : Which) → seen (finished (clearing which) v) ≡ seen (finished (clearing which) w)
  cleared_seen Starts = seen_without_leaf log_place v w same
  cleared_seen which = more_seen (block_text (block_of which []))

  part_seen : (text : List ℕ) (m : WorldState) → IsMiddle (Change.Append log_place text) v m → (u : WorldState) × IsMoment (Change.Append log_place text) w u × (seen m ≡ seen u)
  part_seen text m middle =
      let part = take middle.0 text in
      (record w { leaves = with_more w.leaves log_place part }, inr (inr (middle.0, refl)), ap seen middle.1 ∙ more_seen part)

  pub clearing_seen : (which : Which) (m : WorldState) → IsMoment (clearing which) v m → (u : WorldState) × IsMoment (clearing which) w u × (seen m ≡ seen u)
  clearing_seen which m (inl is) = (w, inl refl, ap seen is ∙ same)
  clearing_seen which m (inr (inl is)) = (finished (clearing which) w, inr (inl refl), ap seen is ∙ cleared_seen which)
  clearing_seen Starts m (inr (inr middle)) = absurd middle
  clearing_seen which m (inr (inr middle)) = part_seen (block_text (block_of which [])) m middle
