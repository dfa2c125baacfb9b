use Rattle.std.proofs.Common.{◌≡◌, List, refl, inl, ap, subst, ◌∙◌}
use Rattle.host_trait.specs.World.{WorldState, seen}
use Rattle.host_trait.proofs.Moments.{goes_on, leads_then, passes_as, started}
use Rattle.tree_put.specs.Sequence.{IsRemoving, without_places}
use Rattle.tree_put.proofs.SequenceLemmas.{seen_without_places}
use Rattle.switch_names.specs.Names.{Name}
use Rattle.owed_log.specs.declared.log_write.LogWrite.{LogWrite}
use Rattle.owed_log.specs.declared.log_write.LogWrite.TheVariants.{Append, Nothing, Put}
use Rattle.tree_put.specs.Written.{WritesOnly}
use Rattle.owed_log.specs.Places.{is_owed_place, old_places}
use Rattle.owed_log.proofs.WrittenLemmas.{then_old_written}
use Rattle.owed_log.specs.Writing.{IsRecordMoment, IsWriting, recorded, with_write}
use Rattle.owed_log.proofs.recording.record.Goals as goal

-- before the log's write nothing has changed
begun : (write : LogWrite) (w : WorldState) → IsWriting write w w
begun Nothing w = refl
begun (Append text) w = inl refl
begun (Put text) w = inl refl

pub returns-in_err-places-clause-moments : goal.returns-in_err-places-clause-moments
returns-in_err-places-clause-moments g c = started (IsRecordMoment c.args.write.now) (λ w is. IsRecordMoment.Writing (begun c.args.write.now w))

pub returns-in_err-write_log-clause-moments : goal.returns-in_err-write_log-clause-moments
returns-in_err-write_log-clause-moments g c = passes_as c.write_log.ensures.moments (IsRecordMoment c.args.write.now) (λ w m is cut. IsRecordMoment.Writing cut)

-- a removal after the write
then_removed : (write : LogWrite) (places : List Name) (w v m : WorldState) → places ≡ old_places → seen v ≡ seen (with_write write w) → IsRemoving places v m → IsRecordMoment write w m
then_removed write places w v m same came removing = IsRecordMoment.Removing v came (subst (λ (l : List Name). IsRemoving l v m) same removing)

pub returns-in_err-drop_all-clause-moments : goal.returns-in_err-drop_all-clause-moments
returns-in_err-drop_all-clause-moments g c =
    goes_on c.write_log.ensures.moments c.in_ok-write_log.ensures.ok c.drop_all.ensures.moments (IsRecordMoment c.args.write.now) (λ w m is cut. IsRecordMoment.Writing cut)
    (λ w v m is is_v came removing. then_removed c.args.write.now c.as_slice.result.now w v m (c.as_slice.ensures ∙ c.in_ok-places.ensures) came removing)

pub returns-clause-moments : goal.returns-clause-moments
returns-clause-moments g c =
    goes_on c.write_log.ensures.moments c.in_ok-write_log.ensures.ok c.drop_all.ensures.moments (IsRecordMoment c.args.write.now) (λ w m is cut. IsRecordMoment.Writing cut)
    (λ w v m is is_v came removing. then_removed c.args.write.now c.as_slice.result.now w v m (c.as_slice.ensures ∙ c.in_ok-places.ensures) came removing)

pub returns-clause-ok : goal.returns-clause-ok
returns-clause-ok g c =
    leads_then c.in_ok-write_log.ensures.ok c.in_ok-drop_all.ensures.ok (λ w v. seen v ≡ seen (recorded c.args.write.now w))
    (λ w v u is is_v came gone.
    ap seen (gone ∙ ap (λ (l : List Name). without_places l v) (c.as_slice.ensures ∙ c.in_ok-places.ensures)) ∙ seen_without_places old_places v (with_write c.args.write.now w) came)

pub returns-clause-written : goal.returns-clause-written
returns-clause-written g c =
    leads_then c.in_ok-write_log.ensures.written c.in_ok-drop_all.ensures.ok (WritesOnly is_owed_place)
    (λ w v u is is_v before gone. then_old_written c.as_slice.result.now w v u (c.as_slice.ensures ∙ c.in_ok-places.ensures) before gone)
