use Rattle.std.proofs.Common.{◌≡◌, ◌<◌, length, refl, sym, ap, subst, ◌∙◌}
use Rattle.host_trait.specs.Change.{Change, IsMoment, finished}
use Rattle.host_trait.specs.Leaf.{open_file}
use Rattle.host_trait.specs.World.{IsFileAt, seen, with_leaf}
use Rattle.host_trait.proofs.Moments.{leads_as, passes_as, started, told_as}
use Rattle.tree_put.specs.Put.{CanPut, IsOldOrNew}
use Rattle.tree_put.proofs.WrittenLemmas.{writes_none}
use Rattle.owed_log.specs.declared.log_write.LogWrite.{LogWrite}
use Rattle.owed_log.specs.Places.{is_owed_place, log_place}
use Rattle.owed_log.specs.Writing.{CanWrite, IsFilled, IsWriting, with_write}
use Rattle.owed_log.proofs.recording.write_log.Goals as goal

pub append_text-requires-clause-file : goal.append_text-requires-clause-file
append_text-requires-clause-file g c = told_as c.requires.can (λ w. IsFileAt w.leaves log_place) (λ w world here. subst (λ (x : LogWrite). CanWrite x w) c.in-Append.is here)

pub append_text-requires-clause-some : goal.append_text-requires-clause-some
append_text-requires-clause-some g c = subst (λ t. 0 < length t) (sym c.as_slice.ensures) (subst IsFilled c.in-Append.is c.requires.filled)

pub put_text-requires : goal.put_text-requires
put_text-requires g c = told_as c.requires.can (CanPut log_place) (λ w world here. subst (λ (x : LogWrite). CanWrite x w) c.in-Put.is here)

pub returns-in-Nothing-clause-ok : goal.returns-in-Nothing-clause-ok
returns-in-Nothing-clause-ok g c = record { to = λ w is. (w, is, ap (λ (x : LogWrite). seen (with_write x w)) (sym c.in-Nothing.is)) }

pub returns-in-Nothing-clause-moments : goal.returns-in-Nothing-clause-moments
returns-in-Nothing-clause-moments g c = started (IsWriting c.args.write.now) (λ w is. subst (λ (x : LogWrite). IsWriting x w w) (sym c.in-Nothing.is) refl)

pub returns-in_err-append_text-in-Append-clause-moments : goal.returns-in_err-append_text-in-Append-clause-moments
returns-in_err-append_text-in-Append-clause-moments g c =
    passes_as c.append_text.ensures.moments (IsWriting c.args.write.now)
    (λ w m is moment. subst (λ (x : LogWrite). IsWriting x w m) (sym c.in-Append.is) (subst (λ t. IsMoment (Change.Append log_place t) w m) c.as_slice.ensures moment))

pub returns-in_ok-append_text-in-Append-clause-moments : goal.returns-in_ok-append_text-in-Append-clause-moments
returns-in_ok-append_text-in-Append-clause-moments g c =
    passes_as c.append_text.ensures.moments (IsWriting c.args.write.now)
    (λ w m is moment. subst (λ (x : LogWrite). IsWriting x w m) (sym c.in-Append.is) (subst (λ t. IsMoment (Change.Append log_place t) w m) c.as_slice.ensures moment))

pub returns-in_ok-append_text-in-Append-clause-ok : goal.returns-in_ok-append_text-in-Append-clause-ok
returns-in_ok-append_text-in-Append-clause-ok g c =
    leads_as c.in_ok-append_text-in-Append.ensures.ok (λ w v. seen v ≡ seen (with_write c.args.write.now w))
    (λ w v is new. ap seen (new ∙ ap (λ t. finished (Change.Append log_place t) w) c.as_slice.ensures ∙ ap (λ (x : LogWrite). with_write x w) (sym c.in-Append.is)))

pub returns-in_err-put_text-in-Put-clause-moments : goal.returns-in_err-put_text-in-Put-clause-moments
returns-in_err-put_text-in-Put-clause-moments g c =
    passes_as c.put_text.ensures.moments (IsWriting c.args.write.now)
    (λ w m is moment. subst (λ (x : LogWrite). IsWriting x w m) (sym c.in-Put.is) (subst (λ t. IsOldOrNew log_place (open_file t) w m) c.as_slice-in-Put.ensures moment))

pub returns-in_ok-put_text-in-Put-clause-moments : goal.returns-in_ok-put_text-in-Put-clause-moments
returns-in_ok-put_text-in-Put-clause-moments g c =
    passes_as c.put_text.ensures.moments (IsWriting c.args.write.now)
    (λ w m is moment. subst (λ (x : LogWrite). IsWriting x w m) (sym c.in-Put.is) (subst (λ t. IsOldOrNew log_place (open_file t) w m) c.as_slice-in-Put.ensures moment))

pub returns-in_ok-put_text-in-Put-clause-ok : goal.returns-in_ok-put_text-in-Put-clause-ok
returns-in_ok-put_text-in-Put-clause-ok g c =
    leads_as c.in_ok-put_text-in-Put.ensures.ok (λ w v. seen v ≡ seen (with_write c.args.write.now w))
    (λ w v is new. new ∙ ap (λ t. seen (with_leaf log_place (open_file t) w)) c.as_slice-in-Put.ensures ∙ ap (λ (x : LogWrite). seen (with_write x w)) (sym c.in-Put.is))

pub returns-in-Nothing-clause-written : goal.returns-in-Nothing-clause-written
returns-in-Nothing-clause-written g c = record { to = λ w is. (w, is, writes_none is_owed_place w w refl) }
