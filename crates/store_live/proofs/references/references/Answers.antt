use Rattle.std.proofs.Common.{List, subst, ◌∙◌}
use Rattle.std.proofs.lemmas.List.{nil_from_length}
use Rattle.host_trait.proofs.Moments.{told_as}
use Rattle.host_trait.proofs.Readings.{read_handed, read_ok, read_starved, read_then, told_read}
use Rattle.host_trait.specs.World.{listed}
use Rattle.switch_names.specs.Names.{Name}
use Rattle.store_live.specs.Grown.{AreAll, AtSome, IsReferredAt}
use Rattle.store_live.proofs.GrownLemmas.{all_as, all_in, grown_from}
use Rattle.store_live.proofs.RootLemmas.{references_are}
use Rattle.store_live.proofs.references.references.Goals as goal

pub returns-clause-found : goal.returns-clause-found
returns-clause-found g c =
    let grown = told_read c.list.ensures.reads c.in_ok-add_all_referred.ensures.grown in
    let stored = c.args.stored.now in
    let path = c.args.path.now in
    told_as grown _ (λ w world grown is.
    let places = c.as_slice.ensures ∙ c.in_ok-places.ensures.paths.has w world in
    all_as c.in_ok-into_names.field-0 (AtSome (listed path w.leaves) (IsReferredAt w.leaves stored)) _ (references_are w.leaves stored path is)
    (all_in c.add_all_referred.new.found.keys c.in_ok-into_names.field-0 (AtSome (listed path w.leaves) (IsReferredAt w.leaves stored)) c.in_ok-into_names.ensures.names
    (subst (λ (l : List Name). AreAll c.add_all_referred.new.found.keys (AtSome l (IsReferredAt w.leaves stored))) places
    (grown_from c.new-found.result.keys c.add_all_referred.new.found.keys (AtSome c.as_slice.result.now (IsReferredAt w.leaves stored)) (nil_from_length c.new-found.result.keys c.new-found.ensures.len) grown))))

pub returns-clause-reads : goal.returns-clause-reads
returns-clause-reads g c = read_ok (read_then c.list.ensures.reads c.add_all_referred.ensures.reads) c.in_ok-into_names.field-0

pub returns-in_err-add_all_referred-clause-reads : goal.returns-in_err-add_all_referred-clause-reads
returns-in_err-add_all_referred-clause-reads g c = read_handed (read_then c.list.ensures.reads c.in_err-add_all_referred.ensures.reads) _ c.from_residual-in_err-add_all_referred.ensures.1

pub returns-in_err-into_names-clause-reads : goal.returns-in_err-into_names-clause-reads
returns-in_err-into_names-clause-reads g c = read_starved (read_then c.list.ensures.reads c.add_all_referred.ensures.reads) _ c.from_residual-in_err-into_names.ensures.1
