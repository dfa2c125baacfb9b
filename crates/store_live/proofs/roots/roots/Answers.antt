use Rattle.std.proofs.Common.{ℕ, Some, List, [], subst, ◌∙◌}
use Rattle.std.proofs.lemmas.List.{nil_from_length}
use Rattle.host_trait.proofs.Moments.{told_as}
use Rattle.host_trait.proofs.Readings.{nothing_read, no_device, read_handed, read_ok, read_then, told_read}
use Rattle.switch_names.specs.Names.{has}
use Rattle.store_live.specs.Grown.{AtSome, IsForeign, IsGrown, IsIn, IsLinkedAt}
use Rattle.store_live.proofs.GrownLemmas.{all_as, grown_from, grown_then}
use Rattle.store_live.proofs.RootLemmas.{IsFound, roots_are}
use Rattle.store_live.proofs.roots.roots.Goals as goal

pub returns-clause-roots : goal.returns-clause-roots
returns-clause-roots g c =
    let grown = told_read c.loaded.ensures.reads c.in_ok-add_linked.ensures.grown in
    let stored = c.args.stored.now in
    let skips = has c.args.skipped.now.keys in
    let start = c.new-roots.result.keys in
    let first = c.add_all_foreign.new.roots.keys in
    let second = c.add_in.new.set.keys in
    let third = c.add_linked.new.roots.keys in
    told_as grown _ (λ w world grown.
    let loaded = c.as_bytes.ensures.value ∙ c.as_str.ensures ∙ c.in_ok-loaded.ensures.loaded.has w world in
    let named = subst (λ (t : List ℕ). IsGrown first second (IsIn stored [] (Some t))) loaded c.in_ok-add_in.ensures in
    all_as third (IsFound skips w stored c.args.places.now (c.requires.stored.has w world) (c.requires.places.has w world)) _
    (roots_are skips w stored c.args.places.now (c.requires.stored.has w world) (c.requires.places.has w world))
    (grown_from start third _ (nil_from_length start c.new-roots.ensures.len)
    (grown_then start second third _ (AtSome c.args.places.now (IsLinkedAt skips w.leaves stored)) (grown_then start first second (AtSome stored IsForeign) (IsIn stored [] (Some w.manager.loaded)) c.in_ok-add_all_foreign.ensures named) grown)))

pub returns-clause-reads : goal.returns-clause-reads
returns-clause-reads g c = read_ok (read_then c.loaded.ensures.reads c.add_linked.ensures.reads) c.add_linked.new.roots

pub returns-in_err-add_linked-clause-reads : goal.returns-in_err-add_linked-clause-reads
returns-in_err-add_linked-clause-reads g c = read_handed (read_then c.loaded.ensures.reads c.in_err-add_linked.ensures.reads) _ c.from_residual-in_err-add_linked.ensures.1

pub returns-in_err-add_all_foreign-clause-reads : goal.returns-in_err-add_all_foreign-clause-reads
returns-in_err-add_all_foreign-clause-reads g c = nothing_read _ (no_device _ c.from_residual.ensures.1)
