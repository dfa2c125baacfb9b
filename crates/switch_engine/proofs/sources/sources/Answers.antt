use Rattle.std.proofs.Common.{◌++◌, ◌∷◌, [], List, ap, ◌∙◌}
use Rattle.host_trait.proofs.Moments.{told_as}
use Rattle.host_trait.proofs.Readings.{no_device, nothing_read, read_handed, read_ok, read_starved, read_then, told_read}
use Rattle.leaf_limits.specs.Limits.{AreTaken}
use Rattle.switch_engine.specs.Lengths.{takes_by}
use Rattle.switch_engine.specs.Rows.{gens_to}
use Rattle.switch_engine.proofs.SourceLemmas.{all_taken}
use Rattle.switch_names.specs.Names.{Name}
use Rattle.switch_engine.proofs.sources.sources.Goals as goal

pub returns-in_err-version_path-clause-reads : goal.returns-in_err-version_path-clause-reads
returns-in_err-version_path-clause-reads g c = nothing_read _ (no_device _ c.from_residual.ensures.1)

pub returns-in_err-push-clause-reads : goal.returns-in_err-push-clause-reads
returns-in_err-push-clause-reads g c = nothing_read _ (no_device _ c.from_residual-in_err-push.ensures.1)

pub returns-in_err-moved-clause-reads : goal.returns-in_err-moved-clause-reads
returns-in_err-moved-clause-reads g c = read_handed (read_then c.switch_sources.ensures.reads c.in_err-moved.ensures.reads) _ c.from_residual-in_err-moved.ensures.1

pub returns-in_err-add_paths-clause-reads : goal.returns-in_err-add_paths-clause-reads
returns-in_err-add_paths-clause-reads g c = read_starved (read_then c.switch_sources.ensures.reads c.move_sources.ensures.reads) _ c.from_residual-in_err-add_paths.ensures.1

pub returns-in_err-add_paths-2-clause-reads : goal.returns-in_err-add_paths-2-clause-reads
returns-in_err-add_paths-2-clause-reads g c = read_starved (read_then c.switch_sources.ensures.reads c.move_sources.ensures.reads) _ c.from_residual-in_err-add_paths-2.ensures.1

pub returns-clause-taken : goal.returns-clause-taken
returns-clause-taken g c =
    let its = c.args.row.now in
    let moved = told_read c.switch_sources.ensures.reads c.in_ok-moved.ensures.taken in
    told_as c.in_ok-others.ensures.taken (λ w. AreTaken c.add_paths-2.new.places (takes_by its.switches its.moves its.system (gens_to its.moves its.system w.leaves) w.leaves) w.leaves)
    (λ w is switched.
    all_taken its.switches its.moves its.system (gens_to its.moves its.system w.leaves) w.leaves c.in_ok-others.others c.in_ok-moved.moved c.add_paths-2.new.places
    (c.in_ok-add_paths-2.ensures
    ∙ (λ i. (c.in_ok-push.ensures.ok ∙ (λ j. c.new-places.ensures j ++ c.in_ok-version_path.ensures j ∷ [])) i
    ++ (c.as_slice-2.ensures ∙ c.in_ok-add_paths.ensures ∙ ap (λ (ps : List Name). c.in_ok-others.others ++ ps) c.as_slice.ensures) i))
    switched (moved.has w is))

pub returns-clause-reads : goal.returns-clause-reads
returns-clause-reads g c = read_ok (read_then c.switch_sources.ensures.reads c.move_sources.ensures.reads) _
