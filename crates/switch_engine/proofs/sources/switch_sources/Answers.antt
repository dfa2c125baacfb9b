use Rattle.std.proofs.Common.{◌++◌, List, ap, ◌∙◌}
use Rattle.host_trait.proofs.Moments.{told_as}
use Rattle.host_trait.proofs.Readings.{no_device, nothing_read, nothing_read_ok, read_handed, read_ok, read_starved, read_then, told_read}
use Rattle.leaf_limits.specs.Limits.{AreTaken}
use Rattle.switch_engine.specs.Lengths.{takes_switch}
use Rattle.switch_engine.proofs.SourceLemmas.{switch_taken}
use Rattle.switch_names.specs.Names.{Name}
use Rattle.switch_engine.proofs.sources.switch_sources.Goals as goal

pub returns-then-not-row-clause-reads : goal.returns-then-not-row-clause-reads
returns-then-not-row-clause-reads g c = nothing_read_ok c.new.result

pub returns-in_err-places-clause-reads : goal.returns-in_err-places-clause-reads
returns-in_err-places-clause-reads g c = nothing_read _ (no_device _ c.from_residual.ensures.1)

pub returns-in_err-entries-clause-reads : goal.returns-in_err-entries-clause-reads
returns-in_err-entries-clause-reads g c = read_handed (read_then c.taken.ensures.reads c.in_err-entries.ensures.reads) _ c.from_residual-in_err-entries.ensures.1

pub returns-in_err-add_paths-clause-reads : goal.returns-in_err-add_paths-clause-reads
returns-in_err-add_paths-clause-reads g c = read_starved (read_then c.taken.ensures.reads c.taken-3.ensures.reads) _ c.from_residual-in_err-add_paths.ensures.1

pub returns-in_err-add_paths-2-clause-reads : goal.returns-in_err-add_paths-2-clause-reads
returns-in_err-add_paths-2-clause-reads g c = read_starved (read_then c.taken.ensures.reads c.taken-3.ensures.reads) _ c.from_residual-in_err-add_paths-2.ensures.1

pub returns-in_err-add_paths-3-clause-reads : goal.returns-in_err-add_paths-3-clause-reads
returns-in_err-add_paths-3-clause-reads g c = read_starved (read_then c.taken.ensures.reads c.taken-3.ensures.reads) _ c.from_residual-in_err-add_paths-3.ensures.1

pub returns-clause-taken : goal.returns-clause-taken
returns-clause-taken g c =
    let its = c.args.row.now in
    let etc = told_read c.taken.ensures.reads c.in_ok-entries.ensures.taken in
    told_as c.in_ok-units.ensures.taken (λ w. AreTaken c.add_paths-3.new.places (takes_switch its.switches its.system w.leaves) w.leaves)
    (λ w is units.
    switch_taken its.switches its.system w.leaves c.in_ok-places.places c.in_ok-units.units c.in_ok-others.others c.in_ok-entries.entries c.add_paths-3.new.places c.if-not-row.false c.in_ok-places.ensures
    (c.in_ok-add_paths-3.ensures
    ∙ ap (λ (ps : List Name). c.in_ok-places.places ++ ps)
    (c.as_slice-3.ensures ∙ c.in_ok-add_paths-2.ensures
    ∙ ap (λ (ps : List Name). c.in_ok-units.units ++ ps) (c.as_slice-2.ensures ∙ c.in_ok-add_paths.ensures ∙ ap (λ (ps : List Name). c.in_ok-others.others ++ ps) c.as_slice.ensures)))
    units (c.in_ok-others.ensures.taken w.leaves) (etc.has w is))

pub returns-clause-reads : goal.returns-clause-reads
returns-clause-reads g c = read_ok (read_then c.taken.ensures.reads c.taken-3.ensures.reads) _
