use Rattle.std.proofs.Common.{◌++◌, ◌∷◌, [], List, ap, subst, ◌∙◌}
use Rattle.std.proofs.lemmas.List.{append_assoc}
use Rattle.host_trait.proofs.Moments.{told_as}
use Rattle.host_trait.proofs.Readings.{no_device, nothing_read, read_handed, read_ok, read_starved, read_then, told_read}
use Rattle.leaf_limits.specs.Limits.{IsFirstOf}
use Rattle.switch_names.specs.Names.{Name}
use Rattle.boot_entries.specs.Entries.{version_path}
use Rattle.boot_entries.proofs.planning.read_entry.Goals as goal

pub returns-in_err-version_at-clause-reads : goal.returns-in_err-version_at-clause-reads
returns-in_err-version_at-clause-reads g c = nothing_read _ (no_device _ c.from_residual.ensures.1)

pub returns-in_err-params_at-clause-reads : goal.returns-in_err-params_at-clause-reads
returns-in_err-params_at-clause-reads g c = nothing_read _ (no_device _ c.from_residual-in_err-params_at.ensures.1)

pub returns-in_err-params-clause-reads : goal.returns-in_err-params-clause-reads
returns-in_err-params-clause-reads g c = read_handed (read_then c.read_line.ensures.reads c.in_err-params.ensures.reads) _ c.from_residual-in_err-params.ensures.1

pub returns-in_err-entry-clause-reads : goal.returns-in_err-entry-clause-reads
returns-in_err-entry-clause-reads g c = read_starved (read_then c.read_line.ensures.reads c.read_line-2.ensures.reads) _ c.from_residual-in_err-entry.ensures.1

pub returns-clause-reads : goal.returns-clause-reads
returns-clause-reads g c = read_ok (read_then c.read_line.ensures.reads c.read_line-2.ensures.reads) c.in_ok-entry.entry

pub returns-clause-noted : goal.returns-clause-noted
returns-clause-noted g c done =
    let version = c.in_ok-version_at.version_at in
    let params = c.in_ok-params_at.params_at in
    let last = told_read c.read_line.ensures.reads (c.in_ok-params.ensures.noted (done ++ version ∷ [])) in
    told_as (c.in_ok-version.ensures.noted done) _ (λ w is first before.
    subst (λ (places : List Name). IsFirstOf places w.leaves c.read_line-2.new.long)
    (append_assoc done (version ∷ []) (params ∷ []) ∙ ap (λ (path : Name). done ++ path ∷ params ∷ []) c.in_ok-version_at.ensures ∙ ap (λ (path : Name). done ++ version_path c.args.system.now ∷ path ∷ []) c.in_ok-params_at.ensures)
    (last.has w is (first before)))
