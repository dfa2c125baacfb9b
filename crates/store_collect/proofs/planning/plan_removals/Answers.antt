use Rattle.std.proofs.Common.{List, ap, subst, ◌∙◌}
use Rattle.host_trait.proofs.Moments.{told_as}
use Rattle.host_trait.proofs.Readings.{nothing_read, no_device, read_handed, read_ok, read_then, told_read}
use Rattle.switch_names.specs.Names.{IsListOf, Name, has}
use Rattle.store_live.specs.Live.{IsDead}
use Rattle.store_collect.specs.Collection.{leaves_of, passed_over}
use Rattle.store_collect.proofs.planning.plan_removals.Goals as goal

pub returns-in_err-links-clause-reads : goal.returns-in_err-links-clause-reads
returns-in_err-links-clause-reads g c = nothing_read _ (no_device _ c.from_residual.ensures.1)

pub returns-in_err-skipped-clause-reads : goal.returns-in_err-skipped-clause-reads
returns-in_err-skipped-clause-reads g c = nothing_read _ (no_device _ c.from_residual-in_err-skipped.ensures.1)

pub returns-in_err-leaves-clause-reads : goal.returns-in_err-leaves-clause-reads
returns-in_err-leaves-clause-reads g c = read_handed (read_then c.dead_paths.ensures.reads c.in_err-leaves.ensures.reads) _ c.from_residual-in_err-leaves.ensures.1

pub returns-clause-reads : goal.returns-clause-reads
returns-clause-reads g c = read_ok (read_then c.dead_paths.ensures.reads c.dropped_leaves.ensures.reads) _

pub returns-clause-planned : goal.returns-clause-planned
returns-clause-planned g c =
    let leaves = told_read c.dead_paths.ensures.reads c.in_ok-leaves.ensures.leaves in
    told_as c.in_ok-names.ensures.dead _ (λ w world names texts. record {
      links = c.in_ok-links.ensures;
      texts = texts;
      names = subst (λ (l : List Name). IsListOf c.in_ok-names.names (IsDead (has l) w))
          (c.as_slice-2.ensures ∙ c.in_ok-skipped.ensures ∙ ap (λ (l : List Name). passed_over l c.args.texts) c.as_slice.ensures) names;
      leaves = leaves.has w world ∙ ap (λ (l : List Name). leaves_of l w.leaves) c.as_slice-3.ensures;
    })
