use Rattle.std.proofs.Common.{List, ap, subst, sym, ◌∙◌}
use Rattle.host_trait.proofs.Readings.{read_handed, read_ok, read_then, told_read}
use Rattle.leaf_limits.specs.Limits.{AreTaken}
use Rattle.switch_names.specs.Names.{Name}
use Rattle.switch_engine.specs.Lengths.{takes_by}
use Rattle.switch_engine.specs.Rows.{gens_to}
use Rattle.switch_parts.specs.declared.refusal.What.TheVariants.{LeafBytes}
use Rattle.switch_parts.specs.Limits.{too_many}
use Rattle.switch_engine.proofs.sources.too_long.Goals as goal

pub returns-in_err-past-clause-reads : goal.returns-in_err-past-clause-reads
returns-in_err-past-clause-reads g c = read_handed (read_then c.sources.ensures.reads c.in_err-past.ensures.reads) _ c.from_residual-in_err-past.ensures.1

pub returns-clause-refusal : goal.returns-clause-refusal
returns-clause-refusal g c = record {
  has = λ w is.
      let its = c.args.row.now in
      let takes = takes_by its.switches its.moves its.system (gens_to its.moves its.system w.leaves) w.leaves in
      c.too_many.ensures
      ∙ ap (too_many LeafBytes)
      ((told_read c.sources.ensures.reads (c.in_ok-past.ensures.past takes)).has w is
      (subst (λ (ps : List Name). AreTaken ps takes w.leaves) (sym c.as_slice.ensures) (c.in_ok-places.ensures.taken.has w is)));
}

pub returns-clause-reads : goal.returns-clause-reads
returns-clause-reads g c = read_ok (read_then c.sources.ensures.reads c.long_past.ensures.reads) _
