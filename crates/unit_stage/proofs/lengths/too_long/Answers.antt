use Rattle.std.proofs.Common.{List, ap, subst, sym, ◌∙◌}
use Rattle.host_trait.proofs.Readings.{read_handed, read_ok, read_then, told_read}
use Rattle.leaf_limits.specs.Limits.{AreTaken}
use Rattle.switch_names.specs.Names.{Name}
use Rattle.switch_parts.specs.declared.refusal.What.TheVariants.{LeafBytes}
use Rattle.switch_parts.specs.Limits.{too_many}
use Rattle.unit_stage.specs.System.{takes_switched}
use Rattle.unit_stage.proofs.lengths.too_long.Goals as goal

pub returns-in_err-past-clause-reads : goal.returns-in_err-past-clause-reads
returns-in_err-past-clause-reads g c = read_handed (read_then c.taken.ensures.reads c.in_err-past.ensures.reads) _ c.from_residual-in_err-past.ensures.1

pub returns-clause-refusal : goal.returns-clause-refusal
returns-clause-refusal g c = record {
  has = λ w is.
      let takes = takes_switched w.leaves c.args.system.now in
      c.too_many.ensures
      ∙ ap (too_many LeafBytes)
      ((told_read c.taken.ensures.reads (c.in_ok-past.ensures.past takes)).has w is
      (subst (λ (places : List Name). AreTaken places takes w.leaves) (sym c.as_slice.ensures) (c.in_ok-places.ensures.taken.has w is)));
}

pub returns-clause-reads : goal.returns-clause-reads
returns-clause-reads g c = read_ok (read_then c.taken.ensures.reads c.long_past.ensures.reads) _
