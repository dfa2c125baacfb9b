use Rattle.std.proofs.Common.{◌++◌, [], Option, ap, subst, sym, ◌∙◌}
use Rattle.std.specs.Option.{option_map_or}
use Rattle.host_trait.proofs.Moments.{told_as}
use Rattle.host_trait.proofs.Readings.{nothing_read_ok, read_handed, read_ok, read_starved}
use Rattle.leaf_limits.specs.Limits.{IsFirstOf}
use Rattle.switch_names.specs.Names.{Name}
use Rattle.boot_entries.specs.Sources.{files_of}
use Rattle.boot_entries.proofs.PlanLemmas.{one_entry}
use Rattle.boot_entries.proofs.planning.add_entry.Goals as goal

pub returns-in_default-clause-reads : goal.returns-in_default-clause-reads
returns-in_default-clause-reads g c = nothing_read_ok tt

pub returns-in_err-entry-clause-reads : goal.returns-in_err-entry-clause-reads
returns-in_err-entry-clause-reads g c = read_handed c.in_err-entry.ensures.reads _ c.from_residual.ensures.1

pub returns-in_err-push-clause-reads : goal.returns-in_err-push-clause-reads
returns-in_err-push-clause-reads g c = read_starved c.read_entry.ensures.reads _ c.from_residual-in_err-push.ensures.1

pub returns-clause-reads : goal.returns-clause-reads
returns-clause-reads g c = read_ok c.read_entry.ensures.reads tt

pub returns-clause-entries : goal.returns-clause-entries
returns-clause-entries g c = record {
  has = λ w is.
      c.in_ok-push.ensures.ok
      ∙ ap (λ files. c.args.entries.now ++ files) (one_entry w.leaves c.args.generation.now c.in-Some.system c.in_ok-entry.entry c.in-Some.is (c.in_ok-entry.ensures.entry.has w is));
}

-- what its entry is made of, where it names a system
pub returns-clause-noted : goal.returns-clause-noted
returns-clause-noted g c done =
    told_as (c.in_ok-entry.ensures.noted done) _ (λ w world more before.
    subst (λ (target : Option Name). IsFirstOf (done ++ option_map_or files_of target []) w.leaves c.read_entry.new.long) (sym c.in-Some.is) (more before))
