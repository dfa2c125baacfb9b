use Rattle.std.proofs.Common.{◌++◌, List, subst}
use Rattle.std.specs.List.{flat_map}
use Rattle.generations.specs.declared.gens.Gen.{Gen}
use Rattle.host_trait.proofs.Moments.{told_as}
use Rattle.host_trait.proofs.Readings.{read_handed, read_ok, read_starved, read_then}
use Rattle.leaf_limits.specs.Limits.{IsFirstOf}
use Rattle.boot_entries.specs.Sources.{sources_of}
use Rattle.boot_entries.proofs.planning.texts_noted.Goals as goal

pub returns-in_err-gone-clause-reads : goal.returns-in_err-gone-clause-reads
returns-in_err-gone-clause-reads g c = read_handed (read_then c.read_entries.ensures.reads c.in_err-gone.ensures.reads) _ c.from_residual-in_err-gone.ensures.1

pub returns-in_err-loader-clause-reads : goal.returns-in_err-loader-clause-reads
returns-in_err-loader-clause-reads g c = read_starved (read_then c.read_entries.ensures.reads c.read_gone.ensures.reads) _ c.from_residual-in_err-loader.ensures.1

pub returns-clause-reads : goal.returns-clause-reads
returns-clause-reads g c = read_ok (read_then c.read_entries.ensures.reads c.read_gone.ensures.reads) _

pub returns-clause-noted : goal.returns-clause-noted
returns-clause-noted g c done =
    told_as (c.in_ok-entries.ensures.noted done) _ (λ w world more before.
    subst (λ (list : List Gen). IsFirstOf (done ++ flat_map sources_of list) w.leaves c.read_entries.new.long) c.as_slice.ensures (more before))
