use Rattle.std.proofs.Common.{subst}
use Rattle.std.proofs.lemmas.List.{take_all}
use Rattle.host_trait.proofs.Moments.{told_as}
use Rattle.host_trait.proofs.Readings.{nothing_read_ok, read_handed, read_ok, read_starved, read_then, told_read}
use Rattle.generations.proofs.Reading.{read_more, read_none}
use Rattle.generations.specs.Targets.{AreTargetsAt}
use Rattle.generations.proofs.listing.read_links.Goals as goal

pub loop-path-init : goal.loop-path-init
loop-path-init g c = record {
  reads = nothing_read_ok tt;
  read = record { has = λ w is. read_none w.leaves c.new-targets.result c.new-targets.ensures.empty };
}

pub loop-path-preserved : goal.loop-path-preserved
loop-path-preserved g c =
    let link = told_read c.loop-path.invariant.reads c.in_ok-generation.ensures.generation in
    record {
      reads = read_ok (read_then c.loop-path.invariant.reads c.read_link.ensures.reads) tt;
      read = record {
        has = λ w is.
            read_more w.leaves c.args.paths.now c.loop-path.path-index c.path-item.result c.in_ok-generation.generation c.loop-path.targets c.put_target.new.targets
            c.loop-path-test.true c.path-item.is (c.loop-path.invariant.read.has w is) (link.has w is) c.in_ok-put_target.ensures;
      };
    }

pub returns-clause-targets : goal.returns-clause-targets
returns-clause-targets g c =
    told_as c.loop-path.invariant.read (λ w. AreTargetsAt w.leaves c.args.paths.now c.loop-path.targets)
    (λ w is read. subst (λ paths. AreTargetsAt w.leaves paths c.loop-path.targets) (take_all c.loop-path.path-index c.args.paths.now c.loop-path-test.false) read)

pub returns-in_err-generation-clause-reads : goal.returns-in_err-generation-clause-reads
returns-in_err-generation-clause-reads g c = read_handed (read_then c.loop-path.invariant.reads c.in_err-generation.ensures.reads) _ c.from_residual.ensures.1

pub returns-in_err-put_target-clause-reads : goal.returns-in_err-put_target-clause-reads
returns-in_err-put_target-clause-reads g c = read_starved (read_then c.loop-path.invariant.reads c.read_link.ensures.reads) _ c.from_residual-in_err-put_target.ensures.1

pub returns-clause-reads : goal.returns-clause-reads
returns-clause-reads g c = read_ok c.loop-path.invariant.reads c.loop-path.targets
