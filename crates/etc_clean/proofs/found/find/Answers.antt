use Rattle.std.proofs.Common.{List, ℕ, subst}
use Rattle.std.proofs.lemmas.List.{take_all}
use Rattle.host_trait.proofs.Moments.{told_as}
use Rattle.host_trait.proofs.Readings.{nothing_read_ok, read_handed, read_ok, read_then, told_read}
use Rattle.etc_clean.specs.Found.{AreFoundLeaves}
use Rattle.etc_clean.specs.Names.{names_below}
use Rattle.etc_clean.proofs.FoundLemmas.{found_next, none_found}
use Rattle.etc_clean.proofs.found.find.Goals as goal

pub loop-path-init : goal.loop-path-init
loop-path-init g c = record {
  reads = nothing_read_ok tt;
  found = record { has = λ w is. none_found c.args.items.now c.args.clean.now w.leaves c.new-found.result c.new-found.ensures.gone c.new-found.ensures.foreign c.new-found.ensures.standing };
}

pub loop-path-preserved : goal.loop-path-preserved
loop-path-preserved g c =
    let path = told_read c.loop-path.invariant.reads c.in_ok-take_path.ensures.found in
    record {
      reads = read_ok (read_then c.loop-path.invariant.reads c.take_path.ensures.reads) tt;
      found = record {
        has = λ w is.
            found_next c.args.items.now c.args.clean.now w.leaves c.args.paths.now c.loop-path.path-index c.path-item.result c.loop-path.found c.take_path.new.found
            c.loop-path-test.true c.path-item.is (c.loop-path.invariant.found.has w is) (path.has w is);
      };
    }

pub returns-clause-found : goal.returns-clause-found
returns-clause-found g c =
    told_as c.loop-path.invariant.found (λ w. AreFoundLeaves c.args.items.now c.args.clean.now w.leaves (names_below c.args.paths.now) c.loop-path.found)
    (λ w is read. subst (λ (paths : List (List ℕ)). AreFoundLeaves c.args.items.now c.args.clean.now w.leaves (names_below paths) c.loop-path.found) (take_all c.loop-path.path-index c.args.paths.now c.loop-path-test.false) read)

pub returns-in_err-take_path-clause-reads : goal.returns-in_err-take_path-clause-reads
returns-in_err-take_path-clause-reads g c = read_handed (read_then c.loop-path.invariant.reads c.in_err-take_path.ensures.reads) _ c.from_residual.ensures.1

pub returns-clause-reads : goal.returns-clause-reads
returns-clause-reads g c = read_ok c.loop-path.invariant.reads c.loop-path.found
