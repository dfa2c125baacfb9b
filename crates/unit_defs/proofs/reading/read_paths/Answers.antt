use Rattle.std.proofs.Common.{◌&&◌, ◌∷◌, ◌++◌, [], List, take, refl, sym, ap, subst, ◌∙◌}
use Rattle.std.proofs.lemmas.List.{take_all, take_more}
use Rattle.host_trait.proofs.Moments.{told_as}
use Rattle.host_trait.proofs.Readings.{nothing_read_ok, read_handed, read_ok, read_then, told_read}
use Rattle.switch_names.specs.Names.{Name, has}
use Rattle.unit_defs.specs.Found.{AreFilesAt}
use Rattle.unit_defs.specs.Place.{place_after}
use Rattle.unit_defs.specs.Taken.{NotesLong, is_read}
use Rattle.unit_defs.proofs.NotingLemmas.{more_noted, none_noted}
use Rattle.unit_defs.proofs.ReadingLemmas.{files_more, files_none}
use Rattle.unit_defs.proofs.reading.read_paths.Goals as goal

pub loop-path-init : goal.loop-path-init
loop-path-init g c = record {
  reads = nothing_read_ok tt;
  read = record { has = λ w is. files_none w.leaves c.args.front.now c.new-found.result c.new-found.ensures };
  noted = record { has = λ w is. none_noted w.leaves _ c.args.long.now (λ q. refl) };
}

pub loop-path-preserved : goal.loop-path-preserved
loop-path-preserved g c =
    let path = told_read c.loop-path.invariant.reads c.in_ok-read_path.ensures.found in
    let long = told_read c.loop-path.invariant.reads c.in_ok-read_path.ensures.short in
    let paths = c.args.paths.now in
    let i = c.loop-path.path-index in
    let more = sym (take_more paths i c.path-item.result c.loop-path-test.true ∙ ap (λ (q : Name). take i paths ++ q ∷ []) (sym c.path-item.is)) in
    record {
      reads = read_ok (read_then c.loop-path.invariant.reads c.read_path.ensures.reads) tt;
      read = record {
        has = λ w is.
            files_more w.leaves c.args.front.now c.args.paths.now c.loop-path.path-index c.path-item.result c.loop-path.found c.read_path.new.found
            c.loop-path-test.true c.path-item.is (c.loop-path.invariant.read.has w is) (path.has w is);
      };
      noted = record {
        has = λ w is.
            subst (λ (done : List Name). NotesLong c.args.long.now c.read_path.new.long (λ q. has done q && is_read (place_after c.args.front.now q)) w.leaves) more
            (more_noted w.leaves (λ q. is_read (place_after c.args.front.now q)) (take i paths) c.path-item.result c.args.long.now c.loop-path.long c.read_path.new.long
            (c.loop-path.invariant.noted.has w is) (long.has w is));
      };
    }

pub returns-clause-found : goal.returns-clause-found
returns-clause-found g c =
    told_as c.loop-path.invariant.read (λ w. AreFilesAt w.leaves c.args.front.now c.args.paths.now c.loop-path.found)
    (λ w is read. subst (λ paths. AreFilesAt w.leaves c.args.front.now paths c.loop-path.found) (take_all c.loop-path.path-index c.args.paths.now c.loop-path-test.false) read)

pub returns-clause-short : goal.returns-clause-short
returns-clause-short g c =
    told_as c.loop-path.invariant.noted _ (λ w is noted.
    subst (λ (done : List Name). NotesLong c.args.long.now c.loop-path.long (λ q. has done q && is_read (place_after c.args.front.now q)) w.leaves)
    (take_all c.loop-path.path-index c.args.paths.now c.loop-path-test.false) noted)

pub returns-in_err-read_path-clause-reads : goal.returns-in_err-read_path-clause-reads
returns-in_err-read_path-clause-reads g c = read_handed (read_then c.loop-path.invariant.reads c.in_err-read_path.ensures.reads) _ c.from_residual.ensures.1

pub returns-clause-reads : goal.returns-clause-reads
returns-clause-reads g c = read_ok c.loop-path.invariant.reads c.loop-path.found
