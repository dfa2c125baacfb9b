use Rattle.std.proofs.Common.{[], ◌∷◌, ◌++◌, List, ℕ, ap, ◌∙◌}
use Rattle.std.proofs.lemmas.Result.{IfOk-weaker, on_ok_weaker}
use Rattle.switch_names.specs.Path.{slash}
use Rattle.host_trait.specs.Host.{Told}
use Rattle.host_trait.specs.World.{listed}
use Rattle.host_trait.proofs.Readings.{no_device, nothing_read, read_then, told_read}
use Rattle.unit_defs.specs.Found.{AreFilesOf}
use Rattle.unit_defs.proofs.TakenLemmas.{folder_noted}
use Rattle.unit_defs.proofs.WorldLemmas.{files_all}
use Rattle.unit_defs.proofs.reading.read_folder.Goals as goal

pub returns-clause-found : goal.returns-clause-found
returns-clause-found g c =
    IfOk-weaker c.read_paths.result _ (λ found. Told (g.T.Tree.host c.args.host.now) (λ w. AreFilesOf w.leaves c.args.system.now [] found))
    (λ found told.
    let read = told_read c.list.ensures.reads told in
    record {
      has = λ w is.
          files_all w.leaves c.args.system.now _ _ found
          (c.as_str-2.ensures ∙ c.in_ok-front.ensures ∙ ap (λ (text : List ℕ). text ++ slash ∷ []) (c.as_str.ensures.text ∙ c.in_ok-folder.ensures))
          (c.as_slice.ensures ∙ c.in_ok-paths.ensures.paths.has w is ∙ ap (λ folder. listed folder w.leaves) c.in_ok-folder.ensures) (read.has w is);
    })
    c.read_paths.ensures.found

pub returns-clause-short : goal.returns-clause-short
returns-clause-short g c =
    on_ok_weaker c.read_paths.result (λ told.
    let read = told_read c.list.ensures.reads told in
    record {
      has = λ w is.
          folder_noted w.leaves c.args.system.now _ _ c.args.long.now c.read_paths.new.long
          (c.as_str-2.ensures ∙ c.in_ok-front.ensures ∙ ap (λ (text : List ℕ). text ++ slash ∷ []) (c.as_str.ensures.text ∙ c.in_ok-folder.ensures))
          (c.as_slice.ensures ∙ c.in_ok-paths.ensures.paths.has w is ∙ ap (λ folder. listed folder w.leaves) c.in_ok-folder.ensures) (read.has w is);
    })
    c.read_paths.ensures.short

pub returns-in_err-folder-clause-reads : goal.returns-in_err-folder-clause-reads
returns-in_err-folder-clause-reads g c = nothing_read _ (no_device _ c.from_residual.ensures.1)

pub returns-in_err-front-clause-reads : goal.returns-in_err-front-clause-reads
returns-in_err-front-clause-reads g c = nothing_read _ (no_device _ c.from_residual-in_err-front.ensures.1)

pub returns-clause-reads : goal.returns-clause-reads
returns-clause-reads g c = read_then c.list.ensures.reads c.read_paths.ensures.reads
