use Rattle.std.proofs.Common.{List, ℕ, ap, subst, ◌∙◌}
use Rattle.std.proofs.lemmas.Result.{IfOk-weaker}
use Rattle.host_trait.specs.World.{listed}
use Rattle.host_trait.proofs.Readings.{no_device, nothing_read, read_then, told_read}
use Rattle.etc_clean.specs.Found.{AreFoundLeaves}
use Rattle.etc_clean.specs.Names.{names_below}
use Rattle.etc_clean.proofs.ListLemmas.{listed_names}
use Rattle.etc_clean.proofs.sorting.find_all.Goals as goal

pub returns-in_err-folder-clause-reads : goal.returns-in_err-folder-clause-reads
returns-in_err-folder-clause-reads g c = nothing_read _ (no_device _ c.from_residual.ensures.1)

pub returns-clause-reads : goal.returns-clause-reads
returns-clause-reads g c = read_then c.list.ensures.reads c.find.ensures.reads

pub returns-clause-found : goal.returns-clause-found
returns-clause-found g c =
    IfOk-weaker c.find.result _ _
    (λ found told. record {
      has = λ w is.
          subst (λ (names : List (List ℕ)). AreFoundLeaves c.args.items.now c.args.clean.now w.leaves names found)
          (ap names_below (c.as_slice.ensures ∙ c.in_ok-paths.ensures.paths.has w is ∙ ap (λ folder. listed folder w.leaves) c.in_ok-folder.ensures) ∙ listed_names w.leaves)
          ((told_read c.list.ensures.reads told).has w is);
    })
    c.find.ensures.found
