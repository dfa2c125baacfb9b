use Rattle.std.proofs.Common.{ap, ◌∙◌}
use Rattle.std.proofs.lemmas.Result.{IfOk-weaker}
use Rattle.host_trait.specs.World.{listed}
use Rattle.host_trait.proofs.Readings.{no_device, nothing_read, read_then, told_read}
use Rattle.generations.proofs.Reading.{read_all}
use Rattle.generations.specs.Places.{profiles}
use Rattle.generations.proofs.listing.read_targets.Goals as goal

pub returns-clause-targets : goal.returns-clause-targets
unfolding profiles
returns-clause-targets g c =
    IfOk-weaker c.read_links.result _ _ (λ targets told. let links = told_read c.list.ensures.reads told in record {
      has = λ w is. read_all w.leaves targets c.as_slice.result.now
          (c.as_slice.ensures ∙ c.in_ok-paths.ensures.paths.has w is ∙ ap (λ folder. listed folder w.leaves) c.in_ok-folder.ensures) (links.has w is);
    }) c.read_links.ensures.targets

pub returns-in_err-folder-clause-reads : goal.returns-in_err-folder-clause-reads
returns-in_err-folder-clause-reads g c = nothing_read _ (no_device _ c.from_residual.ensures.1)

pub returns-clause-reads : goal.returns-clause-reads
returns-clause-reads g c = read_then c.list.ensures.reads c.read_links.ensures.reads
