use Rattle.std.proofs.lemmas.Result.{IfOk-weaker}
use Rattle.host_trait.proofs.Readings.{no_device, nothing_read, read_then, told_read}
use Rattle.tree_put.specs.Found.{AreFound}
use Rattle.tree_put.proofs.FoundLemmas.{ok_before, told_still}
use Rattle.etc_farm.proofs.planning.look.Goals as goal

pub obsolete-requires : goal.obsolete-requires
obsolete-requires g c = record { found = told_still c.read.ensures.reads.moments c.requires.found }

pub returns-in_err-at-clause-reads : goal.returns-in_err-at-clause-reads
returns-in_err-at-clause-reads g c = nothing_read _ (no_device _ c.from_residual.ensures.1)

pub returns-clause-reads : goal.returns-clause-reads
returns-clause-reads g c = read_then c.read.ensures.reads c.obsolete.ensures.reads

pub returns-clause-sorted : goal.returns-clause-sorted
returns-clause-sorted g c = IfOk-weaker c.obsolete.result _ _ (λ sorted told. told_read c.read.ensures.reads told) c.obsolete.ensures.sorted

pub returns-clause-others : goal.returns-clause-others
returns-clause-others g c = ok_before (λ w. AreFound w.leaves c.obsolete.new.findings) c.obsolete.result c.read.ensures.reads.moments c.obsolete.ensures.others
