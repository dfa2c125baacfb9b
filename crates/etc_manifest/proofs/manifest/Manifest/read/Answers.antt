use Rattle.std.proofs.Common.{None, Some, ◌∙◌}
use Rattle.host_trait.proofs.Readings.{read_of, reads_of, reads_then}
use Rattle.etc_manifest.proofs.AnswerLemmas.{fault_handed, fine_no_host}
use Rattle.etc_manifest.proofs.CountLemmas.{many_same, told_past}
use Rattle.etc_manifest.proofs.manifest.Manifest.read.Goals as goal

pub returns-in-Some-clause-many : goal.returns-in-Some-clause-many
returns-in-Some-clause-many g c = λ count is.
    told_past (g.T.Tree.host c.args.host.now) c.args.system.now c.in_ok-names.names c.as_slice.result.now c.in_ok-count.field-0 (Some count) c.in_ok-names.ensures.entries
    c.as_slice.ensures c.in_ok-count.ensures (c.in-Some.is ∙ many_same c.in-Some.count count is)

pub returns-in_err-items-clause-few_refused : goal.returns-in_err-items-clause-few_refused
returns-in_err-items-clause-few_refused g c = λ why place is refused.
    told_past (g.T.Tree.host c.args.host.now) c.args.system.now c.in_ok-names.names c.as_slice.result.now c.in_ok-count.field-0 None c.in_ok-names.ensures.entries
    c.as_slice.ensures c.in_ok-count.ensures c.in_default.is

pub returns-in_err-items-clause-reads : goal.returns-in_err-items-clause-reads
returns-in_err-items-clause-reads g c =
    reads_of (reads_then (read_of c.names_in.ensures.reads ⊥ (λ none. absurd none)) c.in_err-items.ensures.reads) _ (fault_handed _ _ c.from_residual-in_err-items.ensures.1)

pub returns-clause-few : goal.returns-clause-few
returns-clause-few g c =
    told_past (g.T.Tree.host c.args.host.now) c.args.system.now c.in_ok-names.names c.as_slice.result.now c.in_ok-count.field-0 None c.in_ok-names.ensures.entries
    c.as_slice.ensures c.in_ok-count.ensures c.in_default.is

pub returns-clause-reads : goal.returns-clause-reads
returns-clause-reads g c =
    reads_of (reads_then (read_of c.names_in.ensures.reads ⊥ (λ none. absurd none)) c.read_entries.ensures.reads) _ (λ fault. absurd (fine_no_host _ fault))
