use Rattle.std.proofs.Common.{◌≡◌, Some, ap}
use Rattle.std.specs.Option.{option_or}
use Rattle.host_trait.proofs.Moments.{told_as, told_before}
use Rattle.host_trait.proofs.Readings.{read_of, reads_of, reads_then}
use Rattle.switch_parts.specs.declared.plan_fault.PlanFault.TheVariants.{Refused}
use Rattle.accounts_stage.specs.All.{all_in}
use Rattle.accounts_stage.specs.Refusals.{maps_refusal, stored_refusal}
use Rattle.accounts_stage.specs.Standing.{memory_in}
use Rattle.accounts_stage.proofs.AnsweringLemmas.{err_handed, host_handed, read_with, told_fine, told_ok}
use Rattle.accounts_stage.proofs.stored.read_all.Goals as goal

pub returns-in_err-tables-clause-refused : goal.returns-in_err-tables-clause-refused
returns-in_err-tables-clause-refused g c why e =
    told_as (c.in_err-tables.ensures.refused why (err_handed _ (Refused why) _ c.from_residual.ensures.1 e)) (λ w. stored_refusal w.leaves ≡ Some why)
    (λ w is refused. ap (λ o. option_or o (maps_refusal (memory_in w.leaves))) refused)

pub returns-in_err-memory-clause-reads : goal.returns-in_err-memory-clause-reads
returns-in_err-memory-clause-reads g c =
    reads_of (reads_then c.read_tables.ensures.reads (read_of c.in_err-memory.ensures.reads _ (λ e. e))) _ (host_handed _ _ c.from_residual-in_err-memory.ensures.1)

pub returns-clause-stored : goal.returns-clause-stored
returns-clause-stored g c =
    told_ok (λ w. stored_refusal w.leaves) (λ w stored. stored ≡ all_in w.leaves) c.with_texts.result
    (read_with c.in_ok-tables.tables c.in_ok-memory.memory c.with_texts.result c.in_ok-tables.ensures.tables c.in_ok-tables.ensures.not_refused
    (told_before c.read_tables.ensures.reads.moments c.in_ok-memory.ensures.texts) c.with_texts.ensures.stored)

pub returns-clause-not_refused : goal.returns-clause-not_refused
returns-clause-not_refused g c =
    told_fine (λ w. stored_refusal w.leaves) (λ w stored. stored ≡ all_in w.leaves) c.with_texts.result
    (read_with c.in_ok-tables.tables c.in_ok-memory.memory c.with_texts.result c.in_ok-tables.ensures.tables c.in_ok-tables.ensures.not_refused
    (told_before c.read_tables.ensures.reads.moments c.in_ok-memory.ensures.texts) c.with_texts.ensures.stored)

pub returns-clause-refused : goal.returns-clause-refused
returns-clause-refused g c why e =
    told_as
    (read_with c.in_ok-tables.tables c.in_ok-memory.memory c.with_texts.result c.in_ok-tables.ensures.tables c.in_ok-tables.ensures.not_refused
    (told_before c.read_tables.ensures.reads.moments c.in_ok-memory.ensures.texts) c.with_texts.ensures.stored) (λ w. stored_refusal w.leaves ≡ Some why)
    (λ w is answers. answers.refused why e)

pub returns-clause-reads : goal.returns-clause-reads
returns-clause-reads g c =
    reads_of (reads_then c.read_tables.ensures.reads (read_of c.read_memory.ensures.reads _ (λ e. e))) _ (λ e. absurd (c.with_texts.ensures.cause e))

pub read_memory-requires : goal.read_memory-requires
read_memory-requires g c = record { found = record { has = λ w is. c.nothing_found-findings.ensures w.leaves } }
