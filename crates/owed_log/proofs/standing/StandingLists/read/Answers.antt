use Rattle.std.proofs.Common.{Some, ap, subst, sym, ◌∙◌}
use Rattle.host_trait.proofs.Moments.{told_as}
use Rattle.host_trait.proofs.Readings.{no_device, nothing_read, read_handed, read_ok, read_then, told_read}
use Rattle.switch_names.specs.Names.{Name}
use Rattle.tree_put.specs.Found.{IsFound}
use Rattle.tree_put.proofs.FoundLemmas.{told_still}
use Rattle.owed_log.specs.Standing.{AreStanding, IsLogState}
use Rattle.owed_log.proofs.StandingLemmas.{absent_state, left_state, old_lists}
use Rattle.owed_log.proofs.standing.StandingLists.read.Goals as goal
use Rattle.owed_log.proofs.standing.StandingLists.read.Goals.{in-Nothing, in-File}

pub returns-in_err-at-clause-reads : goal.returns-in_err-at-clause-reads
returns-in_err-at-clause-reads g c = nothing_read _ (no_device _ c.from_residual.ensures.1)

pub returns-in-Some-clause-standing : goal.returns-in-Some-clause-standing
returns-in-Some-clause-standing g c =
    told_as c.in_ok-found.ensures.found (λ w. AreStanding w.leaves c.in_ok-standing-in-Some.standing)
    (λ w world found.
    let here = subst (λ (at : Name). IsFound w.leaves at c.in_ok-found.found) c.in_ok-at.ensures found in
    c.in_ok-standing-in-Some.ensures w.leaves here.standing
    (sym here.content ∙ sym c.into_content.ensures ∙ c.in-Some.is ∙ ap (λ (bytes : Name). Some bytes) (sym c.as_slice.ensures)))

pub load-requires : goal.load-requires
load-requires g c = record { found = told_still c.find.ensures.reads.moments c.in_ok-found.ensures.others }

pub returns-in_err-lists-in-None-clause-reads : goal.returns-in_err-lists-in-None-clause-reads
returns-in_err-lists-in-None-clause-reads g c = read_handed (read_then c.find.ensures.reads c.in_err-lists-in-None.ensures.reads) _ c.from_residual-in_err-lists-in-None.ensures.1

pub returns-clause-standing : goal.returns-clause-standing
returns-clause-standing g c =
    let lists = told_read c.find.ensures.reads c.in_ok-lists-in-None.ensures.lists in
    told_as c.in_ok-found.ensures.found (λ w. AreStanding w.leaves record { lists = c.in_ok-lists-in-None.lists; log = c.match-stands.log })
    (λ w world found.
    let here = subst (λ (at : Name). IsFound w.leaves at c.in_ok-found.found) c.in_ok-at.ensures found in
    let none = sym here.content ∙ sym c.into_content.ensures ∙ c.in-None.is in
    record {
      lists = old_lists w.leaves none c.in_ok-lists-in-None.lists (lists.has w world);
      log = elim c.match-stands.branch [
        | in-Nothing b ↦ subst (IsLogState w.leaves) (sym b.log-is) (absent_state w.leaves none (sym b.in-Nothing.is ∙ here.standing))
        | in-File b ↦ subst (IsLogState w.leaves) (sym b.log-is) (left_state w.leaves none c.in_ok-found.found.standing b.in-File.is here.standing)
      ];
    })

pub returns-clause-others : goal.returns-clause-others
returns-clause-others g c = told_read c.find.ensures.reads c.in_ok-lists-in-None.ensures.others

pub returns-clause-reads : goal.returns-clause-reads
returns-clause-reads g c = read_ok (read_then c.find.ensures.reads c.load.ensures.reads) _
