use Rattle.std.proofs.Common.{◌≡◌, true, filter, List, ap, subst, ◌∙◌}
use Rattle.std.specs.List.{list_any}
use Rattle.std.specs.List.Sorted.{IsStrictlySortedBy}
use Rattle.switch_names.specs.Names.{IsListOf, Name, has}
use Rattle.host_trait.specs.World.{bytes_cmp, is_in_line}
use Rattle.host_trait.proofs.Readings.{read_handed, read_ok, read_starved, read_then, told_read}
use Rattle.leaf_limits.specs.Limits.{content_past}
use Rattle.etc_manifest.specs.declared.item.Item.{Item}
use Rattle.etc_manifest.specs.Manifest.{places}
use Rattle.etc_clean.specs.CleanList.{names_in}
use Rattle.etc_clean.specs.Found.{AreFoundLeaves}
use Rattle.etc_clean.specs.Names.{etc_names}
use Rattle.etc_clean.proofs.FoundLemmas.{sorted_all}
use Rattle.etc_clean.proofs.sorting.obsolete.Goals as goal

pub returns-in_err-clean-clause-reads : goal.returns-in_err-clean-clause-reads
returns-in_err-clean-clause-reads g c = read_starved c.read_old.ensures.reads _ c.from_residual-in_err-clean.ensures.1

pub returns-in_err-found-clause-reads : goal.returns-in_err-found-clause-reads
returns-in_err-found-clause-reads g c = read_handed (read_then c.read_old.ensures.reads c.in_err-found.ensures.reads) _ c.from_residual-in_err-found.ensures.1

pub returns-in_err-blocked-clause-reads : goal.returns-in_err-blocked-clause-reads
returns-in_err-blocked-clause-reads g c = read_starved (read_then c.read_old.ensures.reads c.find_all.ensures.reads) _ c.from_residual-in_err-blocked.ensures.1

pub returns-clause-reads : goal.returns-clause-reads
returns-clause-reads g c = read_ok (read_then c.read_old.ensures.reads c.find_all.ensures.reads) _

pub returns-clause-sorted : goal.returns-clause-sorted
returns-clause-sorted g c =
    let told = told_read c.read_old.ensures.reads c.in_ok-found.ensures.found in
    let items = c.as_slice-items.ensures ∙ c.items.ensures.items in
    record {
      has = λ w is.
          let standing_list = c.in_ok-content.ensures.content.has w is in
          sorted_all c.args.manifest.now w.leaves c.in_ok-clean.clean c.in_ok-found.found _ c.in_ok-blocked.blocked _ _ c.items.ensures.is_manifest.sorted
          (subst (λ content. IsListOf c.in_ok-clean.clean (λ q. has (names_in content) q ≡ true)) standing_list c.in_ok-clean.ensures.clean)
          (subst (λ (list : List Item). AreFoundLeaves list c.in_ok-clean.clean w.leaves (etc_names w.leaves) c.in_ok-found.found) items
          (subst (λ (names : List Name). AreFoundLeaves c.as_slice-items.result.now names w.leaves (etc_names w.leaves) c.in_ok-found.found) c.as_slice.ensures (told.has w is)))
          c.into_names-gone.ensures.gone c.into_names-gone.ensures.standing
          (subst (λ (list : List Item). IsStrictlySortedBy bytes_cmp c.in_ok-found.found.foreign → c.in_ok-blocked.blocked ≡ filter (λ q. list_any (λ p. is_in_line p q) c.in_ok-found.found.foreign) (places list)) items
          (subst (λ (names : List Name). IsStrictlySortedBy bytes_cmp names → c.in_ok-blocked.blocked ≡ filter (λ q. list_any (λ p. is_in_line p q) names) (places c.as_slice-items.result.now)) c.as_slice-2.ensures c.in_ok-blocked.ensures))
          (c.content_past.ensures ∙ ap content_past standing_list);
    }
