-- One report is made of an activation.
use Rattle.std.proofs.Common.{◌≡◌, ◌++◌, ℕ, List, ap, sym, ◌∙◌}
use Rattle.std.specs.Cmp.{both_ways}
use Rattle.std.proofs.lemmas.Map.Lookups.{btree_set_from_contains, exact_bytes}
use Rattle.host_trait.proofs.Places.{bytes_total}
use Rattle.etc_clean.specs.declared.sorting.Sorted.{Sorted}
use Rattle.etc_clean.specs.Obsolete.{IsSortedOf}
use Rattle.etc_manifest.specs.declared.item.Item.{Item}
use Rattle.host_trait.specs.World.{Leaves}
use Rattle.switch_names.specs.Names.{IsListOf, Name, has}
use Rattle.dry_report.specs.Lines.{etc_lines}
use Rattle.dry_report.specs.Activation.{IsActivationReport, account_lines}

-- a set of names has one list
one_list : (list other : List Name) (P : Name → Type 0) → IsListOf list P → IsListOf other P → list ≡ other
one_list list other P one also =
    btree_set_from_contains bytes_total (record { keys = list }) (record { keys = other }) one.sorted also.sorted
    (λ name. both_ways (has list name) (has other name) (λ found. (also.exact name).1 ((one.exact name).0 found)) (λ found. (one.exact name).1 ((also.exact name).0 found)))
    exact_bytes

-- of the same leaves the same is told of /etc
same_lines : (items : List Item) (leaves : Leaves) (one other : Sorted) → IsSortedOf items leaves one → IsSortedOf items leaves other → etc_lines one ≡ etc_lines other
same_lines items leaves one other is also =
    ap (λ names. etc_lines (record { gone = names; blocked = one.blocked; standing = one.standing; clean = one.clean; past = one.past })) (one_list one.gone other.gone _ is.gone also.gone)
    ∙ ap (λ names. etc_lines (record { gone = other.gone; blocked = names; standing = one.standing; clean = one.clean; past = one.past })) (one_list one.blocked other.blocked _ is.blocked also.blocked)

pub one_report : (system : Name) (leaves : Leaves) (one other : List ℕ) → IsActivationReport system leaves one → IsActivationReport system leaves other → one ≡ other
one_report system leaves one other is also =
    is.is_text ∙ ap (λ lines. account_lines system leaves ++ lines) (same_lines _ leaves is.sorted also.sorted is.is_sorted also.is_sorted) ∙ sym also.is_text
