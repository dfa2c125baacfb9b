use Rattle.std.proofs.Common.{sym, subst}
use Rattle.std.specs.List.Sorted.{IsStrictlySortedBy}
use Rattle.host_trait.specs.Bytes.{bytes_cmp}
use Rattle.etc_manifest.proofs.NameLemmas.{sorted_once}
use Rattle.etc_manifest.proofs.names.in_order.Goals as goal

pub returns : goal.returns
returns c = subst (IsStrictlySortedBy bytes_cmp) (sym c.from_vec.ensures) (sorted_once c.sort.new.self.items c.dedup.new.self.items c.in_ok-sort.ensures.sorted c.dedup.ensures.filtered)
