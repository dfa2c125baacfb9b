use Rattle.std.proofs.Common.{sym, subst}
use Rattle.std.specs.List.{AllByRecursion}
use Rattle.host_trait.specs.Manager.{IsPlain}
use Rattle.rehearse.proofs.generated.use_old.Goals as goal

pub swap_manager-empty-requires : goal.swap_manager-empty-requires
swap_manager-empty-requires c = record {
  loaded = c.in_ok-loaded.ensures.plain;
  bad = c.swap_manager-manager.ensures.plain.bad;
  journal = subst (λ entries. AllByRecursion (λ entry. IsPlain entry.loaded) entries) (sym c.new-2.ensures) tt;
}
