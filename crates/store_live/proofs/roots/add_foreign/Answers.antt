use Rattle.std.proofs.Common.{true, cond, refl, sym, ap, ◌∙◌}
use Rattle.switch_names.specs.Names.{Name, has, is_name}
use Rattle.store_live.specs.Grown.{IsForeign}
use Rattle.store_live.proofs.GrownLemmas.{grown_one}
use Rattle.store_live.proofs.roots.add_foreign.Goals as goal

-- it is no system's, and is added
pub returns-in_ok-insert : goal.returns-in_ok-insert
returns-in_ok-insert c =
    grown_one c.args.roots.now.keys c.insert.new.self.keys c.args.path.now (IsForeign c.args.path.now)
    (λ x. c.in_ok-insert.ensures.updates.0 x ∙ ap (λ (n : Name). cond (is_name n x) true (has c.args.roots.now.keys x)) c.in_ok-copy.ensures)
    record { same = refl; foreign = sym c.in_ok-is_system.ensures ∙ c.if-not-branch.true }
    (λ x is. is.same)
