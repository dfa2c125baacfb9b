use Rattle.std.proofs.Common.{sym, subst}
use Rattle.host_memory.proofs.calls.effect_in.Goals as goal
use Rattle.host_memory.proofs.Entering.{plain_effected}
use Rattle.host_memory.proofs.ManagerUndoing.{stepped, not_stepped}
use Rattle.host_trait.specs.Manager.{HasPlainTexts}
use Rattle.host_trait.specs.World.{WorldState}
use Rattle.manager_core.specs.Call.{effected}

pub returns-clause-ok : goal.returns-clause-ok
returns-clause-ok c =
    stepped _ c.args.world.now c.swap_manager-manager.new.self c.swap_manager-empty.new.self _ _ _ (effected c.args.act c.args.unit.now)
    c.swap_manager-manager.ensures.was c.swap_manager-manager.ensures.new c.swap_manager-empty.ensures.new c.take_effect-answer.ensures.ok

pub returns-clause-err : goal.returns-clause-err
returns-clause-err c =
    not_stepped _ c.args.world.now c.swap_manager-manager.new.self c.swap_manager-empty.new.self _ _ _
    c.swap_manager-manager.ensures.was c.swap_manager-manager.ensures.new c.swap_manager-empty.ensures.new c.take_effect-answer.ensures.err

pub swap_manager-empty-requires : goal.swap_manager-empty-requires
swap_manager-empty-requires c =
    plain_effected _ c.args.act c.args.unit.now _ _ c.take_effect-answer.ensures.ok c.take_effect-answer.ensures.err c.swap_manager-manager.ensures.plain

pub returns-clause-plain : goal.returns-clause-plain
returns-clause-plain c =
    subst (λ (w : WorldState). HasPlainTexts w.manager) (sym c.swap_manager-empty.ensures.new)
    (plain_effected _ c.args.act c.args.unit.now _ _ c.take_effect-answer.ensures.ok c.take_effect-answer.ensures.err c.swap_manager-manager.ensures.plain)
