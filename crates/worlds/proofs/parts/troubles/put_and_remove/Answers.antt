use Rattle.std.proofs.Common.{IsSome, refl, sym, ap, subst, ◌∙◌}
use Rattle.std.specs.FinMap.{get}
use Rattle.worlds.proofs.parts.troubles.put_and_remove.Goals as goal
use Rattle.host_trait.proofs.Moments.{told_after}
use Rattle.host_trait.proofs.Places.{at_same}
use Rattle.host_trait.proofs.Sound.{clear_insert}
use Rattle.host_trait.specs.World.{IsClear, WorldState, stage}

pub rename_stage-requires-clause-staged : goal.rename_stage-requires-clause-staged
rename_stage-requires-clause-staged g c =
    told_after c.write_stage.ensures.moments c.in_ok-write_stage.ensures.ok (λ w. IsSome (get w.leaves stage))
    (λ w v is done. subst (λ o. IsSome o) (sym (ap (λ (x : WorldState). get x.leaves stage) done ∙ at_same w.leaves stage _)) refl)

pub rename_stage-requires-clause-clear : goal.rename_stage-requires-clause-clear
rename_stage-requires-clause-clear g c =
    told_after c.write_stage.ensures.moments c.in_ok-write_stage.ensures.ok (λ w. IsClear w.leaves c.args.to.now)
    (λ w v is done. subst (λ (x : WorldState). IsClear x.leaves c.args.to.now) (sym done)
    (clear_insert w.leaves stage c.args.to.now _ c.requires.line (c.requires.place.has w is)))
