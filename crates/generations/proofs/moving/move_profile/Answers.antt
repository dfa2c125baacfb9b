use Rattle.std.proofs.Common.{◌≡◌, subst, sym}
use Rattle.std.proofs.lemmas.Result.{on_ok_weaker}
use Rattle.host_trait.specs.Host.{Leads, Passes}
use Rattle.host_trait.specs.World.{seen}
use Rattle.host_trait.proofs.Moments.{told_as}
use Rattle.switch_parts.specs.Part.{IsFree}
use Rattle.tree_put.specs.Put.{CanPut}
use Rattle.generations.specs.declared.moving.Move.{Move}
use Rattle.generations.specs.Move.{IsMoveMoment, move_part, move_world}
use Rattle.generations.specs.Places.{profile}
use Rattle.generations.specs.Set.{CanSet}
use Rattle.generations.proofs.PointLemmas.{can_point}
use Rattle.generations.proofs.ProfilePlaces.{can_of_free}
use Rattle.generations.proofs.moving.move_profile.Goals as goal

pub set_number-requires-clause-can : goal.set_number-requires-clause-can
set_number-requires-clause-can g c =
    told_as c.requires.can (CanSet c.args.system.now)
    (λ w is free. can_of_free c.args.system.now w (subst (λ (to : Move). IsFree (move_part to c.args.system.now) w.leaves) c.in-Set.is free))

pub point-requires : goal.point-requires
point-requires g c =
    told_as c.requires.can (CanPut profile)
    (λ w is free. can_point c.in-Point.number c.args.system.now w (subst (λ (to : Move). IsFree (move_part to c.args.system.now) w.leaves) c.in-Point.is free))

pub returns-in-Set-clause-ok : goal.returns-in-Set-clause-ok
returns-in-Set-clause-ok g c =
    on_ok_weaker c.set_number.result
    (λ led. subst (λ (to : Move). Leads (g.T.Tree.host c.args.host.now) (g.T.Tree.host c.set_number.new.host) (λ w v. seen v ≡ move_world to c.args.system.now w)) (sym c.in-Set.is) led)
    c.set_number.ensures.ok

pub returns-in-Set-clause-moments : goal.returns-in-Set-clause-moments
returns-in-Set-clause-moments g c =
    subst (λ (to : Move). Passes (g.T.Tree.host c.args.host.now) (g.T.Tree.host c.set_number.new.host) (IsMoveMoment to c.args.system.now)) (sym c.in-Set.is) c.set_number.ensures.moments

pub returns-in-Point-clause-ok : goal.returns-in-Point-clause-ok
returns-in-Point-clause-ok g c =
    on_ok_weaker c.point.result
    (λ led. subst (λ (to : Move). Leads (g.T.Tree.host c.args.host.now) (g.T.Tree.host c.point.new.host) (λ w v. seen v ≡ move_world to c.args.system.now w)) (sym c.in-Point.is) led)
    c.point.ensures.ok

pub returns-in-Point-clause-moments : goal.returns-in-Point-clause-moments
returns-in-Point-clause-moments g c =
    subst (λ (to : Move). Passes (g.T.Tree.host c.args.host.now) (g.T.Tree.host c.point.new.host) (IsMoveMoment to c.args.system.now)) (sym c.in-Point.is) c.point.ensures.moments
