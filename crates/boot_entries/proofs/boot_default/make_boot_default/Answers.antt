use Rattle.std.proofs.Common.{◌≡◌}
use Rattle.std.proofs.lemmas.Bool.{or_left, or_right}
use Rattle.generations.specs.Gens.{IsGensOf}
use Rattle.generations.specs.Move.{move_part}
use Rattle.switch_parts.specs.Part.{IsFree}
use Rattle.host_trait.proofs.Moments.{goes_on, leads_then, passes_as, told_after, told_as}
use Rattle.host_trait.specs.World.{seen}
use Rattle.generations.specs.ProfilePart.{owns_profile}
use Rattle.tree_put.specs.Written.{WritesOnly}
use Rattle.tree_put.proofs.WrittenLemmas.{writes_then, writes_wider}
use Rattle.boot_entries.specs.BootDefault.{IsMakingDefault, default_end, owns_default}
use Rattle.boot_entries.specs.BootDefault.IsMakingDefault.{Moving}
use Rattle.boot_entries.specs.Places.{owns_boot}
use Rattle.boot_entries.specs.Steps.{CanApplyBoot}
use Rattle.boot_entries.proofs.MakeLemmas.{can_apply, can_move, default_made, listing_moment}
use Rattle.boot_entries.proofs.boot_default.make_boot_default.Goals as goal

pub move_profile-requires-clause-gens : goal.move_profile-requires-clause-gens
move_profile-requires-clause-gens g c = told_as c.requires.can (λ w. IsGensOf w.leaves c.args.plan.now.gens) (λ w is can. can.planned.gens)

pub move_profile-requires-clause-can : goal.move_profile-requires-clause-can
move_profile-requires-clause-can g c = told_as c.requires.can (λ w. IsFree (move_part c.args.plan.now.to c.args.system.now) w.leaves) (λ w is can. can_move c.args.system.now c.args.plan.now w can)

pub returns-in_err-move_profile-clause-moments : goal.returns-in_err-move_profile-clause-moments
returns-in_err-move_profile-clause-moments g c = passes_as c.move_profile.ensures.moments (IsMakingDefault c.args.plan.now.to c.args.system.now) (λ w m is moment. Moving moment)

pub apply-requires-clause-can : goal.apply-requires-clause-can
apply-requires-clause-can g c =
    told_after c.move_profile.ensures.moments c.in_ok-move_profile.ensures.ok (CanApplyBoot c.args.plan.now.menu)
    (λ w u is set. can_apply c.args.system.now c.args.plan.now w (c.requires.can.has w is) u set)

pub returns-in_err-apply-clause-moments : goal.returns-in_err-apply-clause-moments
returns-in_err-apply-clause-moments g c =
    goes_on c.move_profile.ensures.moments c.in_ok-move_profile.ensures.ok c.apply.ensures.moments (IsMakingDefault c.args.plan.now.to c.args.system.now) (λ w m is moment. Moving moment)
    (λ w u m is at set moment. listing_moment c.args.system.now c.args.plan.now w (c.requires.can.has w is) u set m moment)

pub returns-clause-ok : goal.returns-clause-ok
returns-clause-ok g c =
    leads_then c.in_ok-move_profile.ensures.ok c.in_ok-apply.ensures.ok (λ w v. seen v ≡ default_end c.args.plan.now.to c.args.system.now w)
    (λ w u v is at set made. default_made c.args.system.now c.args.plan.now w (c.requires.can.has w is) u set v made)

pub returns-clause-moments : goal.returns-clause-moments
returns-clause-moments g c =
    goes_on c.move_profile.ensures.moments c.in_ok-move_profile.ensures.ok c.apply.ensures.moments (IsMakingDefault c.args.plan.now.to c.args.system.now) (λ w m is moment. Moving moment)
    (λ w u m is at set moment. listing_moment c.args.system.now c.args.plan.now w (c.requires.can.has w is) u set m moment)

pub returns-clause-written : goal.returns-clause-written
returns-clause-written g c =
    leads_then c.in_ok-move_profile.ensures.written c.in_ok-apply.ensures.written (WritesOnly owns_default)
    (λ w u v is at moved made. writes_then owns_default w u v
    (writes_wider owns_profile owns_default (λ q own. or_left (owns_profile q) (owns_boot q) own) w u moved)
    (writes_wider owns_boot owns_default (λ q own. or_right (owns_profile q) (owns_boot q) own) u v made))
