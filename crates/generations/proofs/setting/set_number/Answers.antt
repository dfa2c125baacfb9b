use Rattle.std.proofs.Common.{◌≡◌}
use Rattle.host_trait.specs.World.{seen}
use Rattle.host_trait.proofs.Moments.{passes_as, goes_on, leads_then, told_after}
use Rattle.tree_put.specs.Put.{CanPut}
use Rattle.tree_put.specs.Written.{WritesOnly}
use Rattle.tree_put.proofs.WrittenLemmas.{writes_then}
use Rattle.generations.specs.Places.{profile, set_end}
use Rattle.generations.specs.ProfilePart.{owns_profile}
use Rattle.generations.specs.Set.{IsSetMoment}
use Rattle.generations.proofs.Numbers.{number_of_world}
use Rattle.generations.proofs.SetLemmas.{can_point, link_is_set, profile_moment, profile_world}
use Rattle.host_trait.proofs.Causes.{cause_ok, cause_then}
use Rattle.generations.proofs.setting.set_number.Goals as goal

pub put_generation-requires-clause-gens : goal.put_generation-requires-clause-gens
put_generation-requires-clause-gens g c = c.requires.gens

pub put_generation-requires-clause-number : goal.put_generation-requires-clause-number
put_generation-requires-clause-number g c = c.requires.number

pub put_generation-requires-clause-can : goal.put_generation-requires-clause-can
put_generation-requires-clause-can g c = c.requires.can

pub returns-in_err-put_generation-clause-moments : goal.returns-in_err-put_generation-clause-moments
returns-in_err-put_generation-clause-moments g c =
    passes_as c.put_generation.ensures.moments (IsSetMoment c.args.system.now) (λ w m is moment. link_is_set c.args.system.now w m moment)

pub point-requires : goal.point-requires
point-requires g c =
    told_after c.put_generation.ensures.moments c.in_ok-put_generation.ensures.ok (CanPut profile)
    (λ w v is linked. can_point c.args.system.now w v (c.requires.can.has w is) linked)

pub returns-in_err-point-clause-moments : goal.returns-in_err-point-clause-moments
returns-in_err-point-clause-moments g c =
    goes_on c.put_generation.ensures.moments c.in_ok-put_generation.ensures.ok c.point.ensures.moments (IsSetMoment c.args.system.now)
    (λ w m is moment. link_is_set c.args.system.now w m moment)
    (λ w v m is is_v linked moment. profile_moment c.args.system.now c.args.number w v m
    (number_of_world w.leaves c.args.gens.now c.args.system.now c.args.number (c.requires.gens.has w is) c.requires.number) linked moment)

pub returns-clause-ok : goal.returns-clause-ok
returns-clause-ok g c =
    leads_then c.in_ok-put_generation.ensures.ok c.in_ok-point.ensures.ok (λ w v. seen v ≡ set_end c.args.system.now w)
    (λ w v u is is_v linked new. profile_world c.args.system.now c.args.number w v u
    (number_of_world w.leaves c.args.gens.now c.args.system.now c.args.number (c.requires.gens.has w is) c.requires.number) linked new)

pub returns-clause-moments : goal.returns-clause-moments
returns-clause-moments g c =
    goes_on c.put_generation.ensures.moments c.in_ok-put_generation.ensures.ok c.point.ensures.moments (IsSetMoment c.args.system.now)
    (λ w m is moment. link_is_set c.args.system.now w m moment)
    (λ w v m is is_v linked moment. profile_moment c.args.system.now c.args.number w v m
    (number_of_world w.leaves c.args.gens.now c.args.system.now c.args.number (c.requires.gens.has w is) c.requires.number) linked moment)

pub returns-clause-cause : goal.returns-clause-cause
returns-clause-cause g c = cause_ok (cause_then c.put_generation.ensures.cause c.point.ensures.cause) tt

pub returns-clause-written : goal.returns-clause-written
returns-clause-written g c =
    leads_then c.in_ok-put_generation.ensures.written c.in_ok-point.ensures.written (WritesOnly owns_profile)
    (λ w v u is is_v linked pointed. writes_then owns_profile w v u linked pointed)
