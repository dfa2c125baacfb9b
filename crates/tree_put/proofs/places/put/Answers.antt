use Rattle.std.proofs.Common.{IsSome}
use Rattle.std.specs.FinMap.{get}
use Rattle.host_trait.specs.World.{IsClear, stage}
use Rattle.host_trait.specs.World.{seen, with_leaf}
use Rattle.host_trait.proofs.Moments.{passes_as, goes_on, leads_then, told_after, told_as}
use Rattle.tree_put.specs.Put.{IsOldOrNew}
use Rattle.tree_put.proofs.PutLemmas.{apart_ne, staged_moment, renamed_moment, renamed_world, renamed_written, stage_has, place_clear}
use Rattle.host_trait.proofs.Causes.{cause_ok, cause_then}
use Rattle.tree_put.proofs.places.put.Goals as goal
use Rattle.std.proofs.Common.{◌≡◌, ◌∷◌, ◌++◌, [], inl}

pub write_stage-requires : goal.write_stage-requires
write_stage-requires g c = told_as c.requires.can (λ w. IsClear w.leaves stage) (λ w is can. can.stage)

pub rename_stage-requires-clause-other : goal.rename_stage-requires-clause-other
rename_stage-requires-clause-other g c = apart_ne _ _ c.requires.apart

pub returns-in_err-write_stage-clause-moments : goal.returns-in_err-write_stage-clause-moments
returns-in_err-write_stage-clause-moments g c =
    passes_as c.write_stage.ensures.moments (IsOldOrNew c.args.at.now c.args.leaf.now) (λ w m is moment. inl (staged_moment c.args.leaf.now w m moment))

pub rename_stage-requires-clause-staged : goal.rename_stage-requires-clause-staged
rename_stage-requires-clause-staged g c =
    told_after c.write_stage.ensures.moments c.in_ok-write_stage.ensures.ok (λ w. IsSome (get w.leaves stage))
    (λ w v is done. stage_has c.args.leaf.now w v done)

pub rename_stage-requires-clause-clear : goal.rename_stage-requires-clause-clear
rename_stage-requires-clause-clear g c =
    told_after c.write_stage.ensures.moments c.in_ok-write_stage.ensures.ok (λ w. IsClear w.leaves c.args.at.now)
    (λ w v is done. place_clear c.args.at.now c.args.leaf.now w v c.requires.apart (c.requires.can.has w is).place done)

pub returns-in_err-rename_stage-clause-moments : goal.returns-in_err-rename_stage-clause-moments
returns-in_err-rename_stage-clause-moments g c =
    goes_on c.write_stage.ensures.moments c.in_ok-write_stage.ensures.ok c.rename_stage.ensures.moments (IsOldOrNew c.args.at.now c.args.leaf.now)
    (λ w m is moment. inl (staged_moment c.args.leaf.now w m moment))
    (λ w v m is_w is_v done moment. renamed_moment c.args.at.now c.args.leaf.now w v m (apart_ne _ _ c.requires.apart) done moment)

pub returns-clause-ok : goal.returns-clause-ok
returns-clause-ok g c =
    leads_then c.in_ok-write_stage.ensures.ok c.in_ok-rename_stage.ensures.ok (λ w v. seen v ≡ seen (with_leaf c.args.at.now c.args.leaf.now w))
    (λ w v u is_w is_v done renamed. renamed_world c.args.at.now c.args.leaf.now w v u (apart_ne _ _ c.requires.apart) done renamed)

pub returns-clause-written : goal.returns-clause-written
returns-clause-written g c =
    leads_then c.in_ok-write_stage.ensures.ok c.in_ok-rename_stage.ensures.ok (λ w v. v.written ≡ w.written ++ c.args.at.now ∷ [])
    (λ w v u is_w is_v done renamed. renamed_written c.args.at.now c.args.leaf.now w v u done renamed)

pub returns-clause-moments : goal.returns-clause-moments
returns-clause-moments g c =
    goes_on c.write_stage.ensures.moments c.in_ok-write_stage.ensures.ok c.rename_stage.ensures.moments (IsOldOrNew c.args.at.now c.args.leaf.now)
    (λ w m is moment. inl (staged_moment c.args.leaf.now w m moment))
    (λ w v m is_w is_v done moment. renamed_moment c.args.at.now c.args.leaf.now w v m (apart_ne _ _ c.requires.apart) done moment)

pub returns-clause-cause : goal.returns-clause-cause
returns-clause-cause g c = cause_ok (cause_then c.write_stage.ensures.cause c.rename_stage.ensures.cause) tt
