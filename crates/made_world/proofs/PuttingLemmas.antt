-- Leaves that are put, one list after another.
use Rattle.std.proofs.Common.{◌≡◌, ◌+◌, ◌++◌, ℕ, zero, suc, List, [], ◌∷◌, append_assoc, refl, ap, arith, ◌∙◌}
use Rattle.std.specs.FinMap.{empty, insert}
use Rattle.std.proofs.lemmas.List.{append-nil}
use Rattle.host_trait.specs.declared.entry.Bad.{Bad}
use Rattle.host_trait.specs.declared.leaf.LeafKind.{LeafKind}
use Rattle.host_trait.specs.Manager.{empty_manager}
use Rattle.host_trait.specs.World.{Leaves, WorldState, empty_world}
use Rattle.made_world.specs.Draws.{next_state, state_at}
use Rattle.made_world.specs.Putting.{put_all, with_bad, with_leaves, world_of}
use Rattle.switch_names.specs.Names.{Name}

pub put_then : (leaves : Leaves) (first more : List (Name × LeafKind)) → put_all (put_all leaves first) more ≡ put_all leaves (first ++ more)
put_then leaves [] more = refl
put_then leaves (one ∷ first) more = put_then (insert leaves one.0 one.1) first more

-- a world with further leaves and units that fail
abbrev pub with_both : List (Name × LeafKind) → List Bad → WorldState → WorldState
with_both leaves bad w = with_bad bad (with_leaves leaves w)

pub both_begin : (w : WorldState) → with_both [] [] w ≡ w
both_begin w = ap (λ bad. record w { manager = record w.manager { bad = bad } }) (append-nil w.manager.bad)

pub both_then : (w : WorldState) (leaves more : List (Name × LeafKind)) (bad worse : List Bad) → with_both more worse (with_both leaves bad w) ≡ with_both (leaves ++ more) (bad ++ worse) w
both_then w leaves more bad worse =
    ap (λ put. record w { leaves = put; manager = record w.manager { bad = (w.manager.bad ++ bad) ++ worse } }) (put_then w.leaves leaves more)
    ∙ ap (λ all. record w { leaves = put_all w.leaves (leaves ++ more); manager = record w.manager { bad = all } }) (append_assoc w.manager.bad bad worse)

pub state_then : (state first more : ℕ) → state_at (state_at state first) more ≡ state_at state (first + more)
state_then state first zero = ap (state_at state) (omega arith)
state_then state first (suc more) = ap next_state (state_then state first more) ∙ ap (state_at state) (after first more)
  where
    after : (first more : ℕ) → suc (first + more) ≡ first + suc more
    after first more = omega arith

-- the world of a machine, whose leaves are put in four parts
pub world_in_parts : (versions units entries users : List (Name × LeafKind)) (bad : List Bad) →
    with_leaves users (with_leaves entries (with_both units bad (with_leaves versions empty_world))) ≡ world_of (versions ++ (units ++ (entries ++ users))) bad
world_in_parts versions units entries users bad =
    ap (λ leaves. record { leaves = leaves; manager = record empty_manager { bad = bad }; written = [] })
    (put_then (put_all (put_all empty versions) units) entries users ∙ put_then (put_all empty versions) units (entries ++ users) ∙ put_then empty versions (units ++ (entries ++ users)))
