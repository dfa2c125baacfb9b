-- A host without leaves, on which a cut has fallen.
use Rattle.std.proofs.Common.{◌≡◌, ℕ, List, Some, refl, sym, subst, ◌∙◌, ⊎_elim}
use Rattle.std.specs.FinMap.{get-empty}
use Rattle.host_trait.specs.Change.{IsMoment, DaemonReload}
use Rattle.host_trait.specs.Host.{HostState, Passes, Told}
use Rattle.host_trait.specs.World.{IsClear, Leaves, WorldState, bytes_cmp, empty_world}
use Rattle.host_trait.proofs.Moments.{one_world, told_after}
use Rattle.world_text.specs.Leafless.{HasNoLeaf}

-- a load of definitions leaves no leaf where none stood
still_none : (w m : WorldState) → HasNoLeaf w → IsMoment DaemonReload w m → HasNoLeaf m
still_none w m none moment =
    ⊎_elim (λ same. subst HasNoLeaf (sym same) none)
    (λ rest. ⊎_elim (λ done. subst HasNoLeaf (sym done) none) (λ never. absurd never) rest)
    moment

pub none_after : (first armed cut : HostState) → first.world ≡ Some empty_world → armed.world ≡ first.world → Passes armed cut (IsMoment DaemonReload) → Told cut HasNoLeaf
none_after first armed cut begins same way =
    told_after way way.tells HasNoLeaf
    (λ w m is moment. still_none w m (subst HasNoLeaf (one_world armed.world _ w (same ∙ begins) is) refl) moment)

-- a new world has no leaf
pub none_first : (host : HostState) → host.world ≡ Some empty_world → Told host HasNoLeaf
none_first host begins = record { has = λ w is. subst HasNoLeaf (one_world host.world _ w begins is) refl }

-- nothing stands above or below any path
pub clear_of_none : (w : WorldState) → HasNoLeaf w → (at : List ℕ) → IsClear w.leaves at
clear_of_none w none at = subst (λ (leaves : Leaves). IsClear leaves at) (sym none) (λ q line. get-empty bytes_cmp q)
