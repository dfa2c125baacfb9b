-- The steps of a switch of the units look at the units alone: in worlds with the same units they lead to worlds with the same units.
use Rattle.std.proofs.Common.{◌≡◌, ◌∷◌, true, cond, ℕ, List, [], take, Option, None, Some, refl, sym, ap, ◌∙◌, inl, inr}
use Rattle.std.specs.FinMap.{get, get-insert, get-remove, insert, remove}
use Rattle.std.specs.Ordering.{eq_by_cmp}
use Rattle.host_trait.specs.declared.leaf.LeafKind.{LeafKind}
use Rattle.host_trait.specs.Change.{IsMoment, finished}
use Rattle.host_trait.specs.Manager.{halted, loading}
use Rattle.host_trait.specs.World.{Leaves, WorldState, bytes_cmp, extended, seen, with_extended, with_manager, with_more}
use Rattle.host_trait.proofs.Places.{bytes_total}
use Rattle.host_trait.proofs.Seen.{seen_at}
use Rattle.log_text.specs.declared.lists.Which.{Which}
use Rattle.log_text.specs.declared.lists.Which.TheVariants.{Starts}
use Rattle.log_text.specs.Lists.{block_of}
use Rattle.log_text.specs.Log.{block_text}
use Rattle.owed_log.specs.Places.{log_place}
use Rattle.owed_log.specs.Writing.{clearing}
use Rattle.owed_plan.specs.declared.duty.Duty.{Duty}
use Rattle.owed_plan.specs.Calls.{give_order}
use Rattle.switch_names.specs.Names.{Name}
use Rattle.unit_stage.specs.Acts.{IsPerforming, performed, with_calls}
use Rattle.unit_stage.specs.Owned.{owns_units}
use Rattle.unit_stage.specs.Steps.{AreSameUnits, IsBringStep, IsClearingMoment, IsGiveMoment, IsListMoment, with_cleared, with_current, with_given, with_loaded}
use Rattle.unit_stage.specs.System.{current_place, definitions_of, system_leaf}
use Rattle.unit_stage.proofs.ElsewhereLemmas.{own_log}
use Rattle.unit_stage.proofs.OwnedLemmas.{owned_not_stage}
use Rattle.unit_stage.proofs.StepLemmas.{manager_seen}

pub units_self : (w : WorldState) → AreSameUnits w w
units_self w = record { leaves = λ q own. refl; manager = refl }

pub units_then : (w v m : WorldState) → AreSameUnits w v → AreSameUnits v m → AreSameUnits w m
units_then w v m one then = record { leaves = λ q own. then.leaves q own ∙ one.leaves q own; manager = then.manager ∙ one.manager }

-- worlds that are equal but for the stage have the same units
pub units_seen : (w m : WorldState) → seen m ≡ seen w → AreSameUnits w m
units_seen w m is = record {
  leaves = λ q own. seen_at m w is q (owned_not_stage q own);
  manager = manager_seen m w is;
}

units_as : (v m : WorldState) → m ≡ v → AreSameUnits v m
units_as v m is = record { leaves = λ q own. ap (λ (x : WorldState). get x.leaves q) is; manager = ap (λ (x : WorldState). x.manager) is }

put_same : (m n : Leaves) (k q : Name) (leaf : LeafKind) → get m q ≡ get n q → get (insert m k leaf) q ≡ get (insert n k leaf) q
put_same m n k q leaf same =
    get-insert bytes_total m k leaf q ∙ ap (cond (eq_by_cmp bytes_cmp q k) (Some leaf)) same ∙ sym (get-insert bytes_total n k leaf q)

gone_same : (m n : Leaves) (k q : Name) → get m q ≡ get n q → get (remove m k) q ≡ get (remove n k) q
gone_same m n k q same = get-remove bytes_total m k q ∙ ap (cond (eq_by_cmp bytes_cmp q k) None) same ∙ sym (get-remove bytes_total n k q)

longer_same : (m n : Leaves) (k q more : Name) (one other : Option LeafKind) → one ≡ other → get m q ≡ get n q → get (with_extended m k more one) q ≡ get (with_extended n k more other) q
longer_same m n k q more None None is same = same
longer_same m n k q more None (Some other) is same = absurd cc
longer_same m n k q more (Some one) None is same = absurd cc
longer_same m n k q more (Some one) (Some other) is same =
    let leaf : one ≡ other = cc in put_same m n k q (extended one more) same ∙ ap (λ (l : LeafKind). get (insert n k (extended l more)) q) leaf

more_same : (m n : Leaves) (k q more : Name) → get m k ≡ get n k → get m q ≡ get n q → get (with_more m k more) q ≡ get (with_more n k more) q
more_same m n k q more here same = longer_same m n k q more (get m k) (get n k) here same

module _ (w v : WorldState) (same : AreSameUnits w v) where
  pub same_calls : (calls : List Duty) → AreSameUnits (with_calls calls w) (with_calls calls v)
  same_calls calls = record { leaves = same.leaves; manager = ap (performed calls) same.manager }

  pub same_current : (system : Name) → AreSameUnits (with_current system w) (with_current system v)
  same_current system = record { leaves = λ q own. put_same v.leaves w.leaves current_place q (system_leaf system) (same.leaves q own); manager = same.manager }

  pub same_loaded : (system : Name) → AreSameUnits (with_loaded system w) (with_loaded system v)
  same_loaded system = record {
    leaves = λ q own. put_same v.leaves w.leaves current_place q (system_leaf system) (same.leaves q own);
    manager = ap (loading (definitions_of system)) same.manager;
  }

  longer : (more : List ℕ) → (q : Name) → owns_units q ≡ true → get (with_more v.leaves log_place more) q ≡ get (with_more w.leaves log_place more) q
  longer more q own = more_same v.leaves w.leaves log_place q more (same.leaves log_place own_log) (same.leaves q own)

  same_finished : (which : Which) → AreSameUnits (finished (clearing which) w) (finished (clearing which) v)
  same_finished Starts = record { leaves = λ q own. gone_same v.leaves w.leaves log_place q (same.leaves q own); manager = same.manager }
  same_finished which = record { leaves = longer (block_text (block_of which [])); manager = same.manager }

  same_middle : (more : List ℕ) (m : WorldState) → m ≡ record v { leaves = with_more v.leaves log_place more } → AreSameUnits (record w { leaves = with_more w.leaves log_place more }) m
  same_middle more m is = record {
    leaves = λ q own. ap (λ (x : WorldState). get x.leaves q) is ∙ longer more q own;
    manager = ap (λ (x : WorldState). x.manager) is ∙ same.manager;
  }

  same_moment : (which : Which) (m : WorldState) → IsMoment (clearing which) v m → (u : WorldState) × IsMoment (clearing which) w u × AreSameUnits u m
  same_moment which m (inl is) = (w, inl refl, units_then w v m same (units_as v m is))
  same_moment which m (inr (inl is)) = (finished (clearing which) w, inr (inl refl), units_then (finished (clearing which) w) (finished (clearing which) v) m (same_finished which) (units_as (finished (clearing which) v) m is))
  same_moment Starts m (inr (inr middle)) = absurd middle
  same_moment which m (inr (inr middle)) =
      let part = take middle.0 (block_text (block_of which [])) in (record w { leaves = with_more w.leaves log_place part }, inr (inr (middle.0, refl)), same_middle part m middle.1)

  pub same_performing : (calls : List Duty) (m : WorldState) → IsPerforming calls v m → (u : WorldState) × IsPerforming calls w u × AreSameUnits u m
  same_performing calls m (IsPerforming.After count is) =
      let u = with_calls (take count calls) w in (
        u,
        IsPerforming.After count refl,
        record {
          leaves = λ q own. ap (λ (x : WorldState). get x.leaves q) is ∙ same.leaves q own;
          manager = ap (λ (x : WorldState). x.manager) is ∙ ap (performed (take count calls)) same.manager;
        },
      )
  same_performing calls m (IsPerforming.Within count unit there is) =
      let u = with_manager (halted unit (performed (take count calls) w.manager)) w in (
        u,
        IsPerforming.Within count unit there refl,
        record {
          leaves = λ q own. ap (λ (x : WorldState). get x.leaves q) is ∙ same.leaves q own;
          manager = ap (λ (x : WorldState). x.manager) is ∙ ap (λ manager. halted unit (performed (take count calls) manager)) same.manager;
        },
      )

module _ (w v : WorldState) (same : AreSameUnits w v) where
  same_clearing : (which : Which) (calls : List Duty) (m : WorldState) → IsClearingMoment which calls v m → (u : WorldState) × IsClearingMoment which calls w u × AreSameUnits u m
  same_clearing which calls m (inl part) = let there = same_performing w v same calls m part in (there.0, inl there.1, there.2)
  same_clearing which calls m (inr moment) =
      let there = same_moment (with_calls calls w) (with_calls calls v) (same_calls w v same calls) which m moment in (there.0, inr there.1, there.2)

  same_listing : (which : Which) (calls : List Duty) (m : WorldState) → IsListMoment which calls v m → (u : WorldState) × IsListMoment which calls w u × AreSameUnits u m
  same_listing Starts calls m moment = same_clearing Starts calls m moment
  same_listing which [] m is = (w, refl, units_then w v m same (units_as v m is))
  same_listing which (call ∷ calls) m moment = same_clearing which (call ∷ calls) m moment

  same_cleared : (which : Which) (calls : List Duty) → AreSameUnits (with_cleared which calls w) (with_cleared which calls v)
  same_cleared which calls = same_finished (with_calls calls w) (with_calls calls v) (same_calls w v same calls) which

  same_given : (which : Which) (calls : List Duty) → AreSameUnits (with_given which calls w) (with_given which calls v)
  same_given Starts calls = same_cleared Starts calls
  same_given which [] = same
  same_given which (call ∷ calls) = same_cleared which (call ∷ calls)

module _ (calls : Which → List Duty) where
  same_giving : (order : List Which) (w v m : WorldState) → AreSameUnits w v → IsGiveMoment calls order v m → (u : WorldState) × IsGiveMoment calls order w u × AreSameUnits u m
  same_giving [] w v m same is = (w, refl, units_then w v m same (units_as v m is))
  same_giving (which ∷ order) w v m same (inl moment) = let there = same_listing w v same which (calls which) m moment in (there.0, inl there.1, there.2)
  same_giving (which ∷ order) w v m same (inr later) =
      let there = same_giving order (with_given which (calls which) w) (with_given which (calls which) v) m (same_given w v same which (calls which)) later in (there.0, inr there.1, there.2)

  pub same_bringing : (system : Name) (w v m : WorldState) → AreSameUnits w v → IsBringStep system calls v m → (u : WorldState) × IsBringStep system calls w u × AreSameUnits u m
  same_bringing system w v m same (IsBringStep.Waiting is) =
      (w, IsBringStep.Waiting refl, units_then w v m same (record { leaves = λ q own. ap (λ (x : WorldState). get x.leaves q) is; manager = ap (λ (x : WorldState). x.manager) is }))
  same_bringing system w v m same (IsBringStep.Linked is) = (
    with_current system w,
    IsBringStep.Linked refl,
    units_then (with_current system w) (with_current system v) m (same_current w v same system)
        (record { leaves = λ q own. ap (λ (x : WorldState). get x.leaves q) is; manager = ap (λ (x : WorldState). x.manager) is }),
  )
  same_bringing system w v m same (IsBringStep.Giving part) =
      let there = same_giving give_order (with_loaded system w) (with_loaded system v) m (same_loaded w v same system) part in (there.0, IsBringStep.Giving there.1, there.2)
