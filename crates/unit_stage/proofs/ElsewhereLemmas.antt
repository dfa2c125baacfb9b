-- The steps of a switch of the units change nothing but the places that its part owns.
use Rattle.std.proofs.Common.{◌≡◌, ◌≢◌, ℕ, true, false, List, [], ◌∷◌, take, refl, sym, ap, subst, ◌∙◌, inl, inr}
use Rattle.std.proofs.lemmas.Bool.{both_ways}
use Rattle.std.specs.FinMap.{get}
use Rattle.std.specs.List.{list_any}
use Rattle.host_trait.specs.World.{Leaves, WorldState, stage}
use Rattle.host_trait.proofs.Seen.{other_of}
use Rattle.host_trait.proofs.Sound.{get_other}
use Rattle.log_text.specs.declared.lists.Which.{Which}
use Rattle.log_text.specs.declared.lists.Which.TheVariants.{Starts, Restarts, Reloads}
use Rattle.owed_lists.specs.Lists.{place_of}
use Rattle.owed_log.specs.declared.log_write.LogWrite.{LogWrite}
use Rattle.owed_log.specs.Places.{log_place, old_places}
use Rattle.owed_log.specs.Writing.{IsRecordMoment, recorded}
use Rattle.owed_log.proofs.BesideLemmas.{clearing_beside, record_beside, recorded_beside}
use Rattle.owed_log.proofs.ContentLemmas.{apart_from}
use Rattle.owed_plan.specs.declared.duty.Duty.{Duty}
use Rattle.owed_plan.specs.Calls.{give_order}
use Rattle.switch_names.specs.Names.{Name, is_name}
use Rattle.unit_stage.specs.Acts.{IsPerforming, with_calls}
use Rattle.unit_stage.specs.Owned.{owns_units}
use Rattle.unit_stage.specs.Steps.{IsBringStep, IsClearingMoment, IsGiveMoment, IsListMoment, IsStopStep, with_cleared, with_given, with_loaded}
use Rattle.unit_stage.specs.System.{current_place, system_leaf}

-- ---- the places

pub own_current : owns_units current_place ≡ true
unfolding current_place log_place place_of
own_current = refl

pub own_log : owns_units log_place ≡ true
unfolding current_place log_place place_of
own_log = refl

pub own_list : (which : Which) → owns_units (place_of which) ≡ true
unfolding current_place log_place place_of
own_list Starts = refl
own_list Restarts = refl
own_list Reloads = refl

pub stage_not_own : owns_units stage ≡ false
unfolding current_place log_place place_of stage
stage_not_own = refl

-- what isn't owned is another place than one that is
pub other_place : (place q : Name) → owns_units place ≡ true → owns_units q ≡ false → q ≢ place
other_place place q own none same = both_ways _ none (subst (λ x. owns_units x ≡ true) (sym same) own)

-- ---- the log and the lists

-- what isn't owned is at no place of an older program's lists
not_old : (q : Name) → owns_units q ≡ false → (count : ℕ) → list_any (is_name q) (take count old_places) ≡ false
not_old q none count = apart_from q (λ which. other_of q (place_of which) (other_place (place_of which) q (own_list which) none)) count

module _ (write : LogWrite) (w : WorldState) (q : Name) (none : owns_units q ≡ false) (ne : q ≢ stage) where
  not_log : q ≢ log_place
  not_log = other_place log_place q own_log none

  pub lists_elsewhere : get (recorded write w).leaves q ≡ get w.leaves q
  lists_elsewhere = recorded_beside q ne not_log (not_old q none) write w

  record_elsewhere : (m : WorldState) → IsRecordMoment write w m → get m.leaves q ≡ get w.leaves q
  record_elsewhere m moment = record_beside q ne not_log (not_old q none) write w m moment

-- ---- calls

pub leaves_performing : (calls : List Duty) (w m : WorldState) → IsPerforming calls w m → m.leaves ≡ w.leaves
leaves_performing calls w m (IsPerforming.After count is) = ap (λ (x : WorldState). x.leaves) is
leaves_performing calls w m (IsPerforming.Within count unit there is) = ap (λ (x : WorldState). x.leaves) is

at_of : (v w : Leaves) (q : Name) → v ≡ w → get v q ≡ get w q
at_of v w q same = ap (λ l. get l q) same

-- ---- the steps

pub stop_elsewhere : (write : LogWrite) (stops : List Duty) (w u : WorldState) (q : Name) → owns_units q ≡ false → q ≢ stage → IsStopStep write stops w u → get u.leaves q ≡ get w.leaves q
stop_elsewhere write stops w u q none ne (IsStopStep.Recording moment) = record_elsewhere write w q none ne u moment
stop_elsewhere write stops w u q none ne (IsStopStep.Stopping part) = at_of u.leaves (recorded write w).leaves q (leaves_performing stops (recorded write w) u part) ∙ lists_elsewhere write w q none ne

module _ (q : Name) (none : owns_units q ≡ false) where
  beside_log : q ≢ log_place
  beside_log = other_place log_place q own_log none

  clearing_elsewhere : (which : Which) (calls : List Duty) (w u : WorldState) → IsClearingMoment which calls w u → get u.leaves q ≡ get w.leaves q
  clearing_elsewhere which calls w u (inl part) = at_of u.leaves w.leaves q (leaves_performing calls w u part)
  clearing_elsewhere which calls w u (inr moment) = clearing_beside which (with_calls calls w) u q beside_log moment

  list_elsewhere : (which : Which) (calls : List Duty) (w u : WorldState) → IsListMoment which calls w u → get u.leaves q ≡ get w.leaves q
  list_elsewhere Starts calls w u moment = clearing_elsewhere Starts calls w u moment
  list_elsewhere which [] w u is = ap (λ (x : WorldState). get x.leaves q) is
  list_elsewhere which (call ∷ calls) w u moment = clearing_elsewhere which (call ∷ calls) w u moment

  cleared_elsewhere : (which : Which) (calls : List Duty) (w : WorldState) → get (with_cleared which calls w).leaves q ≡ get w.leaves q
  cleared_elsewhere which calls w = clearing_beside which (with_calls calls w) (with_cleared which calls w) q beside_log (inr (inl refl))

  given_elsewhere : (which : Which) (calls : List Duty) (w : WorldState) → get (with_given which calls w).leaves q ≡ get w.leaves q
  given_elsewhere Starts calls w = cleared_elsewhere Starts calls w
  given_elsewhere which [] w = refl
  given_elsewhere which (call ∷ calls) w = cleared_elsewhere which (call ∷ calls) w

  loaded_elsewhere : (system : Name) (w : WorldState) → get (with_loaded system w).leaves q ≡ get w.leaves q
  loaded_elsewhere system w = get_other w.leaves current_place q (system_leaf system) (other_of q current_place (other_place current_place q own_current none))

  module _ (calls : Which → List Duty) where
    give_elsewhere : (order : List Which) (w u : WorldState) → IsGiveMoment calls order w u → get u.leaves q ≡ get w.leaves q
    give_elsewhere [] w u is = ap (λ (x : WorldState). get x.leaves q) is
    give_elsewhere (which ∷ order) w u (inl moment) = list_elsewhere which (calls which) w u moment
    give_elsewhere (which ∷ order) w u (inr later) = give_elsewhere order (with_given which (calls which) w) u later ∙ given_elsewhere which (calls which) w

    pub bring_elsewhere : (system : Name) (w u : WorldState) → IsBringStep system calls w u → get u.leaves q ≡ get w.leaves q
    bring_elsewhere system w u (IsBringStep.Waiting is) = ap (λ (x : WorldState). get x.leaves q) is
    bring_elsewhere system w u (IsBringStep.Linked is) = ap (λ (x : WorldState). get x.leaves q) is ∙ loaded_elsewhere system w
    bring_elsewhere system w u (IsBringStep.Giving part) = give_elsewhere give_order (with_loaded system w) u part ∙ loaded_elsewhere system w
