-- The steps of a switch of the units, and the moments on their way.
use Rattle.std.proofs.Common.{◌≡◌, ◌≢◌, ◌==◌, arith, true, false, List, [], ◌∷◌, ◌++◌, is_some, length, take, Some, refl, ap, subst, ◌∙◌, inl, inr, ⊎_elim}
use Rattle.std.specs.FinMap.{get}
use Rattle.host_trait.specs.declared.leaf.LeafKind.{LeafKind}
use Rattle.host_trait.specs.declared.leaf.LeafKind.TheVariants.{Link}
use Rattle.host_trait.specs.declared.manager_state.ManagerState.{ManagerState}
use Rattle.host_trait.specs.Change.{DaemonReload, IsMoment, definitions_place, finished, loaded_from}
use Rattle.host_trait.specs.Manager.{acted, halted, loading}
use Rattle.host_trait.specs.World.{IsFileAt, Leaves, WorldState, file_bytes, seen, stage, with_leaf, with_manager}
use Rattle.host_trait.proofs.Seen.{other_of, seen_at}
use Rattle.host_trait.proofs.Sound.{get_other}
use Rattle.log_text.specs.declared.lists.Which.{Which}
use Rattle.log_text.specs.declared.lists.Which.TheVariants.{Starts}
use Rattle.log_text.specs.Lists.{block_of}
use Rattle.log_text.specs.Log.{block_text}
use Rattle.owed_log.specs.declared.log_write.LogWrite.{LogWrite}
use Rattle.owed_log.specs.Places.{log_place}
use Rattle.owed_log.specs.Writing.{IsRecordMoment, clearing, recorded}
use Rattle.owed_log.proofs.BesideLemmas.{cleared_seen, clearing_seen}
use Rattle.owed_plan.specs.declared.duty.Duty.{Duty}
use Rattle.owed_plan.specs.Calls.{give_order}
use Rattle.switch_names.specs.Names.{Name}
use Rattle.tree_put.specs.Put.{AreApart, IsOldOrNew}
use Rattle.tree_put.proofs.PutLemmas.{apart_ne}
use Rattle.unit_stage.specs.Acts.{CanPerform, IsPerforming, performed, with_calls}
use Rattle.unit_stage.specs.Steps.{CanLoad, HasLogFor, IsBringMoment, IsBringStep, IsClearingMoment, IsGiveMoment, IsListMoment, IsLoadMoment, IsStopMoment, IsStopStep, with_all_given, with_brought, with_cleared, with_current, with_given, with_loaded}
use Rattle.unit_stage.specs.System.{current_place, definitions_of, system_leaf}
use Rattle.unit_stage.proofs.RecordLemmas.{more_file}

-- ---- calls

pub all_taken : (calls : List Duty) → take (length calls) calls ≡ calls
all_taken [] = refl
all_taken (call ∷ calls) = ap (λ rest. call ∷ rest) (all_taken calls)

-- calls that can be made, split in two
pub can_first : (calls more : List Duty) (manager : ManagerState) → CanPerform (calls ++ more) manager → CanPerform calls manager
can_first [] more manager can = tt
can_first (call ∷ calls) more manager can = (can.0, can_first calls more (acted call.act call.unit manager) can.1)

pub can_then : (calls more : List Duty) (manager : ManagerState) → CanPerform (calls ++ more) manager → CanPerform more (performed calls manager)
can_then [] more manager can = can
can_then (call ∷ calls) more manager can = can_then calls more (acted call.act call.unit manager) can.1

pub manager_seen : (v w : WorldState) → seen v ≡ seen w → v.manager ≡ w.manager
manager_seen v w is = ap (λ (x : WorldState). x.manager) is

pub seen_with_calls : (calls : List Duty) (v w : WorldState) → seen v ≡ seen w → seen (with_calls calls v) ≡ seen (with_calls calls w)
seen_with_calls calls v w is = ap (with_calls calls) is

pub seen_with_cleared : (which : Which) (calls : List Duty) (v w : WorldState) → seen v ≡ seen w → seen (with_cleared which calls v) ≡ seen (with_cleared which calls w)
seen_with_cleared which calls v w is = cleared_seen (with_calls calls v) (with_calls calls w) (seen_with_calls calls v w is) which

pub seen_with_given : (which : Which) (calls : List Duty) (v w : WorldState) → seen v ≡ seen w → seen (with_given which calls v) ≡ seen (with_given which calls w)
seen_with_given Starts calls v w is = seen_with_cleared Starts calls v w is
seen_with_given which [] v w is = is
seen_with_given which (call ∷ calls) v w is = seen_with_cleared which (call ∷ calls) v w is

-- calls in worlds that are equal but for the stage
pub performing_seen : (calls : List Duty) (v w m : WorldState) → seen v ≡ seen w → IsPerforming calls v m → (u : WorldState) × IsPerforming calls w u × (seen m ≡ seen u)
performing_seen calls v w m same (IsPerforming.After count is) =
    (with_calls (take count calls) w, IsPerforming.After count refl, ap seen is ∙ seen_with_calls (take count calls) v w same)
performing_seen calls v w m same (IsPerforming.Within count unit there is) = (
  with_manager (halted unit (performed (take count calls) w.manager)) w,
  IsPerforming.Within count unit there refl,
  ap seen is ∙ ap (λ (x : WorldState). with_manager (halted unit (performed (take count calls) x.manager)) x) same,
)

clearing_as : (which : Which) (calls : List Duty) (v w m : WorldState) → seen v ≡ seen w → IsClearingMoment which calls v m → (u : WorldState) × IsClearingMoment which calls w u × (seen m ≡ seen u)
clearing_as which calls v w m same (inl part) = let there = performing_seen calls v w m same part in (there.0, inl there.1, there.2)
clearing_as which calls v w m same (inr moment) =
    let there = clearing_seen (with_calls calls v) (with_calls calls w) (seen_with_calls calls v w same) which m moment in (there.0, inr there.1, there.2)

listing_as : (which : Which) (calls : List Duty) (v w m : WorldState) → seen v ≡ seen w → IsListMoment which calls v m → (u : WorldState) × IsListMoment which calls w u × (seen m ≡ seen u)
listing_as Starts calls v w m same moment = clearing_as Starts calls v w m same moment
listing_as which [] v w m same is = (w, refl, ap seen is ∙ same)
listing_as which (call ∷ calls) v w m same moment = clearing_as which (call ∷ calls) v w m same moment

-- ---- what is recorded, and the stops

pub recording : (write : LogWrite) (stops : List Duty) (w m : WorldState) → IsRecordMoment write w m → IsStopMoment write stops w m
recording write stops w m moment = (m, IsStopStep.Recording moment, refl)

pub stopping : (write : LogWrite) (stops : List Duty) (w v m : WorldState) → seen v ≡ seen (recorded write w) → IsPerforming stops v m → IsStopMoment write stops w m
stopping write stops w v m came moment = let there = performing_seen stops v (recorded write w) m came moment in (there.0, IsStopStep.Stopping there.1, there.2)

-- ---- a list is cleared after the last of its calls

pub clearing_after : (which : Which) (calls : List Duty) (w v m : WorldState) → v ≡ with_calls calls w → IsMoment (clearing which) v m → IsClearingMoment which calls w m
clearing_after which calls w v m made moment = inr (subst (λ x. IsMoment (clearing which) x m) made moment)

-- before its calls a list is as it was
none_given : (which : Which) (calls : List Duty) (w : WorldState) → IsListMoment which calls w w
none_given Starts calls w = inl (IsPerforming.After 0 refl)
none_given which [] w = refl
none_given which (call ∷ calls) w = inl (IsPerforming.After 0 refl)

-- what has calls is given by them, and so are the starts
pub some_given : (which : Which) (calls : List Duty) (w : WorldState) → (which ≢ Starts → (length calls == 0) ≡ false) → with_cleared which calls w ≡ with_given which calls w
some_given Starts calls w some = refl
some_given which [] w some = absurd (let no : true ≡ false = some (λ same. cc same) in cc no)
some_given which (call ∷ calls) w some = refl

pub some_listed : (which : Which) (calls : List Duty) (w m : WorldState) → (which ≢ Starts → (length calls == 0) ≡ false) → IsClearingMoment which calls w m → IsListMoment which calls w m
some_listed Starts calls w m some moment = moment
some_listed which [] w m some moment = absurd (let no : true ≡ false = some (λ same. cc same) in cc no)
some_listed which (call ∷ calls) w m some moment = moment

pub some_logged : (which : Which) (calls : List Duty) (leaves : Leaves) → (length calls == 0) ≡ false → which ≢ Starts → HasLogFor which calls leaves → IsFileAt leaves log_place
some_logged Starts calls leaves some other log = absurd (other refl)
some_logged which [] leaves some other log = absurd cc
some_logged which (call ∷ calls) leaves some other log = log

-- and another list that has none changes nothing
pub same_given : (which : Which) (calls : List Duty) (w : WorldState) → which ≢ Starts → (length calls == 0) ≡ true → w ≡ with_given which calls w
same_given Starts calls w other none = absurd (other refl)
same_given which [] w other none = refl
same_given which (call ∷ calls) w other none = absurd (let n : false ≡ true = grind arith in cc)

pub same_listed : (which : Which) (calls : List Duty) (w : WorldState) → which ≢ Starts → (length calls == 0) ≡ true → IsListMoment which calls w w
same_listed which calls w other none = none_given which calls w

-- the log is a file still
pub given_file : (which : Which) (calls : List Duty) (w : WorldState) → which ≢ Starts → IsFileAt w.leaves log_place → IsFileAt (with_given which calls w).leaves log_place
given_file Starts calls w other file = absurd (other refl)
given_file which [] w other file = file
given_file which (call ∷ calls) w other file = more_file w.leaves log_place (block_text (block_of which [])) file

pub given_log : (which later : Which) (calls more : List Duty) (w : WorldState) → which ≢ Starts → HasLogFor later more w.leaves → HasLogFor later more (with_given which calls w).leaves
given_log which Starts calls more w other log = tt
given_log which later calls [] w other log = tt
given_log which later calls (call ∷ more) w other log = given_file which calls w other log

pub log_as : (which : Which) (calls : List Duty) (v w : Leaves) → get v log_place ≡ get w log_place → HasLogFor which calls w → HasLogFor which calls v
log_as Starts calls v w same log = tt
log_as which [] v w same log = tt
log_as which (call ∷ calls) v w same log = ap (λ o. is_some (file_bytes o)) same ∙ log

-- ---- the calls of several lists

module _ (calls : Which → List Duty) where
  -- before the calls nothing is given
  pub nothing_given : (order : List Which) (w : WorldState) → IsGiveMoment calls order w w
  nothing_given [] w = refl
  nothing_given (which ∷ order) w = inl (none_given which (calls which) w)

  -- after some lists, a moment of those that follow
  pub given_then : (done left : List Which) (w m : WorldState) → IsGiveMoment calls left (with_all_given calls done w) m → IsGiveMoment calls (done ++ left) w m
  given_then [] left w m moment = moment
  given_then (which ∷ done) left w m moment = inr (given_then done left (with_given which (calls which) w) m moment)

  -- and one more
  pub one_more_given : (done : List Which) (which : Which) (w : WorldState) → with_given which (calls which) (with_all_given calls done w) ≡ with_all_given calls (done ++ which ∷ []) w
  one_more_given [] which w = refl
  one_more_given (one ∷ done) which w = one_more_given done which (with_given one (calls one) w)

  -- in worlds that are equal but for the stage
  pub seen_all_given : (order : List Which) (v x : WorldState) → seen v ≡ seen x → seen (with_all_given calls order v) ≡ seen (with_all_given calls order x)
  seen_all_given [] v x same = same
  seen_all_given (which ∷ order) v x same = seen_all_given order (with_given which (calls which) v) (with_given which (calls which) x) (seen_with_given which (calls which) v x same)

  giving_seen : (order : List Which) (v x m : WorldState) → seen v ≡ seen x → IsGiveMoment calls order v m → (u : WorldState) × IsGiveMoment calls order x u × (seen m ≡ seen u)
  giving_seen [] v x m same is = (x, refl, ap seen is ∙ same)
  giving_seen (which ∷ order) v x m same (inl moment) = let there = listing_as which (calls which) v x m same moment in (there.0, inl there.1, there.2)
  giving_seen (which ∷ order) v x m same (inr later) =
      let there = giving_seen order (with_given which (calls which) v) (with_given which (calls which) x) m (seen_with_given which (calls which) v x same) later in (there.0, inr there.1, there.2)

-- ---- the link, and what is loaded

pub current_apart : AreApart current_place stage
unfolding current_place stage
current_apart = record { other = refl; line = refl }

definitions_current : AreApart definitions_place current_place
unfolding definitions_place current_place
definitions_current = record { other = refl; line = refl }

definitions_stage : AreApart definitions_place stage
unfolding definitions_place stage
definitions_stage = record { other = refl; line = refl }

module _ (system : Name) (w : WorldState) (can : CanLoad system w) where
  definitions_stand : (v : WorldState) → seen v ≡ seen (with_current system w) → get v.leaves definitions_place ≡ Some (Link (definitions_of system))
  definitions_stand v came =
      seen_at v (with_current system w) came definitions_place (apart_ne definitions_place stage definitions_stage)
      ∙ get_other w.leaves current_place definitions_place (system_leaf system) (other_of definitions_place current_place (apart_ne definitions_place current_place definitions_current))
      ∙ can.defined

  pub loaded_world : (v u : WorldState) → seen v ≡ seen (with_current system w) → u ≡ finished DaemonReload v → seen u ≡ seen (with_loaded system w)
  loaded_world v u came done =
      ap seen done
      ∙ ap (λ leaf. with_manager (loading (loaded_from leaf) v.manager) (seen v)) (definitions_stand v came)
      ∙ ap (λ (x : WorldState). with_manager (loading (definitions_of system) x.manager) x) came

  pub linking : (leaf : LeafKind) (m : WorldState) → leaf ≡ system_leaf system → IsOldOrNew current_place leaf w m → IsLoadMoment system w m
  linking leaf m is moment = ⊎_elim (λ old. inl old) (λ new. inr (inl (new ∙ ap (λ l. seen (with_leaf current_place l w)) is))) moment

  pub loads : (v m : WorldState) → seen v ≡ seen (with_current system w) → IsMoment DaemonReload v m → IsLoadMoment system w m
  loads v m came moment = ⊎_elim
      (λ old. inr (inl (ap seen old ∙ came)))
      (λ later. ⊎_elim (λ done. inr (inr (loaded_world v m came done))) (λ none. absurd none) later) moment

-- ---- all after the stops

module _ (system : Name) (calls : Which → List Duty) (w : WorldState) where
  pub loading_brings : (m : WorldState) → IsLoadMoment system w m → IsBringMoment system calls w m
  loading_brings m moment = ⊎_elim
      (λ same. (w, IsBringStep.Waiting refl, same))
      (λ later. ⊎_elim
      (λ linked. (with_current system w, IsBringStep.Linked refl, linked))
      (λ loaded. (with_loaded system w, IsBringStep.Giving (nothing_given calls give_order (with_loaded system w)), loaded)) later) moment

  pub giving_brings : (v m : WorldState) → seen v ≡ seen (with_loaded system w) → IsGiveMoment calls give_order v m → IsBringMoment system calls w m
  giving_brings v m came moment = let there = giving_seen calls give_order v (with_loaded system w) m came moment in (there.0, IsBringStep.Giving there.1, there.2)

  pub brought_world : (v u : WorldState) → seen v ≡ seen (with_loaded system w) → u ≡ with_all_given calls give_order v → seen u ≡ seen (with_brought system calls w)
  brought_world v u came made = ap seen made ∙ seen_all_given calls give_order v (with_loaded system w) came
