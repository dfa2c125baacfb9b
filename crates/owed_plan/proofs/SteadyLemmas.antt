-- What was steady is so after some of the stops.
use Rattle.std.proofs.Common.{◌≡◌, ◌≢◌, IsTrue, refl, inl, inr}
use Rattle.host_trait.specs.declared.unit_state.State.{State}
use Rattle.owed_plan.specs.Law.{IsSound}
use Rattle.owed_plan.specs.Lists.{pending}
use Rattle.log_text.specs.declared.lists.Lists.{Lists}
use Rattle.log_text.specs.declared.lists.Which.{Which}
use Rattle.log_text.specs.declared.lists.Which.TheVariants as kinds
use Rattle.log_text.specs.Lists.{list_names}
use Rattle.owed_plan.specs.Owed.{Decides, IsBySelf, Waits, has_live}
use Rattle.owed_plan.specs.Steady.{IsSteady, IsStoppedForGood, SteadyLaw}
use Rattle.owed_plan.specs.Systems.{Systems}
use Rattle.owed_plan.proofs.CoreLemmas.{listed_before, pull_from, start_pulled}
use Rattle.owed_plan.proofs.KindLemmas.{put_elim}
use Rattle.owed_plan.proofs.PartLemmas.{IsPartly}
use Rattle.owed_plan.proofs.PrefixLemmas.{is_partly}
use Rattle.switch_names.specs.declared.unit_kind.UnitKind.TheVariants.{Target}
use Rattle.unit_decide.proofs.TableLemmas.{target_not_reloaded, target_not_restarted}
use Rattle.switch_names.specs.Names.{Name, has}

-- no target is on another list than the starts
pub no_target : (systems : Systems) (states : Name → State) (lists : Lists) → IsSteady systems states lists → (which : Which) → which ≢ kinds.Starts → (unit : Name) → (systems.facts unit).kind ≡ Target →
    Waits systems states lists which unit → ⊥
no_target systems states lists steady which other unit target (Waits.BySelf (IsBySelf.ByDecision decision puts decides)) =
    let facts = systems.facts unit in
    let live = has_live systems states lists unit in
    put_elim (λ one made. one ≢ kinds.Starts → Decides systems states lists unit made → ⊥) (λ none _. none refl) (λ none _. none refl) (λ _ decided. target_not_restarted facts live target decided.row)
    (λ _ decided. target_not_reloaded facts live target decided.row) which decision puts other decides
no_target systems states lists steady which other unit target (Waits.BySelf (IsBySelf.ByList listed defined)) = steady.others which other unit listed target
no_target systems states lists steady which other unit target (Waits.ForOthers starts by) = other starts

module _ (systems : Systems) (states : Name → State) (lists : Lists) (later : Name → State) (kept : Lists) (sound : IsSound systems) (partly : IsPartly systems states lists later kept) (steady : IsSteady systems states lists) where
  pending_steady : (unit : Name) → IsTrue (has (pending kept) unit) → IsStoppedForGood systems unit → ⊥
  pending_steady unit listed for_good =
      steady.pull unit (start_pulled systems states lists sound unit for_good.1 (listed_before systems states lists later kept sound partly kinds.Starts unit listed for_good.0)) for_good

  others_steady : (which : Which) → which ≢ kinds.Starts → (unit : Name) → IsTrue (has (list_names kept which) unit) → (systems.facts unit).kind ≡ Target → ⊥
  others_steady which other unit listed target =
      elim (partly.from which unit listed) [
        | inl was ↦ steady.others which other unit was target
        | inr owes ↦ no_target systems states lists steady which other unit target owes
      ]

  stays_steady : IsSteady systems later kept
  stays_steady = record {
    pull = λ unit pulled. steady.pull unit (pull_from systems states lists later kept sound partly unit pulled);
    starts = pending_steady;
    others = others_steady;
  }

pub steady_law : SteadyLaw
steady_law systems states later lists kept owed count sound is_owed are_stopped is_recorded steady =
    stays_steady systems states lists later kept sound (is_partly systems states later lists kept owed count is_owed are_stopped is_recorded) steady
