-- How a switch of the units goes on from one world to another.
use Rattle.std.proofs.Common.{◌≡◌, ◌++◌, Bool, List, [], Option, None, Some, append_assoc, sym, ap, ◌∙◌, inl, inr, refl, ⊎_elim}
use Rattle.std.proofs.lemmas.Bool.{or_left, or_right}
use Rattle.std.proofs.lemmas.List.{append-nil}
use Rattle.std.proofs.lemmas.List.Folds.{list_any-append}
use Rattle.host_trait.specs.declared.entry.Entry.{Entry}
use Rattle.host_trait.specs.declared.manager_state.ManagerState.{ManagerState}
use Rattle.host_trait.specs.States.{state_of}
use Rattle.host_trait.specs.World.{WorldState}
use Rattle.owed_plan.specs.Lists.{Debt}
use Rattle.switch_names.specs.Names.{Name}
use Rattle.unit_stage.specs.Owes.{HasEntered, HasGoneOn, IsPaidTo, OwesTo, OwesUnitTo, pays}
use Rattle.unit_stage.proofs.PayLemmas.{all_implied, all_joined}

module _ (start_up : Bool) (to : Option Name) where
  -- it goes on without a call, to where the same is owed
  pub no_call : (w m : WorldState) → m.manager ≡ w.manager → ((debt : Debt) (unit : Name) → OwesTo start_up to w debt unit → OwesTo start_up to m debt unit) →
      ((unit : Name) → OwesUnitTo start_up to m unit → OwesUnitTo start_up to w unit) → HasGoneOn start_up to w m
  no_call w m same owed no_more = record {
    since = record {
      entered = [];
      journal = ap (λ (x : ManagerState). x.journal) same ∙ sym (append-nil w.manager.journal);
      owed_alone = tt;
      others = λ unit none. ap (λ (x : ManagerState). state_of x.states unit) same;
    };
    paid_or_owed = λ debt unit owes. inr (owed debt unit owes);
    no_more_owed = no_more;
  }

  -- it goes on from where it began
  pub begins : (w : WorldState) → HasGoneOn start_up to w w
  begins w = no_call w w refl (λ debt unit owes. owes) (λ unit owes. owes)

-- what some entries pay, more entries pay
pub paid_before : (to : Option Name) (debt : Debt) (unit : Name) (entries more : List Entry) → IsPaidTo to debt unit entries → IsPaidTo to debt unit (entries ++ more)
paid_before None debt unit entries more paid = absurd paid
paid_before (Some system) debt unit entries more paid = list_any-append (pays system debt unit) entries more ∙ or_left _ _ paid

pub paid_since : (to : Option Name) (debt : Debt) (unit : Name) (entries more : List Entry) → IsPaidTo to debt unit more → IsPaidTo to debt unit (entries ++ more)
paid_since None debt unit entries more paid = absurd paid
paid_since (Some system) debt unit entries more paid = list_any-append (pays system debt unit) entries more ∙ or_right _ _ paid

module _ (start_up : Bool) (to : Option Name) (first w m : WorldState) (before : HasGoneOn start_up to first w) where
  -- what has been entered from there has been entered from the first world
  abbrev pub entered_on : HasEntered start_up to w m → HasEntered start_up to first m
  entered_on after = record {
    entered = before.since.entered ++ after.entered;
    journal = after.journal ∙ ap (λ entries. entries ++ after.entered) before.since.journal ∙ append_assoc first.manager.journal before.since.entered after.entered;
    owed_alone =
        all_joined (λ entry. OwesUnitTo start_up to first entry.unit) before.since.entered after.entered before.since.owed_alone
        (all_implied (λ (entry : Entry). OwesUnitTo start_up to w entry.unit) (λ entry. OwesUnitTo start_up to first entry.unit) (λ entry. before.no_more_owed entry.unit) after.entered after.owed_alone);
    others = λ unit none. after.others unit (λ owes. none (before.no_more_owed unit owes)) ∙ before.since.others unit none;
  }

  -- what goes on from there has gone on from the first world
  pub goes_on : HasGoneOn start_up to w m → HasGoneOn start_up to first m
  goes_on after = record {
    since = entered_on after.since;
    paid_or_owed = λ debt unit owes. ⊎_elim
        (λ paid. inl (paid_before to debt unit before.since.entered after.since.entered paid))
        (λ still. ⊎_elim (λ paid. inl (paid_since to debt unit before.since.entered after.since.entered paid)) (λ now. inr now) (after.paid_or_owed debt unit still))
        (before.paid_or_owed debt unit owes);
    no_more_owed = λ unit owes. before.no_more_owed unit (after.no_more_owed unit owes);
  }
