-- Without units nothing is pulled.
use Rattle.std.proofs.Common.{◌≡◌, List, [], Option, is_some, sym, ap, subst, ◌∙◌}
use Rattle.host_trait.specs.declared.unit_state.State.{State}
use Rattle.host_trait.proofs.Orders.{none_sorted}
use Rattle.log_text.specs.declared.lists.Lists.{Lists}
use Rattle.owed_plan.specs.Pull.{IsRoot, Pulled}
use Rattle.owed_plan.specs.Systems.{IsDefined, systems_in}
use Rattle.owed_plan.proofs.SystemLemmas.{none_kept}
use Rattle.switch_names.specs.Names.{IsListOf, Name}
use Rattle.unit_decide.proofs.SocketLemmas.{none_found}
use Rattle.unit_defs.specs.declared.unit.Unit.{Unit}
use Rattle.unit_defs.specs.Pull.{Reached}
use Rattle.unit_text.specs.declared.assignment.Assignment.{Assignment}

module _ (states : Name → State) (lists : Lists) where
  undefined : (unit : Name) → IsDefined (systems_in [] []) unit → ⊥
  undefined unit defined = cc (sym (ap (λ (o : Option (List Assignment)). is_some o) (none_kept unit)) ∙ defined)

  no_root : (unit : Name) → IsRoot (systems_in [] []) states lists unit → ⊥
  no_root unit (IsRoot.Running defined target active may_start) = undefined unit defined
  no_root unit (IsRoot.Pending defined target listed) = undefined unit defined

  no_pull : (unit : Name) → Pulled (systems_in [] []) states lists unit → ⊥
  no_pull unit (Reached.FromRoot at root) = no_root unit root
  no_pull unit (Reached.FromWant at by pulled wants) = no_pull by pulled

  no_list : IsListOf [] (Pulled (systems_in [] []) states lists)
  no_list = record {
    sorted = none_sorted;
    exact = λ unit. (λ found. absurd (none_found unit found), λ pulled. absurd (no_pull unit pulled));
  }

  pub none_pulled : (units : List Unit) (names : List Name) → units ≡ [] → names ≡ [] → IsListOf names (Pulled (systems_in units units) states lists)
  none_pulled units names none empty =
      subst (λ (us : List Unit). IsListOf names (Pulled (systems_in us us) states lists)) (sym none)
      (subst (λ (ns : List Name). IsListOf ns (Pulled (systems_in [] []) states lists)) (sym empty) no_list)
