-- What holds of each list, and of what a decision puts on it.
use Rattle.std.proofs.Common.{◌≡◌, ◌≢◌, ◌⊎◌, ◌&&◌, Bool, true, List, [], ◌∷◌, refl, sym, ap, ◌∙◌, inl, inr}
use Rattle.std.specs.List.{AllByRecursion, list_any}
use Rattle.std.proofs.lemmas.Bool.{and_from, and_parts, or_cases, or_left, or_right}
use Rattle.log_text.specs.declared.lists.Lists.{Lists}
use Rattle.log_text.specs.declared.lists.Which.{Which}
use Rattle.log_text.specs.declared.lists.Which.TheVariants.{Starts, Restarts, Reloads}
use Rattle.log_text.specs.Lists.{list_names, record_order}
use Rattle.log_text.proofs.WhichLemmas.{each_in_order}
use Rattle.owed_plan.specs.Lists.{is_listed, is_put, is_renewed, renews}
use Rattle.switch_names.specs.Names.{Name, has}
use Rattle.unit_decide.specs.declared.decision.Decision.{Decision}
use Rattle.unit_decide.specs.declared.decision.Decision.TheVariants.{Nothing, Reload, Restart, Start, StopStart}

-- ---- the tables of lists

-- a decision that puts its unit on a list is one of these
pub put_elim : (P : Which → Decision → Type 0) → P Starts Start → P Starts StopStart → P Restarts Restart → P Reloads Reload →
    (which : Which) (decision : Decision) → is_put which decision ≡ true → P which decision
put_elim P start stop_start restart reload Starts Start is = start
put_elim P start stop_start restart reload Starts StopStart is = stop_start
put_elim P start stop_start restart reload Restarts Restart is = restart
put_elim P start stop_start restart reload Reloads Reload is = reload
put_elim P start stop_start restart reload which decision is = absurd cc

-- a list is that of the starts, or another
pub starts_or_other : (which : Which) → (which ≡ Starts) ⊎ (which ≢ Starts)
starts_or_other Starts = inl refl
starts_or_other which = inr (λ same. cc same)

-- ---- what follows of any list

pub put_something : (which : Which) (decision : Decision) → is_put which decision ≡ true → decision ≢ Nothing
put_something = put_elim (λ which decision. decision ≢ Nothing) (λ e. cc e) (λ e. cc e) (λ e. cc e) (λ e. cc e)

-- the starts bring no unit up anew
pub renewed_other : (which : Which) → renews which ≡ true → which ≢ Starts
renewed_other which renewed starts = cc (sym renewed ∙ ap renews starts)

-- ---- lists that have a unit

-- what passes a test among some lists
pub any_passing : (test : Which → Bool) (order : List Which) → list_any test order ≡ true → (which : Which) × (test which ≡ true)
any_passing test [] found = absurd cc
any_passing test (which ∷ order) found =
    elim (or_cases (test which) (list_any test order) found) [
      | inl here ↦ (which, here)
      | inr later ↦ any_passing test order later
    ]

all_more : (P Q : Which → Type 0) → ((which : Which) → P which → Q which) → (order : List Which) → AllByRecursion P order → AllByRecursion Q order
all_more P Q more [] all = tt
all_more P Q more (which ∷ order) all = (more which all.0, all_more P Q more order all.1)

each_passes : (test : Which → Bool) (order : List Which) → AllByRecursion (λ which. test which ≡ true → list_any test order ≡ true) order
each_passes test [] = tt
each_passes test (which ∷ order) = (
  λ here. or_left (test which) (list_any test order) here,
  all_more (λ one. test one ≡ true → list_any test order ≡ true) (λ one. test one ≡ true → list_any test (which ∷ order) ≡ true) (λ one passes here. or_right (test which) (list_any test order) (passes here)) order
      (each_passes test order),
)

-- a list that passes a test is found
pub passing : (test : Which → Bool) (which : Which) → test which ≡ true → list_any test record_order ≡ true
passing test = each_in_order (λ which. test which ≡ true → list_any test record_order ≡ true) (each_passes test record_order)

pub passed : (test : Which → Bool) → list_any test record_order ≡ true → (which : Which) × (test which ≡ true)
passed test = any_passing test record_order

module _ (lists : Lists) (unit : Name) where
  pub listed_on : (which : Which) → has (list_names lists which) unit ≡ true → is_listed lists unit ≡ true
  listed_on = passing (λ which. has (list_names lists which) unit)

  pub on_list : is_listed lists unit ≡ true → (which : Which) × (has (list_names lists which) unit ≡ true)
  on_list = passed (λ which. has (list_names lists which) unit)

  pub renewed_on : (which : Which) → renews which ≡ true → has (list_names lists which) unit ≡ true → is_renewed lists unit ≡ true
  renewed_on which renewed found =
      passing (λ one. renews one && has (list_names lists one) unit) which (and_from (renews which) (has (list_names lists which) unit) renewed found)

  pub on_renewing : is_renewed lists unit ≡ true → (which : Which) × (renews which ≡ true) × (has (list_names lists which) unit ≡ true)
  on_renewing found =
      let one = passed (λ which. renews which && has (list_names lists which) unit) found in
      let both = and_parts (renews one.0) (has (list_names lists one.0) unit) one.1 in
      (one.0, both.0, both.1)

  pub renewed_listed : is_renewed lists unit ≡ true → is_listed lists unit ≡ true
  renewed_listed found = let one = on_renewing found in listed_on one.0 one.2
