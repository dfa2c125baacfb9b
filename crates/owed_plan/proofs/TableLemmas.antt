-- What the lists other than that of the starts share, and the act by which a unit of each list is given what it waits for.
use Rattle.std.proofs.Common.{◌≡◌, ◌≢◌, ◌&&◌, Bool, false, List, if◌then◌else◌, not, refl, ap}
use Rattle.std.specs.List.{list_any}
use Rattle.std.proofs.lemmas.Bool.{both_ways, false_from_ne_true}
use Rattle.host_trait.specs.declared.entry.Act.TheVariants.{Reload, Start}
use Rattle.host_trait.specs.declared.unit_state.State.{State}
use Rattle.host_trait.specs.Manager.{is_active}
use Rattle.log_text.specs.declared.lists.Lists.{Lists}
use Rattle.log_text.specs.declared.lists.Which.{Which}
use Rattle.log_text.specs.declared.lists.Which.TheVariants.{Starts, Reloads}
use Rattle.log_text.specs.Lists.{list_names, record_order, with_list}
use Rattle.owed_plan.specs.Calls.{act_on}
use Rattle.owed_plan.specs.Lists.{is_starts}
use Rattle.owed_plan.proofs.KindLemmas.{passing}
use Rattle.switch_names.specs.Names.{Name, has}

-- where no list passes a test, each fails it
pub each_fails : (test : Which → Bool) → list_any test record_order ≡ false → (which : Which) → test which ≡ false
each_fails test none which = false_from_ne_true (test which) (λ passes. both_ways (list_any test record_order) none (passing test which passes))

-- ---- the lists other than that of the starts

pub other_from_test : (which : Which) → is_starts which ≡ false → which ≢ Starts
other_from_test which is same = both_ways (is_starts which) is (ap is_starts same)

pub other_to_test : (which : Which) → which ≢ Starts → is_starts which ≡ false
other_to_test Starts other = absurd (other refl)
other_to_test _ other = refl

-- other starts leave them as they are
pub other_names : (lists : Lists) (starts : List Name) (which : Which) → which ≢ Starts → list_names (with_list lists Starts starts) which ≡ list_names lists which
other_names lists starts Starts other = absurd (other refl)
other_names lists starts _ other = refl

-- ---- the act on a unit of a list

-- the stops matter by whether they have the unit
pub same_act : (which : Which) (states : Name → State) (one other : List Name) (unit : Name) → has one unit ≡ has other unit → act_on which states one unit ≡ act_on which states other unit
same_act Reloads states one other unit same = ap (λ is. if is_active (states unit) && not is then Reload else Start) same
same_act _ states one other unit same = refl
