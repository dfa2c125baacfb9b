-- The calls of any list: the acts by which its units are given what they wait for, and the order of the lists.
use Rattle.std.proofs.Common.{◌≡◌, ◌≢◌, ◌⊎◌, ◌&&◌, ◌++◌, ◌∷◌, ◌<◌, ℕ, zero, suc, Bool, true, false, not, List, [], if◌then◌else◌, arith, drop, get_or, length, take, refl, sym, ap, subst, ◌∙◌, inl, inr}
use Rattle.std.specs.Cmp.{both_ways}
use Rattle.std.proofs.lemmas.Bool.{or_left, or_right}
use Rattle.std.proofs.lemmas.List.{append-nil, append_assoc}
use Rattle.std.proofs.lemmas.List.Concat.{flat_map-append}
use Rattle.std.proofs.lemmas.List.Folds.{list_any-append}
use Rattle.std.specs.List.{AllByRecursion, flat_map, list_any}
use Rattle.host_trait.specs.declared.entry.Act.{Act}
use Rattle.host_trait.specs.declared.entry.Act.TheVariants.{Reload, Restart, Start}
use Rattle.host_trait.specs.declared.unit_state.State.{State}
use Rattle.host_trait.specs.declared.unit_state.State.TheVariants.{Active, Inactive}
use Rattle.host_trait.specs.Manager.{is_active}
use Rattle.host_trait.proofs.StateMaps.{active_from_test}
use Rattle.log_text.specs.declared.lists.Lists.{Lists}
use Rattle.log_text.specs.declared.lists.Which.{Which}
use Rattle.log_text.specs.declared.lists.Which.TheVariants.{Starts, Restarts, Reloads}
use Rattle.log_text.specs.Lists.{list_names, record_order, with_list}
use Rattle.owed_plan.specs.declared.owed.Owed.{Owed}
use Rattle.owed_plan.specs.Calls.{act_on, give_order}
use Rattle.owed_plan.specs.Law.{stopped}
use Rattle.owed_plan.specs.Lists.{renews}
use Rattle.owed_plan.proofs.KindLemmas.{any_passing, passed, passing}
use Rattle.owed_plan.specs.declared.duty.Duty.{Duty}
use Rattle.switch_names.specs.Names.{Name, has}
use Rattle.unit_stage.specs.Owes.{is_stop}
use Rattle.unit_stage.specs.Order.{ArrangesStarts}

-- ---- the tables of lists

-- a list has these names, or it is as it was
pub set_list : (lists : Lists) (which : Which) (names : List Name) (one : Which) →
    (list_names (with_list lists which names) one ≡ list_names lists one) ⊎ ((list_names (with_list lists which names) one ≡ names) × (which ≡ one))
set_list lists Starts names Starts = inr (refl, refl)
set_list lists Restarts names Restarts = inr (refl, refl)
set_list lists Reloads names Reloads = inr (refl, refl)
set_list lists which names one = inl refl

-- how many lists are given before one
abbrev turn_number : Which → ℕ
turn_number Reloads = 0
turn_number Restarts = 1
turn_number Starts = 2

-- the lists that are given before one, and those after it
abbrev pub given_before : Which → List Which
given_before which = take (turn_number which) give_order

abbrev pub given_after : Which → List Which
given_after which = drop (suc (turn_number which)) give_order

-- something holds at the turn of each list, where these have been given and these are left
abbrev pub AllTurns : (List Which → Which → List Which → Type 0) → List Which → List Which → Type 0
AllTurns P done [] = Unit {0}
AllTurns P done (which ∷ left) = P done which left × AllTurns P (done ++ which ∷ []) left

pub at_turn : (P : List Which → Which → List Which → Type 0) → AllTurns P [] give_order → (which : Which) → P (given_before which) which (given_after which)
at_turn P all Reloads = all.0
at_turn P all Restarts = all.1.0
at_turn P all Starts = all.1.1.0

pub by_turns : (P : List Which → Which → List Which → Type 0) → ((which : Which) → P (given_before which) which (given_after which)) → AllTurns P [] give_order
by_turns P each = (each Reloads, (each Restarts, (each Starts, tt)))

-- at the turn of a list it has not been given, nor have the starts
abbrev pub AreOthers : List Which → Which → List Which → Type 0
AreOthers done which left = AllByRecursion (λ one. (one ≢ which) × (one ≢ Starts)) done

pub are_others : AllTurns AreOthers [] give_order
are_others = (tt, (((λ same. cc same, λ same. cc same), tt), (((λ same. cc same, λ same. cc same), ((λ same. cc same, λ same. cc same), tt)), tt)))

-- the acts of a list that brings units up anew are restarts, and others start a unit or reload one that is up
abbrev pub IsActBy : Bool → State → Act → Type 0
IsActBy true was act = act ≡ Restart
IsActBy false was act = (act ≡ Start) ⊎ ((act ≡ Reload) × (was ≡ Active))

-- a unit is reloaded where it is up after the stops, and started elsewhere
reload_by : (active stops : Bool) (state : State) → (active ≡ true → state ≡ Active) → IsActBy false (if stops then Inactive else state) (if active && not stops then Reload else Start)
reload_by true false state up = inr (refl, up refl)
reload_by true true state up = inl refl
reload_by false stops state up = inl refl

pub act_by : (which : Which) (states : Name → State) (stops : List Name) (unit : Name) → IsActBy (renews which) (stopped stops states unit) (act_on which states stops unit)
act_by Starts states stops unit = inl refl
act_by Restarts states stops unit = refl
act_by Reloads states stops unit = reload_by (is_active (states unit)) (has stops unit) (states unit) (active_from_test (states unit))

-- where these lists have been given, and the others are in this order, no unit is reloaded once some have been brought up anew
abbrev pub CanFollow : (Name → State) → List Name → List Which → List Which → Type 0
CanFollow states stops done [] = Unit {0}
CanFollow states stops done (which ∷ order) =
    ((unit : Name) → act_on which states stops unit ≡ Reload → AllByRecursion (λ one. renews one ≡ false) done) × CanFollow states stops (done ++ which ∷ []) order

pub can_follow : (states : Name → State) (stops : List Name) → CanFollow states stops [] give_order
can_follow states stops = (λ unit reload. tt, (λ unit reload. absurd cc, (λ unit reload. absurd cc, tt)))

-- ---- the turns of lists

-- what holds of each list holds of it at its turn
all_turns : (P : Which → Type 0) (done left : List Which) → AllByRecursion P left → AllTurns (λ _ which _. P which) done left
all_turns P done [] all = tt
all_turns P done (which ∷ left) all = (all.0, all_turns P (done ++ which ∷ []) left all.1)

pub each_given : (P : Which → Type 0) → AllByRecursion P give_order → (which : Which) → P which
each_given P all = at_turn (λ _ which _. P which) (all_turns P [] give_order all)

all_split : (done left : List Which) → give_order ≡ done ++ left → AllTurns (λ before which after. give_order ≡ before ++ which ∷ after) done left
all_split done [] is = tt
all_split done (which ∷ left) is = (is, all_split (done ++ which ∷ []) left (is ∙ sym (append_assoc done (which ∷ []) left)))

pub in_turn : (which : Which) → give_order ≡ given_before which ++ which ∷ given_after which
in_turn = at_turn (λ before which after. give_order ≡ before ++ which ∷ after) (all_split [] give_order refl)

-- the starts are the last
pub no_starts : (which : Which) (done : List Which) → AllByRecursion (λ one. (one ≢ which) × (one ≢ Starts)) done → AllByRecursion (λ one. one ≢ Starts) done
no_starts which [] all = tt
no_starts which (one ∷ done) all = (all.0.1, no_starts which done all.1)

pub before_starts : (which : Which) → AllByRecursion (λ one. one ≢ Starts) (given_before which)
before_starts which = no_starts which (given_before which) (at_turn AreOthers are_others which)

at_index : (P : List Which → Which → List Which → Type 0) (done left : List Which) → AllTurns P done left → (count : ℕ) → count < length left → P (done ++ take count left) (get_or left count Starts) (drop (suc count) left)
at_index P done [] all count inside = absurd (omega (arith, inside))
at_index P done (which ∷ left) all zero inside = subst (λ before. P before which left) (sym (append-nil done)) all.0
at_index P done (which ∷ left) all (suc count) inside =
    subst (λ before. P before (get_or left count Starts) (drop (suc count) left)) (append_assoc done (which ∷ []) (take count left)) (at_index P (done ++ which ∷ []) left all.1 count (omega (arith, inside)))

-- before another one stands no starts
pub others_first : (count : ℕ) → count < length give_order → AllByRecursion (λ one. one ≢ Starts) (take count give_order)
others_first count inside = no_starts (get_or give_order count Starts) (take count give_order) (at_index AreOthers [] give_order are_others count inside)

-- ---- what follows of any list

-- the units of a list are called, whatever the order of the starts
pub in_any_order : (owed : Owed) (order : List Name) → ArrangesStarts owed order → (which : Which) (unit : Name) → has (list_names (with_list owed.lists Starts order) which) unit ≡ has (list_names owed.lists which) unit
in_any_order owed order arranges which unit =
    elim (set_list owed.lists Starts order which) [
      | inl same ↦ ap (λ names. has names unit) same
      | inr set ↦ ap (λ names. has names unit) set.0 ∙ arranges unit ∙ ap (λ one. has (list_names owed.lists one) unit) set.1
    ]

-- what passes a test among all lists does so in the order in which they are given
pub any_given : (test : Which → Bool) → list_any test give_order ≡ list_any test record_order
any_given test = both_ways (list_any test give_order) (list_any test record_order) given recorded
  where
    given : list_any test give_order ≡ true → list_any test record_order ≡ true
    given found = let one = any_passing test give_order found in passing test one.0 one.1

    recorded : list_any test record_order ≡ true → list_any test give_order ≡ true
    recorded found =
        let one = passed test found in
        ap (list_any test) (in_turn one.0) ∙ list_any-append test (given_before one.0) (one.0 ∷ given_after one.0)
        ∙ or_right (list_any test (given_before one.0)) (list_any test (one.0 ∷ given_after one.0)) (or_left (test one.0) (list_any test (given_after one.0)) one.1)

-- no act of a list is a stop
pub no_stop : (renewing : Bool) (was : State) (act : Act) → IsActBy renewing was act → is_stop act ≡ false
no_stop true was act is = ap is_stop is
no_stop false was act (inl is) = ap is_stop is
no_stop false was act (inr is) = ap is_stop is.0

-- only a list that brings units up anew has restarts
abbrev pub is_restart : Act → Bool
is_restart Restart = true
is_restart act = false

pub no_restart : (was : State) (act : Act) → IsActBy false was act → is_restart act ≡ false
no_restart was act (inl is) = ap is_restart is
no_restart was act (inr is) = ap is_restart is.0

-- all calls, split among those of one list
pub turn_split : (calls : Which → List Duty) (which : Which) (part rest : List Duty) → calls which ≡ part ++ rest →
    flat_map calls give_order ≡ (flat_map calls (given_before which) ++ part) ++ (rest ++ flat_map calls (given_after which))
turn_split calls which part rest split =
    let first = flat_map calls (given_before which) in let last = flat_map calls (given_after which) in
    ap (flat_map calls) (in_turn which) ∙ flat_map-append calls (given_before which) (which ∷ given_after which)
    ∙ ap (λ cs. first ++ (cs ++ last)) split ∙ ap (λ cs. first ++ cs) (append_assoc part rest last) ∙ sym (append_assoc first part (rest ++ last))

-- an order, split at one of its lists
pub split_at : (none : Which) (order : List Which) (count : ℕ) → count < length order → order ≡ take count order ++ get_or order count none ∷ drop (suc count) order
split_at none [] count inside = absurd (omega (arith, inside))
split_at none (which ∷ order) zero inside = refl
split_at none (which ∷ order) (suc count) inside = ap (λ rest. which ∷ rest) (split_at none order count (omega (arith, inside)))
