-- How long the names are of the units that are owed something, and the log that records them.
use Rattle.std.proofs.Common.{◌≡◌, ◌↔◌, ◌||◌, ◌∷◌, ◌++◌, ◌+◌, ◌*◌, ◌^◌, ◌/◌, ◌-◌, ◌≤◌, ◌<◌, ℕ, Bool, true, false, cond, IsTrue, List, [], MatchOption, Option, None, Some, get_or, is_some, length, map, take, refl, sym, ap, subst, ◌∙◌, inl, inr, arith}
use Rattle.std.proofs.lemmas.Bool.{or_cases, or_left, or_right}
use Rattle.std.proofs.lemmas.Fmt.{length-decimal-le}
use Rattle.std.proofs.lemmas.Grind.{flat_map-append}
use Rattle.std.proofs.lemmas.List.{append-nil, append_assoc, length-append, take_all}
use Rattle.std.proofs.lemmas.List.Folds.{length-flat_map-take, list_any-append}
use Rattle.std.specs.Fmt.{decimal}
use Rattle.std.specs.List.{flat_map, list_any}
use Rattle.std.specs.List.Sorted.{IsStrictlySortedBy}
use Rattle.host_trait.specs.declared.unit_state.State.{State}
use Rattle.host_trait.specs.States.{state_of}
use Rattle.host_trait.specs.World.{WorldState, bytes_cmp}
use Rattle.host_trait.proofs.NameOrder.{above_all, less_is_other, name_exact, name_itself}
use Rattle.leaf_limits.specs.Limits.{leaf_max}
use Rattle.log_text.specs.declared.lists.Lists.{Lists}
use Rattle.log_text.specs.declared.lists.Which.{Which}
use Rattle.log_text.specs.declared.lists.Which.TheVariants.{Starts, Restarts, Reloads}
use Rattle.log_text.specs.Lists.{block_of, list_names, record_order}
use Rattle.log_text.specs.Log.{block_text, header_of, last_line, list_text, log_text, word}
use Rattle.owed_lists.proofs.ListLemmas.{one_list}
use Rattle.owed_lists.proofs.OrderLemmas.{has_ordered, ordered, ordered_sorted}
use Rattle.owed_log.specs.Lengths.{log_length}
use Rattle.owed_plan.specs.declared.owed.Owed.{Owed}
use Rattle.owed_plan.specs.Lists.{Debt, OnList, ToStop, is_listed}
use Rattle.owed_plan.specs.Owed.{IsDue, IsOwed}
use Rattle.owed_plan.proofs.KindLemmas.{listed_on, on_list}
use Rattle.owed_plan.specs.Systems.{Systems, systems_at}
use Rattle.switch_names.specs.Names.{IsListOf, Name, has, is_name}
use Rattle.switch_names.proofs.Names.{name_turned}
use Rattle.unit_stage.specs.Owes.{FitInEach, IsSteadyWorld, OwesUnit}
use Rattle.unit_stage.specs.Plan.{IsOwedIn}
use Rattle.unit_stage.specs.Room.{is_owed}
use Rattle.unit_stage.specs.System.{current_system}
use Rattle.unit_stage.proofs.EndLemmas.{owed_in}
use Rattle.unit_stage.proofs.WaitingLemmas.{same_waiting}

-- ---- names, a line each

pub lines_more : (name : Name) (names : List Name) → length (list_text (name ∷ names)) ≡ length name + 1 + length (list_text names)
lines_more name names = length-append (name ++ 10 ∷ []) (list_text names) ∙ ap (λ n. n + length (list_text names)) (length-append name (10 ∷ []))

pub lines_joined : (names more : List Name) → length (list_text (names ++ more)) ≡ length (list_text names) + length (list_text more)
lines_joined names more = ap length (flat_map-append (λ (name : Name). name ++ 10 ∷ []) names more) ∙ length-append (list_text names) (list_text more)

-- there are no more names than bytes
names_few : (names : List Name) → length names ≤ length (list_text names)
names_few [] = omega arith
names_few (name ∷ names) = omega (arith, names_few names, lines_more name names)

-- names of which one is longer, with its line feed, than what those before it leave have more bytes than there were
pub past_room : (names : List Name) (at left room : ℕ) (text name : Name) → at < length names → name ≡ get_or names at name → text ≡ name → left + length (list_text (take at names)) ≡ room →
    left < length text + 1 → room < length (list_text names)
past_room names at left room text name within there same before longer =
    let line : Name → List ℕ = λ name. name ++ 10 ∷ [] in
    let more = length-flat_map-take line names at name within in
    let last = ap (λ (n : Name). length (line n)) (same ∙ there) in
    omega (arith, before, longer, more, last, length-append text (10 ∷ []))

-- names without the first that is this one
abbrev lacking : Name → List Name → List Name
lacking name [] = []
lacking name (other ∷ names) = cond (is_name name other) names (other ∷ lacking name names)

lacking_lines : (name : Name) (names : List Name) → has names name ≡ true → length (list_text names) ≡ length name + 1 + length (list_text (lacking name names))
lacking_lines name [] found = absurd cc
lacking_lines name (other ∷ names) found =
    elim (is_name name other) as (λ b. is_name name other ≡ b → length (list_text (other ∷ names)) ≡ length name + 1 + length (list_text (cond b names (other ∷ lacking name names)))) [
      | true ↦ λ is. lines_more other names ∙ ap (λ (n : Name). length n + 1 + length (list_text names)) (sym (name_exact name other is))
      | false ↦ λ not.
          let rest = lacking_lines name names (sym (ap (λ b. b || has names name) not) ∙ found) in
          omega (arith, lines_more other names, lines_more other (lacking name names), rest)
    ] refl

lacking_has : (name other : Name) (names : List Name) → is_name other name ≡ false → has names other ≡ true → has (lacking name names) other ≡ true
lacking_has name other [] ne found = found
lacking_has name other (first ∷ names) ne found =
    elim (is_name name first) as (λ b. is_name name first ≡ b → has (cond b names (first ∷ lacking name names)) other ≡ true) [
      | true ↦ λ is. sym (ap (λ b. b || has names other) (subst (λ (n : Name). is_name other n ≡ false) (name_exact name first is) ne)) ∙ found
      | false ↦ λ not. elim (or_cases (is_name other first) (has names other) found) [
        | inl here ↦ or_left (is_name other first) (has (lacking name names) other) here
        | inr more ↦ or_right (is_name other first) (has (lacking name names) other) (lacking_has name other names ne more)
      ]
    ] refl

-- names in byte order that are all among others have no longer text
pub no_longer : (names others : List Name) → IsStrictlySortedBy bytes_cmp names → ((unit : Name) → has names unit ≡ true → has others unit ≡ true) → length (list_text names) ≤ length (list_text others)
unfolding IsStrictlySortedBy
no_longer [] others sorted within = omega arith
no_longer (name ∷ names) others sorted within =
    let first = lacking_lines name others (within name (or_left (is_name name name) (has names name) (name_itself name))) in
    let rest = no_longer names (lacking name others) sorted.1
    (λ unit found.
    lacking_has name unit others (name_turned unit name ∙ less_is_other name unit (above_all name unit names sorted.0 found)) (within unit (or_right (is_name unit name) (has names unit) found))) in
    omega (arith, lines_more name names, first, rest)

-- where the others fit, they do
fit_among : (names others : List Name) → IsStrictlySortedBy bytes_cmp names → ((unit : Name) → has names unit ≡ true → has others unit ≡ true) → FitInEach others → FitInEach names
fit_among names others sorted within fits = omega (arith, no_longer names others sorted within, fits)

-- ---- all units that are owed something

-- the names of some lists, one list after the other
abbrev pub names_on : Owed → List Which → List Name
names_on owed order = flat_map (list_names owed.lists) order

-- the names of the stops, and of all lists
abbrev pub each_owed : Owed → List Name
each_owed owed = owed.stops ++ names_on owed record_order

has_on : (owed : Owed) (unit : Name) (order : List Which) → has (names_on owed order) unit ≡ list_any (λ which. has (list_names owed.lists which) unit) order
has_on owed unit [] = refl
has_on owed unit (which ∷ order) =
    list_any-append (is_name unit) (list_names owed.lists which) (names_on owed order) ∙ ap (λ b. has (list_names owed.lists which) unit || b) (has_on owed unit order)

pub has_each : (owed : Owed) (unit : Name) → has (each_owed owed) unit ≡ is_owed owed unit
has_each owed unit = list_any-append (is_name unit) owed.stops (names_on owed record_order) ∙ ap (λ b. has owed.stops unit || b) (has_on owed unit record_order)

-- each once
abbrev pub union_of : Owed → List Name
union_of owed = ordered (each_owed owed)

pub has_union : (owed : Owed) (unit : Name) → has (union_of owed) unit ≡ is_owed owed unit
has_union owed unit = has_ordered (each_owed owed) unit ∙ has_each owed unit

pub union_list : (owed : Owed) → IsListOf (union_of owed) (λ unit. IsTrue (is_owed owed unit))
union_list owed = record { sorted = ordered_sorted (each_owed owed); exact = λ unit. (λ found. sym (has_union owed unit) ∙ found, λ is. has_union owed unit ∙ is) }

module _ (owed : Owed) (unit : Name) where
  pub stop_among : has owed.stops unit ≡ true → is_owed owed unit ≡ true
  stop_among is = or_left (has owed.stops unit) (is_listed owed.lists unit) is

  pub listed_among : (which : Which) → has (list_names owed.lists which) unit ≡ true → is_owed owed unit ≡ true
  listed_among which is = or_right (has owed.stops unit) (is_listed owed.lists unit) (listed_on owed.lists unit which is)

module _ (systems : Systems) (states : Name → State) (lists : Lists) (owed : Owed) (owes : IsOwed systems states lists owed) (unit : Name) where
  pub due_among : (debt : Debt) → IsDue systems states lists debt unit → is_owed owed unit ≡ true
  due_among ToStop owing = stop_among owed unit (((owes ToStop).exact unit).1 owing)
  due_among (OnList which) owing = listed_among owed unit which (((owes (OnList which)).exact unit).1 owing)

  pub is_due : is_owed owed unit ≡ true → (debt : Debt) × IsDue systems states lists debt unit
  is_due is = elim (or_cases (has owed.stops unit) (is_listed owed.lists unit) is) [
    | inl stop ↦ (ToStop, ((owes ToStop).exact unit).0 stop)
    | inr found ↦ let one = on_list owed.lists unit found in (OnList one.0, ((owes (OnList one.0)).exact unit).0 one.1)
  ]

module _ (start_up : Bool) (system : Name) (lists : Lists) (owed : Owed) (w : WorldState) (owes : IsOwedIn start_up system w lists owed) where
  abbrev systems : Systems
  systems = systems_at w.leaves (current_system w.leaves) system

  abbrev states : Name → State
  states = state_of w.manager.states

  unit_among : (unit : Name) → OwesUnit start_up system w unit → is_owed owed unit ≡ true
  unit_among unit (debt, (others, listed, owing)) =
      due_among systems states lists owed owes.is_owed unit debt
      (subst (λ (l : Lists). IsDue systems states l debt unit) (same_waiting start_up w.leaves system others lists listed owes.listed) owing)

  owed_unit : (unit : Name) → is_owed owed unit ≡ true → OwesUnit start_up system w unit
  owed_unit unit is = let one = is_due systems states lists owed owes.is_owed unit is in (one.0, (lists, owes.listed, one.1))

  union_here : IsListOf (union_of owed) (OwesUnit start_up system w)
  union_here = record {
    sorted = (union_list owed).sorted;
    exact = λ unit. (λ found. owed_unit unit (sym (has_union owed unit) ∙ found), λ owing. has_union owed unit ∙ unit_among unit owing);
  }

-- where no other units are owed something than in a world with room, there is room
pub still_room : (start_up : Bool) (system : Name) (w m : WorldState) → ((unit : Name) → OwesUnit start_up system m unit → OwesUnit start_up system w unit) → IsSteadyWorld start_up system w →
    (names : List Name) → IsListOf names (OwesUnit start_up system m) → FitInEach names
still_room start_up system w m fewer steady names are =
    let owed = owed_in start_up system w in
    let union = union_here start_up system owed.1.0 owed.0 w owed.1.1 in
    fit_among names (union_of owed.0) are.sorted (λ unit found. (union.exact unit).1 (fewer unit ((are.exact unit).0 found))) (steady.room (union_of owed.0) union)

-- ---- what is told of the names

-- the most bytes of names that fit
abbrev pub names_max : ℕ
names_max = leaf_max / length record_order - 64

-- where the names of the stops and of all lists leave something of the bytes, those of the units fit
pub left_fits : (owed : Owed) (count left : ℕ) → length record_order ≤ count → left + length (list_text (owed.stops ++ names_on owed (take count record_order))) ≡ names_max →
    (names : List Name) → IsListOf names (λ unit. IsTrue (is_owed owed unit)) → FitInEach names
left_fits owed count left past fits names are =
    fit_among names (each_owed owed) are.sorted (λ unit found. has_each owed unit ∙ (are.exact unit).0 found)
    (let whole = ap (λ order. length (list_text (owed.stops ++ names_on owed order))) (take_all count record_order past) in omega (arith, fits, whole))

-- what the names of one list more leave
pub room_more : (owed : Owed) (which : Which) (done : List Which) (names : List Name) (before left : ℕ) → names ≡ list_names owed.lists which →
    before + length (list_text (owed.stops ++ names_on owed done)) ≡ names_max → left + length (list_text names) ≡ before → left + length (list_text (owed.stops ++ names_on owed (done ++ which ∷ []))) ≡ names_max
room_more owed which done names before left same so_far more =
    let joined : names_on owed (done ++ which ∷ []) ≡ names_on owed done ++ names = flat_map-append (list_names owed.lists) done (which ∷ []) ∙ ap (λ ns. names_on owed done ++ ns) (append-nil (list_names owed.lists which) ∙ sym same) in
    let whole : owed.stops ++ names_on owed (done ++ which ∷ []) ≡ (owed.stops ++ names_on owed done) ++ names = ap (λ ns. owed.stops ++ ns) joined ∙ sym (append_assoc owed.stops (names_on owed done) names) in
    omega (arith, so_far, more, ap (λ ns. length (list_text ns)) whole, lines_joined (owed.stops ++ names_on owed done) names)

told_fits : (units : List Name) (after : Option ℕ) → MatchOption after (names_max < length (list_text units)) (λ left. left + length (list_text units) ≡ names_max) → IsTrue (is_some after) ↔ FitInEach units
told_fits units None past = (λ none. absurd cc, λ fits. absurd (omega (arith, past, fits)))
told_fits units (Some left) some = (λ told. omega (arith, some), λ fits. refl)

-- and so it is told of the units, each once
pub union_told : (owed : Owed) (units : List Name) (after : Option ℕ) (told : Bool) → IsListOf units (λ unit. IsTrue (is_owed owed unit)) → told ≡ is_some after →
    MatchOption after (names_max < length (list_text units)) (λ left. left + length (list_text units) ≡ names_max) → (names : List Name) → IsListOf names (λ unit. IsTrue (is_owed owed unit)) → IsTrue told ↔ FitInEach names
union_told owed units after told are is fits names also =
    let fit = told_fits units after fits in
    let same = one_list units names (λ unit. IsTrue (is_owed owed unit)) are also in
    (λ yes. subst FitInEach same (fit.0 (sym is ∙ yes)), λ room. is ∙ fit.1 (subst FitInEach (sym same) room))

-- ---- how long the log is

-- the word for a list is short
short_word : (which : Which) → length (word which) ≤ 16
short_word Starts = omega arith
short_word Restarts = omega arith
short_word Reloads = omega arith

-- a block has its names, and few bytes more
block_length : (which : Which) (names : List Name) → length names < 2 ^ 64 → length (block_text (block_of which names)) ≤ length (list_text names) + 42
block_length which names few =
    let digits = length-decimal-le 20 (length names) (omega arith) (omega arith) few in
    let header = length-append (word which) (32 ∷ decimal (length names)) in
    let whole = length-append (header_of which (length names)) (10 ∷ (list_text names ++ last_line)) in
    let rest = length-append (list_text names) last_line in
    let last : length last_line ≡ 4 = refl in
    omega (arith, digits, header, whole, rest, last, short_word which)

-- so have the blocks of some lists
blocks_length : (lists : Lists) (most : ℕ) → most < 2 ^ 63 → ((which : Which) → length (list_text (list_names lists which)) ≤ most) → (order : List Which) →
    length (log_text (map (λ which. block_of which (list_names lists which)) order)) ≤ length order * (most + 42)
blocks_length lists most small fits [] = omega arith
blocks_length lists most small fits (which ∷ order) =
    let names = list_names lists which in
    let rest = map (λ one. block_of one (list_names lists one)) order in
    let first = block_length which names (omega (arith, names_few names, fits which, small)) in
    omega (arith, length-append (block_text (block_of which names)) (log_text rest), first, fits which, blocks_length lists most small fits order)

lists_length : (lists : Lists) (most : ℕ) → most < 2 ^ 63 → ((which : Which) → length (list_text (list_names lists which)) ≤ most) → log_length lists ≤ length record_order * (most + 64)
lists_length lists most small fits = omega (arith, blocks_length lists most small fits record_order)

-- in a steady world the log that records what is owed can be read again
module _ (start_up : Bool) (system : Name) (lists : Lists) (owed : Owed) (w : WorldState) (owes : IsOwedIn start_up system w lists owed) (steady : IsSteadyWorld start_up system w) where
  abbrev union : List Name
  union = union_of owed

  among : (names : List Name) → IsStrictlySortedBy bytes_cmp names → ((unit : Name) → has names unit ≡ true → is_owed owed unit ≡ true) → length (list_text names) ≤ length (list_text union)
  among names sorted are = no_longer names union sorted (λ unit found. has_union owed unit ∙ are unit found)

  pub log_fits : log_length owed.lists ≤ leaf_max
  log_fits =
      let room = steady.room union (union_here start_up system lists owed w owes) in
      omega (arith, room, lists_length owed.lists (length (list_text union)) (omega (arith, room)) (λ which. among (list_names owed.lists which) (owes.is_owed (OnList which)).sorted (λ unit. listed_among owed unit which)))
