-- What each step of a command leaves: the goal of a rollback, the boot default, the units, and what the profile names.
use Rattle.std.proofs.Common.{◌≡◌, ◌≢◌, ◌↔◌, ◌||◌, ◌<◌, ◌^◌, arith, Bool, IsSome, true, false, Option, None, Some, option_map, List, ℕ, [], ◌++◌, refl, sym, ap, subst, ◌∙◌, inl, inr, ⊎_elim}
use Rattle.std.proofs.lemmas.Bool.{both_ways, cases_Bool, or_left, or_right}
use Rattle.std.proofs.lemmas.List.{append-nil}
use Rattle.std.specs.Cmp.Lexicographic.{nat_list_eq_equiv}
use Rattle.std.specs.FinMap.{get}
use Rattle.etc_manifest.specs.Owners.{OwnerIds}
use Rattle.boot_entries.specs.BootDefault.{boot_default_in, boot_default_part}
use Rattle.boot_entries.specs.DefaultLaws.{IsSameStore}
use Rattle.boot_entries.specs.Laws.{IsBootGens}
use Rattle.boot_entries.specs.Menu.{IsMenuBetween}
use Rattle.boot_entries.specs.Places.{owns_boot}
use Rattle.generations.specs.declared.gens.Gens.{Gens}
use Rattle.generations.specs.declared.moving.Move.{Move}
use Rattle.generations.specs.declared.moving.Move.TheVariants.{Point, Set}
use Rattle.generations.specs.Goal.{goal, goal_place}
use Rattle.generations.specs.GoalPart.{goal_part, owns_goal, reads_goal}
use Rattle.generations.specs.Move.{gens_moved}
use Rattle.generations.specs.Places.{Names, link_path, profile}
use Rattle.generations.proofs.GoalPartLemmas.{goal_is, goal_short, goal_small, recorded_moment, recorded_only}
use Rattle.generations.specs.ProfilePart.{owns_profile}
use Rattle.generations.proofs.ProfileApart.{link_owned, owned_other, profile_owned, stage_not_owned}
use Rattle.generations.proofs.SetLaws.{generation_of}
use Rattle.generations.proofs.Apart.{link_not_stage as link_apart_stage}
use Rattle.host_trait.specs.declared.entry.Entry.{Entry}
use Rattle.host_trait.specs.declared.manager_state.ManagerState.{ManagerState}
use Rattle.host_trait.specs.States.{state_of}
use Rattle.host_trait.specs.World.{Leaves, WorldState, is_path, seen, stage}
use Rattle.host_trait.proofs.Seen.{seen_at}
use Rattle.owed_plan.specs.declared.owed.Owed.{Owed}
use Rattle.owed_plan.specs.FinalStates.{final_state}
use Rattle.switch_engine.specs.declared.command.Command.{Command}
use Rattle.switch_engine.specs.declared.command.Command.TheVariants.{Switch, Test, Boot, DryActivate, Rollback, StartUp}
use Rattle.switch_engine.specs.Commands.{if_moved, if_so, is_back, row}
use Rattle.switch_engine.specs.Final.{AreEntries, AreFinalUnits}
use Rattle.switch_engine.specs.Moments.{IsRecordStep, IsDefaultStep, IsSwitchEnd, IsSwitchStep, NamesOneOf, record_world, default_world}
use Rattle.switch_engine.specs.Rows.{default_if, default_part, goal_by, part_if, switch_in, switch_part}
use Rattle.boot_entries.proofs.DefaultLemmas.{default_end_law, default_moment_law, default_names_law, default_part_law, default_stays_law}
use Rattle.boot_entries.proofs.GensLemmas.{gens_after_law}
use Rattle.boot_entries.proofs.MenuLemmas.{menu_begins_law, menu_law, menu_stays_law}
use Rattle.switch_engine.proofs.MovedPart.{default_in}
use Rattle.switch_engine.proofs.MenuApart.{menu_not_stage}
use Rattle.switch_engine.proofs.PartsLemmas.{are_parted, goal_parted, switch_if_is}
use Rattle.switch_engine.proofs.GoalApart.{goal_not_in_store, goal_not_stage, goal_owned, goal_unread_default}
use Rattle.switch_engine.proofs.GoalKeptLemmas.{IsGoalKept, IsMoveToBy, kept_first, kept_recorded, recorded_at}
use Rattle.switch_engine.proofs.SwitchLemmas.{switch_part_moment}
use Rattle.switch_engine.proofs.SwitchedIf.{IsSwitchMomentIf, IsSwitchedIf}
use Rattle.switch_names.specs.Names.{Name}
use Rattle.switch_names.specs.SystemName.{IsSystemPath}
use Rattle.switch_parts.specs.Part.{IsAtEnd, IsFree, IsPartMoment, IsOnly, final_leaf}
use Rattle.switch_parts.proofs.Parts.{false_by, first_free, first_moment, second_moment}
use Rattle.switch_parts.proofs.StoreLemmas.{store_not_stage}
use Rattle.unit_stage.specs.End.{IsBrought, entries_of}
use Rattle.unit_stage.specs.Order.{IsOrderedAt}
use Rattle.unit_stage.specs.Plan.{IsOwedBy}
use Rattle.unit_stage.specs.System.{definitions_of}
use Rattle.unit_stage.proofs.OrderLemmas.{arranges}
use Rattle.unit_stage.proofs.StepLemmas.{manager_seen}

-- ---- the profile's link isn't the stage

profile_apart_stage : is_path profile stage ≡ false
unfolding profile stage
profile_apart_stage = refl

pub profile_not_stage : profile ≢ stage
profile_not_stage same = both_ways _ profile_apart_stage (subst (λ x. is_path profile x ≡ true) same (nat_list_eq_equiv.refl profile))

-- ---- the parts of a move of the profile

module _ (move : Move) (system : Name) (gens : Gens) (are : IsBootGens gens) (w m : WorldState) where
  of_default : IsPartMoment (boot_default_part move system gens) w m → IsPartMoment (default_part move system gens) w m
  of_default moment = first_moment (boot_default_part move system gens) (goal_by move) (default_part_law move system gens are) (goal_is (is_back (Some move))) (goal_parted move system gens) w m moment

  pub of_goal : IsPartMoment (goal_by move) w m → IsPartMoment (default_part move system gens) w m
  of_goal moment = second_moment (boot_default_part move system gens) (goal_by move) (default_part_law move system gens are) (goal_is (is_back (Some move))) (goal_parted move system gens) w m moment

-- the part is the same at each of its moments
pub default_kept : (moves : Option Move) (system : Name) (w m : WorldState) → (default_in moves system w.leaves).Keeps w m → default_in moves system m.leaves ≡ default_in moves system w.leaves
default_kept None system w m keeps = refl
default_kept (Some move) system w m keeps = ap (λ (gens : Gens). default_part move system gens) (default_stays_law move system (gens_moved move system w.leaves) w m keeps.0)

pub not_of_default : owns_profile goal_place || owns_boot goal_place ≡ false
not_of_default = elim (cases_Bool (owns_profile goal_place || owns_boot goal_place)) [
  | inl own ↦ absurd (both_ways _ (goal_unread_default goal_place own) goal_read)
  | inr other ↦ other
]
  where
    goal_read : reads_goal goal_place ≡ true
    goal_read = (goal_is false).reads_own goal_place goal_owned

-- the same by the leaves of a world, with these generations
abbrev pub IsDefaultLeft : Option Move → Name → Gens → WorldState → WorldState → Type 0
IsDefaultLeft None system gens w u = Prim.Unit {0}
IsDefaultLeft (Some move) system gens w u = IsAtEnd (boot_default_part move system gens) w u

-- what the boot default owns is at its end, where the profile is moved
abbrev IsSetEnd : Option Move → Name → WorldState → WorldState → Type 0
IsSetEnd None system w u = Prim.Unit {0}
IsSetEnd (Some move) system w u = IsAtEnd (boot_default_in move system w.leaves) w u

-- ---- the goal is recorded, where the profile goes back to a generation

-- nothing has changed but the goal
pub record_only : (moves : Option Move) (w m : WorldState) → IsRecordStep moves w m → IsOnly (goal_part false) w m
record_only None w m same = record { leaves = λ q none ne. seen_at m w same q ne; manager = λ call. manager_seen m w same }
record_only (Some Set) w m same = record { leaves = λ q none ne. seen_at m w same q ne; manager = λ call. manager_seen m w same }
record_only (Some (Point n)) w m step = recorded_only false n w m step

pub record_last : (moves : Option Move) (w r : WorldState) → seen r ≡ record_world moves w → IsRecordStep moves w r
record_last None w r is = is
record_last (Some Set) w r is = is
record_last (Some (Point n)) w r is = inr is

-- the number to which the profile goes back is one of a generation
abbrev pub IsSmallMove : Option Move → Type 0
IsSmallMove None = Prim.Unit {0}
IsSmallMove (Some Set) = Prim.Unit {0}
IsSmallMove (Some (Point n)) = n < 2 ^ 32

pub small_row : (command : Command) (leaves : Leaves) → IsSmallMove (row command leaves).moves
small_row (Switch system) leaves = tt
small_row (Test system) leaves = tt
small_row (Boot system) leaves = tt
small_row (DryActivate system) leaves = tt
small_row Rollback leaves = by (goal leaves) refl
  where
    by : (number : Option ℕ) → goal leaves ≡ number → IsSmallMove (option_map Point number)
    by None is = tt
    by (Some n) is = goal_small leaves n is
small_row StartUp leaves = tt

pub record_part_moment : (moves : Option Move) (system : Name) (gens : Gens) → IsSmallMove moves → IsBootGens gens → (w m : WorldState) → IsRecordStep moves w m → IsPartMoment (default_if moves system gens) w m
record_part_moment None system gens small are w m same = record { keeps = tt; only = record { leaves = λ q none ne. seen_at m w same q ne; manager = λ none. manager_seen m w same } }
record_part_moment (Some Set) system gens small are w m same = of_goal Set system gens are w m (recorded_moment false 0 w m (inl same) (goal_short 0 (omega arith)))
record_part_moment (Some (Point n)) system gens small are w m step = of_goal (Point n) system gens are w m (recorded_moment true n w m step (goal_short n small))

pub record_kept : (moves : Option Move) (w m : WorldState) → IsRecordStep moves w m → IsGoalKept moves w.leaves m.leaves
record_kept None w m step = tt
record_kept (Some Set) w m step = tt
record_kept (Some (Point n)) w m step = ⊎_elim
    (λ old. kept_first (Some (Point n)) w m (seen_at m w old profile profile_not_stage) old)
    (λ new. kept_recorded (Some (Point n)) w.leaves m.leaves (recorded_at (Some (Point n)) w m new))
    step

-- ---- a system is made the boot default, or the profile isn't moved

module _ (system : Name) (named : IsSystemPath system) (w : WorldState) where
  pub set_part_moment : (moves : Option Move) → IsFree (default_in moves system w.leaves) w.leaves → (m : WorldState) → IsDefaultStep moves system w m → IsPartMoment (default_in moves system w.leaves) w m
  set_part_moment (Some move) free m step =
      of_default move system (gens_moved move system w.leaves) (gens_after_law move system w.leaves named) w m
      (default_moment_law move system w m named (first_free (boot_default_in move system w.leaves) (goal_by move) w.leaves free) step)
  set_part_moment None free m step = record { keeps = tt; only = record { leaves = λ q none ne. seen_at m w step q ne; manager = λ none. manager_seen m w step } }

  -- the goal stays as it is
  pub set_goal : (moves : Option Move) → IsFree (default_in moves system w.leaves) w.leaves → (m : WorldState) → IsDefaultStep moves system w m → get m.leaves goal_place ≡ get w.leaves goal_place
  set_goal (Some move) free m step =
      (default_moment_law move system w m named (first_free (boot_default_in move system w.leaves) (goal_by move) w.leaves free) step).only.leaves goal_place not_of_default goal_not_stage
  set_goal None free m step = seen_at m w step goal_place goal_not_stage

  pub set_step : (moves : Option Move) → IsFree (default_in moves system w.leaves) w.leaves → (u : WorldState) → seen u ≡ default_world moves system w → IsDefaultStep moves system w u
  set_step (Some move) free u is = (default_end_law move system w u named (first_free (boot_default_in move system w.leaves) (goal_by move) w.leaves free) is).0
  set_step None free u is = is

  -- what the boot default owns is at its end
  pub set_end : (moves : Option Move) → IsFree (default_in moves system w.leaves) w.leaves → (u : WorldState) → seen u ≡ default_world moves system w → IsSetEnd moves system w u
  set_end (Some move) free u is = (default_end_law move system w u named (first_free (boot_default_in move system w.leaves) (goal_by move) w.leaves free) is).1
  set_end None free u is = tt

  set_calls : (moves : Option Move) → IsFree (default_in moves system w.leaves) w.leaves → (u : WorldState) → seen u ≡ default_world moves system w → u.manager ≡ w.manager
  set_calls (Some move) free u is = (set_part_moment (Some move) free u (set_step (Some move) free u is)).only.manager refl
  set_calls None free u is = manager_seen u w is

  -- the boot menu at each of its moments
  pub set_menu : (moves : Option Move) → IsMoveToBy moves system w.leaves → IsFree (default_in moves system w.leaves) w.leaves → (m : WorldState) → IsDefaultStep moves system w m → IsMenuBetween w.leaves m.leaves
  set_menu (Some move) to free m step = menu_law move system w m named to (first_free (boot_default_in move system w.leaves) (goal_by move) w.leaves free) step
  set_menu None to free m step = menu_begins_law w.leaves m.leaves (λ q own. seen_at m w step q (menu_not_stage q own))

-- ---- a switch of the units

pub switch_if_moment : (start_up switches : Bool) (system : Name) → IsSystemPath system → (owed : Owed) (order : List Name) (u m : WorldState) → (switches ≡ true → IsOwedBy start_up system u owed) →
    (switches ≡ true → IsOrderedAt u.leaves system owed order) → IsFree (part_if switches (switch_in start_up system u.leaves)) u.leaves → IsSwitchMomentIf switches system owed order u m → IsPartMoment (part_if switches (switch_in start_up system u.leaves)) u m
switch_if_moment start_up true system named owed order u m is_owed is_ordered free moment =
    switch_part_moment start_up system named owed u (is_owed refl) order (arranges u.leaves system owed order (is_ordered refl)) free m moment
switch_if_moment start_up false system named owed order u m is_owed is_ordered free same = record {
  keeps = tt;
  only = record { leaves = λ q none ne. ap (λ (x : WorldState). get x.leaves q) same; manager = λ none. ap (λ (x : WorldState). x.manager) same };
}

pub switch_step : (start_up switches : Bool) (system : Name) (owed : Owed) (order : List Name) (u m : WorldState) → (switches ≡ true → IsOwedBy start_up system u owed) → (switches ≡ true → IsOrderedAt u.leaves system owed order) →
    IsSwitchMomentIf switches system owed order u m → IsSwitchStep start_up (if_so switches system) u m
switch_step start_up true system owed order u m is_owed is_ordered moment = (owed, order, is_owed refl, is_ordered refl, moment)
switch_step start_up false system owed order u m is_owed is_ordered same = ap seen same

pub switch_end : (start_up switches : Bool) (system : Name) (owed : Owed) (order : List Name) (u v : WorldState) → (switches ≡ true → IsOwedBy start_up system u owed) → (switches ≡ true → IsOrderedAt u.leaves system owed order) →
    IsSwitchedIf switches system owed order u v → IsSwitchEnd start_up (if_so switches system) u v
switch_end start_up true system owed order u v is_owed is_ordered end = (owed, order, is_owed refl, is_ordered refl, end)
switch_end start_up false system owed order u v is_owed is_ordered same = ap seen same

pub switch_final : (start_up switches : Bool) (system : Name) (owed : Owed) (order : List Name) (u v : WorldState) → IsSwitchedIf switches system owed order u v → (q : Name) → q ≢ stage → get v.leaves q ≡ final_leaf (part_if switches (switch_in start_up system u.leaves)) u.leaves q
switch_final start_up true system owed order u v is q ne = is.leaves q ne
switch_final start_up false system owed order u v is q ne = ap (λ (x : WorldState). get x.leaves q) is

-- ---- the profile names the same while it isn't written

pub link_not_stage : (n : ℕ) → link_path n ≢ stage
link_not_stage n same = both_ways _ (link_apart_stage n) (subst (λ x. is_path (link_path n) x ≡ true) same (nat_list_eq_equiv.refl (link_path n)))

names_as : (m w : Leaves) → get m profile ≡ get w profile → ((n : ℕ) → get m (link_path n) ≡ get w (link_path n)) → (other : List ℕ) → Names w other → Names m other
names_as m w same links other names = record {
  number = names.number;
  current = record {
    linked = same ∙ names.current.linked;
    stands = subst IsSome (sym (generation_of m w names.number (links names.number))) names.current.stands;
  };
  named = generation_of m w names.number (links names.number) ∙ names.named;
}

abbrev SameNames : WorldState → WorldState → Type 0
SameNames w m = (other : List ℕ) → Names m.leaves other ↔ Names w.leaves other

names_by : (w m : WorldState) → get m.leaves profile ≡ get w.leaves profile → ((n : ℕ) → get m.leaves (link_path n) ≡ get w.leaves (link_path n)) → SameNames w m
names_by w m same links other = (
  names_as w.leaves m.leaves (sym same) (λ n. sym (links n)) other,
  names_as m.leaves w.leaves same links other,
)

seen_names : (w m : WorldState) → seen m ≡ seen w → SameNames w m
seen_names w m same = names_by w m (seen_at m w same profile profile_not_stage) (λ n. seen_at m w same (link_path n) (link_not_stage n))

-- no place of the profile or of the boot menu is one of a switch of the units
module _ (start_up switches : Bool) (system : Name) (named : IsSystemPath system) (owners : OwnerIds) (gens : Gens) where
  pub not_own : (q : Name) → (owns_profile q || owns_boot q) || owns_goal q ≡ true → (part_if switches (switch_part start_up system owners)).owns q ≡ false
  not_own q own = elim (cases_Bool ((part_if switches (switch_part start_up system owners)).owns q)) [
    | inl is ↦ absurd (both_ways _ ((are_parted start_up switches (Some Set) system owners gens).second q own) ((switch_if_is start_up switches system named owners).reads_own q is))
    | inr other ↦ other
  ]

  pub profile_not_own : (q : Name) → owns_profile q ≡ true → (part_if switches (switch_part start_up system owners)).owns q ≡ false
  profile_not_own q own = not_own q (or_left _ (owns_goal q) (or_left (owns_profile q) (owns_boot q) own))

  menu_not_own : (q : Name) → owns_boot q ≡ true → (part_if switches (switch_part start_up system owners)).owns q ≡ false
  menu_not_own q own = not_own q (or_left _ (owns_goal q) (or_right (owns_profile q) (owns_boot q) own))

  pub goal_not_own : (part_if switches (switch_part start_up system owners)).owns goal_place ≡ false
  goal_not_own = not_own goal_place (or_right (owns_profile goal_place || owns_boot goal_place) (owns_goal goal_place) goal_owned)

  pub switch_names : (u m : WorldState) → IsPartMoment (part_if switches (switch_part start_up system owners)) u m → SameNames u m
  switch_names u m moment =
      names_by u m (moment.only.leaves profile (profile_not_own profile profile_owned) profile_not_stage)
      (λ n. moment.only.leaves (link_path n) (profile_not_own (link_path n) (link_owned n)) (link_not_stage n))

  pub switch_menu : (first : Leaves) (u m : WorldState) → IsPartMoment (part_if switches (switch_part start_up system owners)) u m → IsMenuBetween first u.leaves → IsMenuBetween first m.leaves
  switch_menu first u m moment before =
      menu_stays_law first u.leaves m.leaves before (λ q own. moment.only.leaves q (menu_not_own q own) (menu_not_stage q own))
      (λ q own. moment.only.leaves q (profile_not_own q own) (owned_other q stage own stage_not_owned))

pub set_names : (moves : Option Move) (system : Name) → IsSystemPath system → (w m : WorldState) → IsMoveToBy moves system w.leaves → IsFree (default_in moves system w.leaves) w.leaves → IsDefaultStep moves system w m →
    NamesOneOf (if_moved moves system) w m
set_names (Some move) system named w m to free step = default_names_law move system w m named to (first_free (boot_default_in move system w.leaves) (goal_by move) w.leaves free) step
set_names None system named w m to free step = seen_names w m step

-- ---- nothing but the goal has changed

module _ (w m : WorldState) (only : IsOnly (goal_part false) w m) where
  not_the_goal : (q : Name) → owns_profile q || owns_boot q ≡ true → owns_goal q ≡ false
  not_the_goal q own = false_by (owns_goal q) (reads_goal q) (λ is. (goal_is false).reads_own q is) (goal_unread_default q own)

  pub goal_profile : (q : Name) → owns_profile q ≡ true → get m.leaves q ≡ get w.leaves q
  goal_profile q own = only.leaves q (not_the_goal q (or_left (owns_profile q) (owns_boot q) own)) (owned_other q stage own stage_not_owned)

  pub goal_menu : (q : Name) → owns_boot q ≡ true → get m.leaves q ≡ get w.leaves q
  goal_menu q own = only.leaves q (not_the_goal q (or_right (owns_profile q) (owns_boot q) own)) (menu_not_stage q own)

  pub goal_names_same : SameNames w m
  goal_names_same = names_by w m (goal_profile profile profile_owned) (λ n. goal_profile (link_path n) (link_owned n))

  pub goal_store : IsSameStore m.leaves w.leaves
  goal_store q stored = sym (only.leaves q (goal_not_in_store q stored) (store_not_stage q stored))

-- what is named at a moment is named at each at which the profile is the same
pub names_then : (to : Option Name) (w u m : WorldState) → NamesOneOf to w u → SameNames u m → NamesOneOf to w m
names_then None w u m before same = λ other. (λ is. (before other).0 ((same other).0 is), λ is. (same other).1 ((before other).1 is))
names_then (Some system) w u m before same = ⊎_elim
    (λ (old : SameNames w u). inl (λ other. (λ is. (old other).0 ((same other).0 is), λ is. (same other).1 ((old other).1 is))))
    (λ now. inr ((same system).1 now))
    before

-- and since each at which it is the same
pub names_since : (to : Option Name) (w r m : WorldState) → SameNames w r → NamesOneOf to r m → NamesOneOf to w m
names_since None w r m same after = λ other. (λ is. (same other).0 ((after other).0 is), λ is. (after other).1 ((same other).1 is))
names_since (Some system) w r m same after = ⊎_elim
    (λ (old : SameNames r m). inl (λ other. (λ is. (same other).0 ((old other).0 is), λ is. (old other).1 ((same other).1 is))))
    (λ now. inr now)
    after

-- ---- the units at the end

-- what is brought is the same where the manager began the same
pub brought_from : (system : Name) (owed : Owed) (order : List Name) (w u v : WorldState) → u.manager ≡ w.manager → IsBrought system owed order u v → IsBrought system owed order w v
brought_from system owed order w u v same is = record {
  states = λ unit. is.states unit ∙ ap (λ (k : ManagerState). final_state owed (definitions_of system) k.bad (state_of k.states) unit) same;
  loaded = is.loaded;
  bad = is.bad ∙ ap (λ (k : ManagerState). k.bad) same;
  journal = is.journal ∙ (λ i. (same i).journal ++ entries_of system owed order (record w { manager = same i }));
}

-- the units where they were switched, or not
pub record IsUnitsEnd (start_up : Bool) (to : Option Name) (w v : WorldState) : Type 0 where
  pub units : AreFinalUnits start_up to w v
  pub bad : v.manager.bad ≡ w.manager.bad
  pub entries : List Entry
  pub are_entered : AreEntries start_up to w entries
  pub journal : v.manager.journal ≡ w.manager.journal ++ entries

pub units_end : (start_up switches : Bool) (system : Name) (owed : Owed) (order : List Name) (w u v : WorldState) → (switches ≡ true → IsOwedBy start_up system w owed) → (switches ≡ true → IsOrderedAt w.leaves system owed order) →
    u.manager ≡ w.manager → IsSwitchedIf switches system owed order u v → IsUnitsEnd start_up (if_so switches system) w v
units_end start_up true system owed order w u v is_owed is_ordered same is =
    let brought = brought_from system owed order w u v same is.units in
    record {
      units = ((owed, is_owed refl, brought.states), brought.loaded);
      bad = brought.bad;
      entries = entries_of system owed order w;
      are_entered = (owed, order, is_owed refl, is_ordered refl, refl);
      journal = brought.journal;
    }
units_end start_up false system owed order w u v is_owed is_ordered same is =
    let manager : v.manager ≡ w.manager = ap (λ (x : WorldState). x.manager) is ∙ same in
    record {
      units = (ap (λ (k : ManagerState). k.states) manager, ap (λ (k : ManagerState). k.loaded) manager);
      bad = ap (λ (k : ManagerState). k.bad) manager;
      entries = [];
      are_entered = refl;
      journal = ap (λ (k : ManagerState). k.journal) manager ∙ sym (append-nil w.manager.journal);
    }
