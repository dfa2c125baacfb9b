-- Parts that aren't refused take no content that is too long.
use Rattle.std.proofs.Common.{◌≡◌, ◌||◌, ℕ, Bool, true, false, cond, nat_lt, List, Option, None, Some, option_map, refl, sym, ap, ◌∙◌, inl, inr}
use Rattle.std.proofs.lemmas.Bool.{and_parts, or_cases, or_left, or_right}
use Rattle.accounts_stage.specs.AccountsPart.{accounts_part}
use Rattle.accounts_stage.specs.Lengths.{accounts_too_long, takes_accounts}
use Rattle.accounts_stage.proofs.ShortLemmas.{taken_short}
use Rattle.accounts_stage.specs.Refusals.{refusal_of}
use Rattle.accounts_stage.specs.Standing.{declared_by}
use Rattle.activation_stage.specs.ActivationPart.{activation_in}
use Rattle.activation_stage.specs.Owners.{owners_after}
use Rattle.boot_entries.specs.BootDefault.{boot_default_in}
use Rattle.boot_entries.specs.Sources.{menu_too_long, taken_of}
use Rattle.boot_entries.specs.Entries.{version_path}
use Rattle.etc_farm.specs.EtcPart.{etc_part, takes_etc}
use Rattle.etc_farm.proofs.LongLemmas.{none_too_long}
use Rattle.generations.specs.declared.moving.Move.{Move}
use Rattle.generations.specs.Goal.{goal_place}
use Rattle.generations.specs.GoalPart.{goal_refusal}
use Rattle.generations.specs.Move.{gens_moved, move_part}
use Rattle.host_trait.proofs.NameOrder.{name_exact, name_itself}
use Rattle.host_trait.specs.World.{Leaves, content_of}
use Rattle.leaf_limits.specs.Counts.{past}
use Rattle.leaf_limits.specs.Limits.{content_past, is_long, is_long_content, leaf_max, length_of, long_past}
use Rattle.leaf_limits.proofs.PastLemmas.{long_not, long_within, none_long, nothing_past}
use Rattle.owed_log.specs.Lengths.{AreOwedShort}
use Rattle.owed_log.specs.Places.{is_owed_place}
use Rattle.switch_engine.specs.Commands.{is_back}
use Rattle.switch_engine.specs.Lengths.{takes_by, takes_goal, takes_menu, takes_moved, takes_switch, too_long_by}
use Rattle.switch_engine.specs.Rows.{default_if, gens_to, goal_by, parts_in, refusal_before_length, switch_in, too_many_by, too_much_by}
use Rattle.switch_engine.proofs.FewLemmas.{first_none, parts_few}
use Rattle.switch_names.specs.Names.{Name, has, is_name}
use Rattle.switch_names.specs.SystemName.{IsSystemPath}
use Rattle.switch_names.proofs.Outcomes.{none_mapped, option_or_nothing, option_or_parts}
use Rattle.switch_parts.specs.declared.refusal.Refusal.TheVariants.{InTheWay, TooMany}
use Rattle.switch_parts.specs.declared.refusal.What.TheVariants.{LeafBytes}
use Rattle.tree_put.specs.First.{first_in_the_way}
use Rattle.unit_stage.specs.System.{defs_refusal, takes_switched, units_too_long}
use Rattle.unit_stage.specs.Units.{units_part}

-- none of what is taken is too long, where no length is told
not_past : (is_taken : Name → Bool) (leaves : Leaves) → option_map (TooMany LeafBytes) (long_past is_taken leaves) ≡ None → (q : Name) → is_taken q ≡ true → is_long leaves q ≡ false
not_past is_taken leaves none = none_long is_taken leaves (none_mapped (TooMany LeafBytes) (long_past is_taken leaves) none)

-- a count that isn't past the greatest isn't above it
not_above : (most count : ℕ) → past most count ≡ None → nat_lt most count ≡ false
not_above most count none = by (nat_lt most count) refl
  where
    by : (b : Bool) → nat_lt most count ≡ b → nat_lt most count ≡ false
    by false is = is
    by true is = absurd (let some : Some count ≡ None = sym (ap (λ b. cond b (Some count) None) is) ∙ none in cc)

not_long : (content : Option (List ℕ)) → content_past content ≡ None → is_long_content content ≡ false
not_long content none = not_above leaf_max (length_of content) none

module _ (start_up : Bool) (moves : Option Move) (system : Name) (named : IsSystemPath system) (leaves : Leaves) where
  -- nothing that is read of accounts is
  accounts_short : (accounts_part system).refusal leaves ≡ None → (q : Name) → takes_accounts system q ≡ true → is_long leaves q ≡ false
  accounts_short none q taken =
      not_long (content_of leaves q) (taken_short system leaves (option_or_parts (refusal_of leaves (declared_by system leaves)) (accounts_too_long system leaves) none).1 q taken)

  -- nothing that is read for a switch is, where nothing that is read of what is owed is
  switch_short : AreOwedShort leaves → (switch_in start_up system leaves).refusal leaves ≡ None → (q : Name) → takes_switch true system leaves q ≡ true → is_long leaves q ≡ false
  switch_short owed none q taken =
      let units = option_or_parts ((units_part start_up system).refusal leaves) ((activation_in system leaves).refusal leaves) none in
      let activation = option_or_parts ((accounts_part system).refusal leaves) ((etc_part system (owners_after system leaves)).refusal leaves) units.1 in
      elim (or_cases (is_owed_place q) (takes_switched leaves system q || (takes_accounts system q || takes_etc leaves system q)) taken) [
        | inl of_owed ↦ long_not leaves q (owed q of_owed)
        | inr parts ↦ elim (or_cases (takes_switched leaves system q) (takes_accounts system q || takes_etc leaves system q) parts) [
          | inl of_units ↦ not_past (takes_switched leaves system) leaves (option_or_parts (defs_refusal leaves system) (units_too_long leaves system) units.0).1 q of_units
          | inr others ↦ elim (or_cases (takes_accounts system q) (takes_etc leaves system q) others) [
            | inl of_accounts ↦ accounts_short activation.0 q of_accounts
            | inr of_etc ↦ not_past (takes_etc leaves system) leaves (none_too_long leaves system (owners_after system leaves) named activation.1) q of_etc
          ]
        ]
      ]

  -- nor what the boot menu takes
  menu_short : (to : Option Move) → (default_if to system (gens_to to system leaves)).refusal leaves ≡ None → (q : Name) → takes_menu to (gens_to to system leaves) q ≡ true → is_long leaves q ≡ false
  menu_short None none q taken = absurd cc
  menu_short (Some move) none q taken =
      let default = first_none ((boot_default_in move system leaves).refusal leaves) ((goal_by move).refusal leaves) none in
      not_past (has (taken_of (gens_moved move system leaves))) leaves (option_or_parts ((move_part move system).refusal leaves) (menu_too_long (gens_moved move system leaves) leaves) default).1 q taken

  -- nor the goal of a rollback
  goal_short : (to : Option Move) → (default_if to system (gens_to to system leaves)).refusal leaves ≡ None → (q : Name) → takes_goal to q ≡ true → is_long leaves q ≡ false
  goal_short None none q taken = absurd cc
  goal_short (Some move) none q taken =
      let goal = (option_or_parts ((boot_default_in move system leaves).refusal leaves) ((goal_by move).refusal leaves) none).1 in
      let parts = and_parts (is_back (Some move)) (is_name q goal_place) taken in
      ap (is_long leaves) (name_exact q goal_place parts.1)
      ∙ not_long (content_of leaves goal_place) (none_mapped (TooMany LeafBytes) (content_past (content_of leaves goal_place)) (sym (ap (λ b. goal_refusal b leaves) parts.0) ∙ goal))

  -- nor what else a move of the profile takes
  moved_short : (to : Option Move) → (default_if to system (gens_to to system leaves)).refusal leaves ≡ None → (q : Name) → takes_moved to (gens_to to system leaves) q ≡ true → is_long leaves q ≡ false
  moved_short to none q taken = elim (or_cases (takes_menu to (gens_to to system leaves) q) (takes_goal to q) taken) [
    | inl menu ↦ menu_short to none q menu
    | inr goal ↦ goal_short to none q goal
  ]

  module _ (short : is_long leaves (version_path system) ≡ false) where
    each_short : (switches : Bool) → (switches ≡ true → AreOwedShort leaves) → (parts_in start_up switches moves system leaves).refusal leaves ≡ None → (q : Name) →
        takes_by switches moves system (gens_to moves system leaves) leaves q ≡ true → is_long leaves q ≡ false
    each_short switches owed none q taken = elim (or_cases (is_name q (version_path system)) (takes_switch switches system leaves q || takes_moved moves (gens_to moves system leaves) q) taken) [
      | inl version ↦ ap (is_long leaves) (name_exact q (version_path system) version) ∙ short
      | inr parts ↦ by switches owed none parts
    ]
      where
        by : (switches : Bool) → (switches ≡ true → AreOwedShort leaves) → (parts_in start_up switches moves system leaves).refusal leaves ≡ None →
            (takes_switch switches system leaves q || takes_moved moves (gens_to moves system leaves) q) ≡ true → is_long leaves q ≡ false
        by false owed none parts = moved_short moves none q parts
        by true owed none parts =
            let both = option_or_parts ((switch_in start_up system leaves).refusal leaves) ((default_if moves system (gens_to moves system leaves)).refusal leaves) none in
            elim (or_cases (takes_switch true system leaves q) (takes_moved moves (gens_to moves system leaves) q) parts) [
              | inl switched ↦ switch_short (owed refl) both.0 q switched
              | inr menu ↦ moved_short moves both.1 q menu
            ]

    -- nor is there too much of anything
    pub parts_little : (switches : Bool) → (switches ≡ true → AreOwedShort leaves) → (parts_in start_up switches moves system leaves).refusal leaves ≡ None → too_much_by switches moves system leaves ≡ None
    parts_little switches owed none =
        option_or_nothing (too_long_by switches moves system (gens_to moves system leaves) leaves) (too_many_by switches system leaves)
        (ap (option_map (TooMany LeafBytes)) (nothing_past (takes_by switches moves system (gens_to moves system leaves) leaves) leaves (each_short switches owed none)))
        (parts_few start_up moves system leaves switches none)

    -- nothing is in their way either
    pub little_before_length : (switches : Bool) → (switches ≡ true → AreOwedShort leaves) → refusal_before_length start_up switches moves system leaves ≡ None → too_much_by switches moves system leaves ≡ None
    little_before_length switches owed none =
        let part = parts_in start_up switches moves system leaves in
        parts_little switches owed (option_or_parts (option_map InTheWay (first_in_the_way (part.places leaves) leaves)) (part.refusal leaves) none).1

-- the file of a system is within the limit, where nothing that is taken is too long
pub version_short : (switches : Bool) (moves : Option Move) (system : Name) (leaves : Leaves) → too_long_by switches moves system (gens_to moves system leaves) leaves ≡ None → is_long leaves (version_path system) ≡ false
version_short switches moves system leaves none =
    let at = version_path system in
    not_past (takes_by switches moves system (gens_to moves system leaves) leaves) leaves none at
    (or_left (is_name at at) (takes_switch switches system leaves at || takes_moved moves (gens_to moves system leaves) at) (name_itself at))

-- and so is what is read of what is owed, where the units are switched
pub owed_short : (switches : Bool) (moves : Option Move) (system : Name) (leaves : Leaves) → too_long_by switches moves system (gens_to moves system leaves) leaves ≡ None → switches ≡ true → AreOwedShort leaves
owed_short switches moves system leaves none on q owed =
    let gens = gens_to moves system leaves in
    long_within leaves q
    (not_past (takes_by switches moves system gens leaves) leaves none q
    (or_right (is_name q (version_path system)) (takes_switch switches system leaves q || takes_moved moves gens q)
    (or_left (takes_switch switches system leaves q) (takes_moved moves gens q)
    (ap (λ b. takes_switch b system leaves q) on ∙ or_left (is_owed_place q) (takes_switched leaves system q || (takes_accounts system q || takes_etc leaves system q)) owed))))
