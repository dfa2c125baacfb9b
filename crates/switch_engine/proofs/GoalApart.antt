-- No other part looks at the goal of a rollback, and the goal's part looks at nothing that they own.
use Rattle.std.proofs.Common.{◌≡◌, ◌≢◌, ◌||◌, ◌++◌, ℕ, Bool, true, false, codes, None, is_some, refl, sym, ap, subst, ◌∙◌, inl, inr}
use Rattle.std.proofs.lemmas.Bool.{both_ways, cases_Bool, or_from}
use Rattle.std.specs.Cmp.Lexicographic.{nat_list_eq_equiv, same_text}
use Rattle.accounts_stage.specs.AccountsPart.{reads_accounts}
use Rattle.accounts_stage.specs.Places.{account_names, owns_accounts}
use Rattle.accounts_stage.proofs.OwnLemmas.{accounts_open}
use Rattle.boot_entries.specs.BootPart.{reads_boot}
use Rattle.boot_entries.specs.Places.{entries_folder, loader_path, numbered, owns_boot}
use Rattle.boot_entries.proofs.NumberLemmas.{bears_numbered}
use Rattle.boot_entries.specs.Places.{entry_path}
use Rattle.etc_clean.specs.CleanList.{clean_name}
use Rattle.etc_clean.specs.Etc.{static_name}
use Rattle.etc_clean.specs.Names.{is_in_etc, name_of, place}
use Rattle.etc_farm.specs.FarmPart.{owns_farm, reads_farm}
use Rattle.generations.specs.Goal.{goal_place}
use Rattle.generations.specs.GoalPart.{owns_goal, reads_goal}
use Rattle.generations.specs.Places.{profile, profiles}
use Rattle.generations.specs.ProfilePart.{owns_profile, reads_profile}
use Rattle.generations.proofs.ProfileApart.{owned_fails}
use Rattle.host_trait.specs.World.{is_in_line, is_path, stage}
use Rattle.owed_plan.specs.Store.{IsInStore}
use Rattle.switch_engine.proofs.ActivationApart.{fails}
use Rattle.switch_engine.proofs.MenuApart.{menu_fails}
use Rattle.switch_names.specs.Names.{Name}
use Rattle.switch_parts.proofs.LeafLemmas.{BeginApart, none_among, not_line}
use Rattle.switch_parts.specs.Store.{is_in_store}
use Rattle.unit_stage.specs.Owned.{owned_places, owns_units, reads_units}
use Rattle.unit_stage.proofs.OwnedLemmas.{units_open}

-- ---- the goal's part doesn't look at what others own

unread : (q : Name) → is_path q goal_place ≡ false → is_in_store q ≡ false → BeginApart q goal_place → reads_goal q ≡ false
unread q other outside apart = or_from _ _ other (or_from _ _ outside (or_from _ _ (not_line q goal_place apart) refl))

units_unread : (q : Name) → owns_units q ≡ true → reads_goal q ≡ false
unfolding units_open goal_place is_in_store
units_unread = none_among reads_goal owned_places refl

accounts_unread : (q : Name) → owns_accounts q ≡ true → reads_goal q ≡ false
unfolding accounts_open goal_place is_in_store
accounts_unread = none_among reads_goal account_names refl

etc_unread : (q : Name) → reads_goal (place q) ≡ false
unfolding place goal_place is_in_store
etc_unread q = unread (codes "etc/" ++ q) refl refl (record { first = refl; second = refl })

pub goal_unread_activation : (q : Name) → owns_accounts q || owns_farm q ≡ true → reads_goal q ≡ false
goal_unread_activation = fails reads_goal (record { accounts = accounts_unread; etc = etc_unread })

pub goal_unread_switch : (q : Name) → owns_units q || (owns_accounts q || owns_farm q) ≡ true → reads_goal q ≡ false
goal_unread_switch q own = elim (cases_Bool (owns_units q)) [
  | inl units ↦ units_unread q units
  | inr other ↦ goal_unread_activation q (sym (ap (λ b. b || (owns_accounts q || owns_farm q)) other) ∙ own)
]

profile_unread : (rest : Name) → reads_goal (codes "nix/var/nix/profiles/system" ++ rest) ≡ false
unfolding goal_place is_in_store
profile_unread rest = unread (codes "nix/var/nix/profiles/system" ++ rest) refl refl (record { first = refl; second = refl })

menu_unread : (rest : Name) → reads_goal (codes "boot/loader/" ++ rest) ≡ false
unfolding goal_place is_in_store
menu_unread rest = unread (codes "boot/loader/" ++ rest) refl refl (record { first = refl; second = refl })

pub goal_unread_default : (q : Name) → owns_profile q || owns_boot q ≡ true → reads_goal q ≡ false
goal_unread_default q own = elim (cases_Bool (owns_profile q)) [
  | inl is ↦ owned_fails reads_goal profile_unread q is
  | inr other ↦ menu_fails reads_goal menu_unread q (sym (ap (λ b. b || owns_boot q) other) ∙ own)
]

-- ---- others don't look at the goal

at_goal : (test : Name → Bool) → test goal_place ≡ false → (q : Name) → owns_goal q ≡ true → test q ≡ false
at_goal test is q own = ap test (same_text q goal_place (sym own)) ∙ is

units_apart : reads_units goal_place ≡ false
unfolding goal_place stage units_open is_in_store
units_apart = refl

accounts_apart : reads_accounts goal_place ≡ false
unfolding goal_place stage accounts_open is_in_store
accounts_apart = refl

farm_apart : reads_farm goal_place ≡ false
unfolding goal_place stage is_in_etc name_of place clean_name static_name is_in_store
farm_apart = refl

profile_apart : reads_profile goal_place ≡ false
unfolding goal_place stage profiles profile
profile_apart = refl

goal_not_entry : (n : ℕ) → goal_place ≢ entry_path n
unfolding goal_place entry_path
goal_not_entry n same = both_ways (is_path goal_place (entry_path n)) refl (subst (λ x. is_path goal_place x ≡ true) same (nat_list_eq_equiv.refl goal_place))

goal_not_loader : is_path goal_place loader_path ≡ false
unfolding goal_place loader_path
goal_not_loader = refl

goal_away : is_in_store goal_place || (is_path goal_place entries_folder || (is_in_line goal_place entries_folder || (is_in_line goal_place loader_path || is_in_line goal_place stage))) ≡ false
unfolding goal_place loader_path entries_folder stage is_in_store
goal_away = refl

boot_apart : reads_boot goal_place ≡ false
boot_apart =
    ap (λ b. (b || is_some (numbered goal_place)) || (is_in_store goal_place || (is_path goal_place entries_folder || (is_in_line goal_place entries_folder || (is_in_line goal_place loader_path || is_in_line goal_place stage))))) goal_not_loader
    ∙ ap (λ o. is_some o || (is_in_store goal_place || (is_path goal_place entries_folder || (is_in_line goal_place entries_folder || (is_in_line goal_place loader_path || is_in_line goal_place stage)))))
    (sym (bears_numbered goal_place None (λ n small same. goal_not_entry n same)))
    ∙ goal_away

pub activation_unread_goal : (q : Name) → owns_goal q ≡ true → reads_accounts q || reads_farm q ≡ false
activation_unread_goal q own = or_from _ _ (at_goal reads_accounts accounts_apart q own) (at_goal reads_farm farm_apart q own)

pub switch_unread_goal : (q : Name) → owns_goal q ≡ true → reads_units q || (reads_accounts q || reads_farm q) ≡ false
switch_unread_goal q own = or_from _ _ (at_goal reads_units units_apart q own) (activation_unread_goal q own)

pub default_unread_goal : (q : Name) → owns_goal q ≡ true → reads_profile q || reads_boot q ≡ false
default_unread_goal q own = or_from _ _ (at_goal reads_profile profile_apart q own) (at_goal reads_boot boot_apart q own)

-- ---- the goal isn't the stage, and doesn't lie in the store

outside : is_in_store goal_place ≡ false
unfolding goal_place is_in_store
outside = refl

pub goal_not_in_store : (q : Name) → IsInStore q → owns_goal q ≡ false
goal_not_in_store q inside = elim (cases_Bool (owns_goal q)) [
  | inl own ↦ absurd (both_ways _ (at_goal is_in_store outside q own) inside)
  | inr none ↦ none
]

goal_stage : is_path goal_place stage ≡ false
unfolding goal_place stage
goal_stage = refl

pub goal_not_stage : goal_place ≢ stage
goal_not_stage same = both_ways _ goal_stage (subst (λ x. is_path goal_place x ≡ true) same (nat_list_eq_equiv.refl goal_place))

pub goal_owned : owns_goal goal_place ≡ true
goal_owned = nat_list_eq_equiv.refl goal_place
