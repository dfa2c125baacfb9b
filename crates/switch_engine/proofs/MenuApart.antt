-- A switch neither looks at the boot menu nor writes where it looks.
use Rattle.std.proofs.Common.{◌≡◌, ◌≢◌, ◌||◌, ◌++◌, ℕ, Bool, true, false, codes, drop, nat_eq, Option, None, Some, is_some, refl, sym, ap, subst, ◌∙◌, inl, inr}
use Rattle.std.proofs.lemmas.Bool.{both_ways, cases_Bool, or_from}
use Rattle.std.specs.Cmp.Lexicographic.{nat_list_eq_equiv, same_text}
use Rattle.std.specs.List.{starts_with}
use Rattle.accounts_stage.specs.AccountsPart.{reads_accounts}
use Rattle.accounts_stage.specs.Places.{account_names, account_places, owns_accounts}
use Rattle.accounts_stage.proofs.OwnLemmas.{accounts_open}
use Rattle.switch_parts.specs.Store.{is_in_store}
use Rattle.boot_entries.specs.BootPart.{reads_boot}
use Rattle.boot_entries.specs.Places.{entries_folder, entry_path, loader_path, numbered, owns_boot}
use Rattle.boot_entries.proofs.AtEndLemmas.{numbered_is}
use Rattle.boot_entries.proofs.NumberLemmas.{bears_numbered}
use Rattle.etc_clean.specs.CleanList.{clean_name}
use Rattle.etc_clean.specs.Etc.{static_name}
use Rattle.etc_clean.specs.Names.{is_in_etc, place}
use Rattle.etc_farm.specs.FarmPart.{fixed_places, owns_farm, reads_farm}
use Rattle.host_trait.specs.World.{is_in_line, is_path, stage}
use Rattle.switch_engine.proofs.ActivationApart.{fails}
use Rattle.switch_names.specs.Names.{Name}
use Rattle.switch_parts.proofs.LeafLemmas.{none_among, none_near, not_line}
use Rattle.unit_stage.specs.Owned.{owned_places, owns_units, reads_units, unit_places}
use Rattle.unit_stage.proofs.OwnedLemmas.{units_open}

-- ---- what the boot menu looks at

entry_begins : (n : ℕ) → starts_with nat_eq (entry_path n) (codes "boot/loader/") ≡ true
unfolding entry_path
entry_begins n = refl

unnumbered : (q : Name) → starts_with nat_eq q (codes "boot/loader/") ≡ false → numbered q ≡ None
unnumbered q apart =
    sym (bears_numbered q None (λ n small same. both_ways _ apart (subst (λ x. starts_with nat_eq x (codes "boot/loader/") ≡ true) (sym same) (entry_begins n))))

-- what is looked at but the entries
abbrev reads_others : Name → Bool
reads_others q = is_path q loader_path || (is_in_store q || (is_path q entries_folder || (is_in_line q entries_folder || (is_in_line q loader_path || is_in_line q stage))))

joined : (a n rest : Bool) → n ≡ false → a || rest ≡ false → (a || n) || rest ≡ false
joined true n rest none other = other
joined false n rest none other = ap (λ b. b || rest) none ∙ other

away : (q : Name) → starts_with nat_eq q (codes "boot/loader/") ≡ false → reads_others q ≡ false → reads_boot q ≡ false
away q apart other =
    joined (is_path q loader_path) (is_some (numbered q)) (is_in_store q || (is_path q entries_folder || (is_in_line q entries_folder || (is_in_line q loader_path || is_in_line q stage))))
    (ap is_some (unnumbered q apart)) other

-- ---- it doesn't look at what a switch owns

-- a path that begins as the boot menu's
abbrev begins_so : Name → Bool
begins_so q = starts_with nat_eq q (codes "boot/loader/")

units_away : (q : Name) → owns_units q ≡ true → reads_boot q ≡ false
unfolding units_open stage loader_path entries_folder is_in_store
units_away q own = away q (none_among begins_so owned_places refl q own) (none_among reads_others owned_places refl q own)

accounts_away : (q : Name) → owns_accounts q ≡ true → reads_boot q ≡ false
unfolding accounts_open stage loader_path entries_folder is_in_store
accounts_away q own = away q (none_among begins_so account_names refl q own) (none_among reads_others account_names refl q own)

etc_away : (q : Name) → reads_boot (place q) ≡ false
unfolding place stage loader_path entries_folder is_in_store
etc_away q =
    let at = codes "etc/" ++ q in
    away at refl
    (or_from _ _ refl (or_from _ _ refl (or_from _ _ refl
    (or_from _ _ (not_line at entries_folder (record { first = refl; second = refl }))
    (or_from _ _ (not_line at loader_path (record { first = refl; second = refl })) (not_line at stage (record { first = refl; second = refl })))))))

pub menu_unread_activation : (q : Name) → owns_accounts q || owns_farm q ≡ true → reads_boot q ≡ false
menu_unread_activation = fails reads_boot (record { accounts = accounts_away; etc = etc_away })

pub menu_unread : (q : Name) → owns_units q || (owns_accounts q || owns_farm q) ≡ true → reads_boot q ≡ false
menu_unread q own = elim (cases_Bool (owns_units q)) [
  | inl units ↦ units_away q units
  | inr other ↦ menu_unread_activation q (sym (ap (λ b. b || (owns_accounts q || owns_farm q)) other) ∙ own)
]

-- ---- a switch doesn't look at what the boot menu owns

-- a path of the boot menu
abbrev pub menu_path : Name → Name
menu_path rest = codes "boot/loader/" ++ rest

loader_begins : loader_path ≡ menu_path (drop 12 loader_path)
unfolding loader_path
loader_begins = refl

entry_is : (n : ℕ) → entry_path n ≡ menu_path (drop 12 (entry_path n))
unfolding entry_path
entry_is n = refl

owned_begins : (q : Name) → owns_boot q ≡ true → q ≡ menu_path (drop 12 q)
owned_begins q own = elim (cases_Bool (is_path q loader_path)) [
  | inl here ↦ subst (λ x. x ≡ menu_path (drop 12 x)) (sym (same_text q loader_path (sym here))) loader_begins
  | inr other ↦ by (numbered q) refl (sym (ap (λ b. b || is_some (numbered q)) other) ∙ own)
]
  where
    by : (o : Option ℕ) → numbered q ≡ o → is_some o ≡ true → q ≡ menu_path (drop 12 q)
    by None number some = absurd (both_ways _ refl some)
    by (Some n) number some = subst (λ x. x ≡ menu_path (drop 12 x)) (sym (numbered_is q n number).0) (entry_is n)

-- a test that fails at all that begins as the boot menu does fails at each place of it
pub menu_fails : (test : Name → Bool) → ((rest : Name) → test (menu_path rest) ≡ false) → (q : Name) → owns_boot q ≡ true → test q ≡ false
menu_fails test each q own = subst (λ x. test x ≡ false) (sym (owned_begins q own)) (each (drop 12 q))

units_apart : (rest : Name) → reads_units (menu_path rest) ≡ false
unfolding stage units_open is_in_store
units_apart rest = or_from _ _ (or_from _ _ refl (none_near (menu_path rest) unit_places refl)) refl

accounts_apart : (rest : Name) → reads_accounts (menu_path rest) ≡ false
unfolding stage accounts_open is_in_store
accounts_apart rest = or_from _ _ refl (or_from _ _ refl (none_near (menu_path rest) account_places refl))

farm_apart : (rest : Name) → reads_farm (menu_path rest) ≡ false
unfolding stage is_in_etc place clean_name static_name is_in_store
farm_apart rest = or_from _ _ refl (or_from _ _ refl (none_near (menu_path rest) fixed_places refl))

pub activation_unread : (q : Name) → owns_boot q ≡ true → reads_accounts q || reads_farm q ≡ false
activation_unread q own = or_from _ _ (menu_fails reads_accounts accounts_apart q own) (menu_fails reads_farm farm_apart q own)

pub switch_unread : (q : Name) → owns_boot q ≡ true → reads_units q || (reads_accounts q || reads_farm q) ≡ false
switch_unread q own = or_from _ _ (menu_fails reads_units units_apart q own) (activation_unread q own)

-- ---- no place of it is the stage

stage_apart : (rest : Name) → is_path (menu_path rest) stage ≡ false
unfolding stage
stage_apart rest = refl

pub menu_not_stage : (q : Name) → owns_boot q ≡ true → q ≢ stage
menu_not_stage q own same = both_ways _ (menu_fails (λ p. is_path p stage) stage_apart q own) (subst (λ x. is_path x stage ≡ true) (sym same) (nat_list_eq_equiv.refl stage))
