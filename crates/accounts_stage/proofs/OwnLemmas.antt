-- The places of accounts, and what setting accounts looks at.
use Rattle.std.proofs.Common.{◌≡◌, ◌≢◌, ◌||◌, Bool, not, true, false, List, [], ◌∷◌, ◌++◌, codes, drop, refl, sym, ap, subst, ◌∙◌, inl, inr}
use Rattle.std.proofs.lemmas.Bool.{and_parts, both_ways, cases_Bool, or_left, or_parts, or_right}
use Rattle.std.specs.Cmp.Lexicographic.{nat_list_eq_equiv, same_text}
use Rattle.std.specs.List.{AllByRecursion, list_all, list_any}
use Rattle.switch_names.specs.Names.{Name}
use Rattle.switch_names.specs.SystemName.{IsSystemPath}
use Rattle.host_trait.specs.World.{is_in_line, is_path, stage}
use Rattle.switch_parts.specs.Leaves.{is_near}
use Rattle.switch_parts.proofs.LeafLemmas.{none_among}
use Rattle.tree_put.specs.declared.written_place.WrittenPlace.{WrittenPlace}
use Rattle.switch_parts.specs.Store.{is_in_store}
use Rattle.switch_parts.proofs.StoreLemmas.{store_is, system_stored}
use Rattle.accounts_stage.specs.AccountsPart.{reads_accounts}
use Rattle.accounts_stage.specs.Places.{account_names, account_places, gids_place, group_place, groups_place, memory_places, owns_accounts, passwd_place, shadow_place, spec_path, table_places, uids_place, users_place}

-- what a proof opens to compute with the places of accounts
unfoldable pub accounts_open : Unit {0}
unfolding account_names table_places memory_places group_place passwd_place shadow_place groups_place users_place gids_place uids_place
accounts_open = tt

pub owned_read : (q : Name) → owns_accounts q ≡ true → reads_accounts q ≡ true
owned_read q own = or_left (owns_accounts q) (is_in_store q || is_near account_places q) own

pub store_read : (q : Name) → is_in_store q ≡ true → reads_accounts q ≡ true
store_read q is = or_right (owns_accounts q) (is_in_store q || is_near account_places q) (or_left (is_in_store q) (is_near account_places q) is)

pub near_read : (q : Name) → is_near account_places q ≡ true → reads_accounts q ≡ true
near_read q is = or_right (owns_accounts q) (is_in_store q || is_near account_places q) (or_right (is_in_store q) (is_near account_places q) is)

-- ---- the stage

pub stage_unread : reads_accounts stage ≡ false
unfolding stage accounts_open is_in_store
stage_unread = refl

pub not_stage : (q : Name) → reads_accounts q ≡ true → q ≢ stage
not_stage q read same = both_ways _ stage_unread (subst (λ p. reads_accounts p ≡ true) same read)

-- ---- the store

-- what a system declares of accounts lies there
pub spec_stored : (system : Name) → IsSystemPath system → is_in_store (spec_path system) ≡ true
unfolding spec_path
spec_stored system named = system_stored system (codes "/users-groups.json") named

-- and is no place of accounts
pub store_apart : (at q : Name) → owns_accounts at ≡ true → is_in_store q ≡ true → is_path q at ≡ false
unfolding accounts_open
store_apart at q own is = subst (λ p. is_path p at ≡ false) (sym (store_is q is)) (none_among (is_path (codes "nix/store/" ++ drop 10 q)) account_names refl at own)

pub store_unowned : (q : Name) → is_in_store q ≡ true → owns_accounts q ≡ false
store_unowned q is = elim (cases_Bool (owns_accounts q)) [
  | inl own ↦ absurd (both_ways _ (store_apart q q own is) (nat_list_eq_equiv.refl q))
  | inr none ↦ none
]

-- a path that is no place of accounts is none of them
pub other_owned : (q at : Name) → owns_accounts q ≡ false → owns_accounts at ≡ true → is_path q at ≡ false
other_owned q at none own = elim (cases_Bool (is_path q at)) [
  | inl is ↦ absurd (both_ways _ none (ap owns_accounts (same_text q at (sym is)) ∙ own))
  | inr other ↦ other
]

-- ---- each of the places

-- no place of accounts lies above or below another, nor above or below the stage
abbrev pub IsApart : Name → Type 0
IsApart at = AllByRecursion (λ (place : WrittenPlace). is_in_line at place.at ≡ false) account_places

-- a test that fails at any of some places fails at each
pub none_any : (test : WrittenPlace → Bool) (places : List WrittenPlace) → list_any test places ≡ false → AllByRecursion (λ place. test place ≡ false) places
none_any test [] none = tt
none_any test (place ∷ places) none = let parts = or_parts (test place) (list_any test places) none in (parts.0, none_any test places parts.1)

pub apart : (at : Name) → owns_accounts at ≡ true → IsApart at
unfolding accounts_open stage
apart at own = none_any (λ place. is_in_line at place.at) account_places (none_among (is_near account_places) account_names refl at own)

-- each place that is read before it is written is one of accounts
pub reads_own : AllByRecursion (λ (place : WrittenPlace). place.is_read ≡ true → owns_accounts place.at ≡ true) account_places
unfolding accounts_open stage
reads_own = each account_places refl
  where
    each : (places : List WrittenPlace) → list_all (λ (place : WrittenPlace). not place.is_read || owns_accounts place.at) places ≡ true →
        AllByRecursion (λ (place : WrittenPlace). place.is_read ≡ true → owns_accounts place.at ≡ true) places
    each [] all = tt
    each (place ∷ places) all =
        let parts = and_parts (not place.is_read || owns_accounts place.at) (list_all (λ (other : WrittenPlace). not other.is_read || owns_accounts other.at) places) all in
        (λ is. sym (ap (λ b. not b || owns_accounts place.at) is) ∙ parts.0, each places parts.1)
