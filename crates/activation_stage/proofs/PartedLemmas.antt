-- Neither the accounts nor the farm looks at what the other owns.
use Rattle.std.proofs.Common.{◌≡◌, ◌||◌, Bool, true, false, [], ◌∷◌, codes, refl, sym, ap, subst, ◌∙◌, inl, inr}
use Rattle.std.proofs.lemmas.Bool.{both_ways, cases_Bool}
use Rattle.std.specs.List.{AllByRecursion}
use Rattle.switch_names.specs.Names.{Name, is_name}
use Rattle.host_trait.specs.World.{is_in_line, stage}
use Rattle.host_trait.proofs.Places.{same_or_other}
use Rattle.switch_parts.specs.Leaves.{is_near}
use Rattle.switch_parts.specs.Part.{AreParted}
use Rattle.switch_parts.specs.Store.{is_in_store}
use Rattle.switch_parts.proofs.LeafLemmas.{none_among, none_near}
use Rattle.etc_manifest.specs.Owners.{OwnerIds}
use Rattle.etc_manifest.specs.Place.{is_reserved, reserved_names}
use Rattle.etc_clean.specs.CleanList.{clean_name}
use Rattle.etc_clean.specs.Etc.{is_owned, static_name}
use Rattle.etc_clean.specs.Names.{is_in_etc, name_of, place}
use Rattle.etc_clean.proofs.KeepsLemmas.{owned_free}
use Rattle.etc_farm.specs.EtcPart.{etc_part}
use Rattle.etc_farm.specs.FarmPart.{owns_farm, reads_farm}
use Rattle.etc_farm.proofs.LineLemmas.{free_line}
use Rattle.etc_farm.proofs.PlaceLemmas.{owned_read, place_of_owned}
use Rattle.etc_farm.proofs.StoreLemmas.{place_not_stored}
use Rattle.accounts_stage.specs.AccountsPart.{accounts_part, reads_accounts}
use Rattle.accounts_stage.specs.Places.{account_names, account_places, group_place, memory_places, owns_accounts, passwd_place, shadow_place, table_places}
use Rattle.accounts_stage.proofs.OwnLemmas.{accounts_open}

-- ---- a farm doesn't look at the places of accounts

pub accounts_unread : (at : Name) → owns_accounts at ≡ true → reads_farm at ≡ false
unfolding accounts_open is_in_etc name_of place static_name clean_name reserved_names stage is_in_store
accounts_unread at own = none_among reads_farm account_names refl at own

-- ---- the accounts don't look at the places of a farm

not_account : (at : Name) → owns_farm at ≡ true → owns_accounts at ≡ false
not_account at own = elim (cases_Bool (owns_accounts at)) [
  | inl account ↦ absurd (both_ways _ (accounts_unread at account) (owned_read at own))
  | inr other ↦ other
]

-- a table is in line with none of the farm's names
static_line : AllByRecursion (λ name. is_in_line (place static_name) (place name) ≡ false) (codes "group" ∷ codes "passwd" ∷ codes "shadow" ∷ [])
unfolding place static_name
static_line = (refl, (refl, (refl, tt)))

clean_line : AllByRecursion (λ name. is_in_line (place clean_name) (place name) ≡ false) (codes "group" ∷ codes "passwd" ∷ codes "shadow" ∷ [])
unfolding place clean_name
clean_line = (refl, (refl, (refl, tt)))

tables_reserved : AllByRecursion (λ name. is_reserved name ≡ true) (codes "group" ∷ codes "passwd" ∷ codes "shadow" ∷ [])
unfolding reserved_names
tables_reserved = (refl, (refl, (refl, tt)))

none_of : (a b c d : Bool) → a ≡ false → b ≡ false → c ≡ false → d ≡ false → a || (b || (c || d)) ≡ false
none_of a b c d first second third fourth = ap (λ x. x || (b || (c || d))) first ∙ ap (λ x. x || (c || d)) second ∙ ap (λ x. x || d) third ∙ fourth

none_of_three : (a b c : Bool) → a ≡ false → b ≡ false → c ≡ false → a || (b || c) ≡ false
none_of_three a b c first second third = ap (λ x. x || (b || c)) first ∙ ap (λ x. x || c) second ∙ third

group_is : place (codes "group") ≡ group_place
unfolding place group_place
group_is = refl

passwd_is : place (codes "passwd") ≡ passwd_place
unfolding place passwd_place
passwd_is = refl

shadow_is : place (codes "shadow") ≡ shadow_place
unfolding place shadow_place
shadow_is = refl

-- nothing below /etc is near the stage or what is remembered
memory_apart : (q : Name) → is_near (record { at = stage; is_read = false } ∷ memory_places) (place q) ≡ false
unfolding accounts_open place stage
memory_apart q = none_near (place q) (record { at = stage; is_read = false } ∷ memory_places) refl

module _ (q : Name) (own : is_owned q ≡ true) where
  out_of_line : (table : Name) → is_in_line (place static_name) (place table) ≡ false → is_in_line (place clean_name) (place table) ≡ false → is_reserved table ≡ true →
      is_in_line (place q) (place table) ≡ false
  out_of_line table fixed clean reserved = elim (same_or_other q static_name) [
    | inl same ↦ subst (λ p. is_in_line (place p) (place table) ≡ false) (sym same) fixed
    | inr not_static ↦ elim (same_or_other q clean_name) [
      | inl same ↦ subst (λ p. is_in_line (place p) (place table) ≡ false) (sym same) clean
      | inr not_clean ↦ free_line q table (owned_free (is_name q static_name) (is_name q clean_name) (is_reserved q) not_static not_clean own) reserved
    ]
  ]

  not_near : is_near account_places (place q) ≡ false
  unfolding table_places
  not_near = none_of (is_in_line (place q) group_place) (is_in_line (place q) passwd_place) (is_in_line (place q) shadow_place) (is_near (record { at = stage; is_read = false } ∷ memory_places) (place q))
      (subst (λ p. is_in_line (place q) p ≡ false) group_is (out_of_line (codes "group") static_line.0 clean_line.0 tables_reserved.0))
      (subst (λ p. is_in_line (place q) p ≡ false) passwd_is (out_of_line (codes "passwd") static_line.1.0 clean_line.1.0 tables_reserved.1.0))
      (subst (λ p. is_in_line (place q) p ≡ false) shadow_is (out_of_line (codes "shadow") static_line.1.1.0 clean_line.1.1.0 tables_reserved.1.1.0))
      (memory_apart q)

pub farm_unread : (at : Name) → owns_farm at ≡ true → reads_accounts at ≡ false
farm_unread at own =
    let named = place_of_owned at own in
    none_of_three (owns_accounts at) (is_in_store at) (is_near account_places at) (not_account at own)
    (subst (λ p. is_in_store p ≡ false) (sym named.0) (place_not_stored (name_of at)))
    (subst (λ p. is_near account_places p ≡ false) (sym named.0) (not_near (name_of at) named.1))

-- the two parts are parted
pub are_parted : (system : Name) (owners : OwnerIds) → AreParted (accounts_part system) (etc_part system owners)
are_parted system owners = record { first = accounts_unread; second = farm_unread; manager = refl }
