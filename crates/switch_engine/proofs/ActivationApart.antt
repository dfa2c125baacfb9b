-- What an activation owns and looks at, the units' part and the profile's neither look at nor own.
use Rattle.std.proofs.Common.{◌≡◌, Bool, true, false, ◌||◌, ◌++◌, codes, Some, refl, sym, ap, subst, ◌∙◌, inl, inr}
use Rattle.std.proofs.lemmas.Bool.{cases_Bool, or_from}
use Rattle.accounts_stage.specs.AccountsPart.{reads_accounts}
use Rattle.accounts_stage.specs.Places.{account_names, account_places, owns_accounts}
use Rattle.accounts_stage.proofs.OwnLemmas.{accounts_open, store_unowned}
use Rattle.activation_stage.specs.ActivationPart.{activation_part}
use Rattle.etc_clean.specs.CleanList.{clean_name}
use Rattle.etc_clean.specs.Etc.{static_name}
use Rattle.etc_clean.specs.Names.{is_in_etc, name_of, place}
use Rattle.switch_parts.specs.Store.{is_in_store}
use Rattle.etc_farm.specs.FarmPart.{fixed_places, owns_farm, reads_farm, static_target}
use Rattle.etc_farm.proofs.PlaceLemmas.{place_of_owned}
use Rattle.etc_farm.proofs.StoreLemmas.{store_not_owned}
use Rattle.etc_manifest.specs.Owners.{OwnerIds}
use Rattle.generations.specs.Places.{profiles}
use Rattle.generations.specs.ProfilePart.{owns_profile, reads_profile}
use Rattle.generations.proofs.ProfileApart.{etc_unread, owned_fails}
use Rattle.host_trait.specs.Change.{definitions_place}
use Rattle.host_trait.specs.declared.leaf.LeafKind.TheVariants.{Link}
use Rattle.host_trait.specs.World.{Leaves, stage}
use Rattle.owed_plan.specs.Store.{IsInStore}
use Rattle.switch_names.specs.Names.{Name}
use Rattle.switch_parts.specs.Part.{AreParted}
use Rattle.switch_parts.proofs.LeafLemmas.{none_among, none_near}
use Rattle.unit_stage.specs.Owned.{owned_places, owns_units, reads_units, unit_places}
use Rattle.unit_stage.specs.System.{definitions_of}
use Rattle.unit_stage.specs.Units.{units_part}
use Rattle.unit_stage.proofs.OwnedLemmas.{units_open}

-- ---- what an activation owns

-- a test that fails at the places of the accounts, and at all that lies below /etc
pub record FailsAtEach (test : Name → Bool) : Type 0 where
  pub accounts : (q : Name) → owns_accounts q ≡ true → test q ≡ false
  pub etc : (q : Name) → test (place q) ≡ false

-- fails at all that an activation owns
pub fails : (test : Name → Bool) → FailsAtEach test → (q : Name) → owns_accounts q || owns_farm q ≡ true → test q ≡ false
fails test failed q own = elim (cases_Bool (owns_accounts q)) [
  | inl among ↦ failed.accounts q among
  | inr other ↦
      let farm : owns_farm q ≡ true = sym (ap (λ b. b || owns_farm q) other) ∙ own in
      subst (λ x. test x ≡ false) (sym (place_of_owned q farm).0) (failed.etc (name_of q))
]

unread_accounts : (q : Name) → owns_accounts q ≡ true → reads_units q ≡ false
unfolding accounts_open units_open stage is_in_store
unread_accounts = none_among reads_units account_names refl

unread_etc : (q : Name) → reads_units (place q) ≡ false
unfolding place stage units_open is_in_store
unread_etc q = or_from _ _ (or_from _ _ refl (none_near (codes "etc/" ++ q) unit_places refl)) refl

units_unread : (q : Name) → owns_accounts q || owns_farm q ≡ true → reads_units q ≡ false
units_unread = fails reads_units (record { accounts = unread_accounts; etc = unread_etc })

profile_accounts : (q : Name) → owns_accounts q ≡ true → reads_profile q ≡ false
unfolding accounts_open profiles stage
profile_accounts = none_among reads_profile account_names refl

profile_etc : (q : Name) → reads_profile (place q) ≡ false
unfolding place
profile_etc q = etc_unread q

pub profile_unread : (q : Name) → owns_accounts q || owns_farm q ≡ true → reads_profile q ≡ false
profile_unread = fails reads_profile (record { accounts = profile_accounts; etc = profile_etc })

-- an activation writes nothing in the store
pub not_owns_store : (q : Name) → IsInStore q → owns_accounts q || owns_farm q ≡ false
not_owns_store q inside = or_from _ _ (store_unowned q inside) (store_not_owned q inside)

-- ---- what an activation looks at

units_accounts : (q : Name) → owns_units q ≡ true → reads_accounts q ≡ false
unfolding units_open accounts_open stage is_in_store
units_accounts = none_among reads_accounts owned_places refl

units_farm : (q : Name) → owns_units q ≡ true → reads_farm q ≡ false
unfolding units_open stage is_in_etc name_of place clean_name static_name is_in_store
units_farm = none_among reads_farm owned_places refl

activation_unread : (q : Name) → owns_units q ≡ true → reads_accounts q || reads_farm q ≡ false
activation_unread q own = or_from _ _ (units_accounts q own) (units_farm q own)

-- a path that begins as the profile does
abbrev pub profile_path : Name → Name
profile_path rest = codes "nix/var/nix/profiles/system" ++ rest

accounts_apart : (rest : Name) → reads_accounts (profile_path rest) ≡ false
unfolding stage accounts_open is_in_store
accounts_apart rest = or_from _ _ refl (or_from _ _ refl (none_near (profile_path rest) account_places refl))

farm_apart : (rest : Name) → reads_farm (profile_path rest) ≡ false
unfolding stage is_in_etc place clean_name static_name is_in_store
farm_apart rest = or_from _ _ refl (or_from _ _ refl (none_near (profile_path rest) fixed_places refl))

pub activation_apart : (q : Name) → owns_profile q ≡ true → reads_accounts q || reads_farm q ≡ false
activation_apart q own = or_from _ _ (owned_fails reads_accounts accounts_apart q own) (owned_fails reads_farm farm_apart q own)

-- ---- neither looks at what the other owns

pub units_parted : (start_up : Bool) (system : Name) (owners : OwnerIds) → AreParted (units_part start_up system) (activation_part system owners)
units_parted start_up system owners = record { first = activation_unread; second = units_unread; manager = refl }

-- ---- the link at `static`

pub definitions_owned : owns_accounts definitions_place || owns_farm definitions_place ≡ true
unfolding definitions_place accounts_open is_in_etc name_of static_name
definitions_owned = refl

-- it leads to the definitions that are loaded
pub definitions_end : (system : Name) (owners : OwnerIds) (leaves : Leaves) → (activation_part system owners).end leaves definitions_place ≡ Some (Link (definitions_of system))
unfolding definitions_place accounts_open name_of static_name static_target
definitions_end system owners leaves = refl
