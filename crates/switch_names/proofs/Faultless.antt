-- Texts in which no fault is found: the four that are sought in turn, of which the last differs.
use Rattle.std.proofs.Common.{◌≡◌, ℕ, Bool, true, false, Option, None, Some, option_map, if◌then◌else◌, refl}
use Rattle.std.specs.Option.{option_or}
use Rattle.switch_names.specs.declared.name_fault.NameFault.{NameFault}
use Rattle.switch_names.specs.declared.name_fault.NameFault.TheVariants.{Empty, Long, Kind}

abbrev pub sought : Bool → Bool → Option NameFault → Bool → NameFault → Option NameFault
sought empty long byte last fault =
    if empty then Some Empty else if long then Some Long else option_or byte (if last then Some fault else None)

-- the text has none of the four
pub record HasNone (empty long : Bool) (byte : Option NameFault) (last : Bool) : Type 0 where
  pub not_empty : empty ≡ false
  pub not_long : long ≡ false
  pub no_byte : byte ≡ None
  pub not_last : last ≡ false

pub HasNone-from_sought : (empty long : Bool) (byte : Option NameFault) (last : Bool) (fault : NameFault) → sought empty long byte last fault ≡ None → HasNone empty long byte last
HasNone-from_sought true long byte last fault none = absurd cc
HasNone-from_sought false true byte last fault none = absurd cc
HasNone-from_sought false false (Some found) last fault none = absurd cc
HasNone-from_sought false false None true fault none = absurd cc
HasNone-from_sought false false None false fault none = record { not_empty = refl; not_long = refl; no_byte = refl; not_last = refl }

pub sought-from_HasNone : (empty long : Bool) (byte : Option NameFault) (last : Bool) (fault : NameFault) → HasNone empty long byte last → sought empty long byte last fault ≡ None
sought-from_HasNone true long byte last fault is = absurd cc
sought-from_HasNone false true byte last fault is = absurd cc
sought-from_HasNone false false (Some found) last fault is = absurd cc
sought-from_HasNone false false None true fault is = absurd cc
sought-from_HasNone false false None false fault is = refl

-- a place is found where a fault is made of it
pub no_place : {T : Type 0} (f : ℕ → T) (place : Option ℕ) → option_map f place ≡ None → place ≡ None
no_place f None none = refl
no_place f (Some at) none = absurd cc

-- a text of the kind that is sought has the faults of that kind
pub of_kind : (kind : Bool) (fault : Option NameFault) → (if kind then fault else Some Kind) ≡ None → (kind ≡ true) × (fault ≡ None)
of_kind true fault none = (refl, none)
of_kind false fault none = absurd cc
