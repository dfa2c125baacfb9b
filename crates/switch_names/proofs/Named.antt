-- What a text names: something where it has no fault.
use Rattle.std.proofs.Common.{◌≡◌, ◌≢◌, Option, None, Some, is_none, is_some, if◌then◌else◌, refl}
use Rattle.switch_names.specs.declared.name_fault.NameFault.{NameFault}

-- what is named by a text with this fault, or none
abbrev pub named_by : {X : Type 0} → X → Option NameFault → Option X
named_by named fault = if is_none fault then Some named else None

module _ {X : Type 0} (named : X) where
  pub is_named : (fault : Option NameFault) → is_some (named_by named fault) ≡ is_none fault
  is_named None = refl
  is_named (Some fault) = refl

  pub some_named : (fault : Option NameFault) (given : X) → Some given ≡ named_by named fault → (fault ≡ None) × (given ≡ named)
  some_named None given is = (refl, cc)
  some_named (Some fault) given is = absurd cc

  pub none_named : (fault : Option NameFault) → None ≡ named_by named fault → fault ≢ None
  none_named None is = absurd cc
  none_named (Some fault) is = λ same. absurd cc
