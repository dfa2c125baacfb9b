-- What a reader of a name answers.
use Rattle.std.specs.Prelude.{◌≡◌, ◌⊎◌, Option, Some, IfErr, Result}
use Rattle.switch_names.specs.declared.name_fault.NameFault.{NameFault}
use Rattle.switch_names.specs.declared.name_fault.NameFault.TheVariants.{Memory}

-- where the text is refused, it is by this fault, unless memory ran out
abbrev pub IsRefusedBy : {T : Type 0} → Result T NameFault → Option NameFault → Type 0
IsRefusedBy result fault = IfErr result (λ given. (given ≡ Memory) ⊎ (fault ≡ Some given))
