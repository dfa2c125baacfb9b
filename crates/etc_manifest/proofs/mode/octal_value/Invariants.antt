use Rattle.std.proofs.Common.{◌≡◌, ◌≤◌, true, drop}
use Rattle.std.specs.List.{list_all}
use Rattle.std.specs.Str.Parse.{digits_value, digits_value_after}
use Rattle.etc_manifest.specs.Kind.{is_octal_digit}
use Rattle.etc_manifest.proofs.ModeLemmas.{octal_max}
use Rattle.etc_manifest.proofs.mode.octal_value.Given as goal

-- the digits that are left complete the number, which is no greater than so many digits write
abbrev pub invariant-loop-digit : goal.invariant-loop-digit
invariant-loop-digit l = record {
  value : digits_value_after 8 l.value (drop l.digit-index l.digits) ≡ digits_value 8 l.digits;
  small : l.value ≤ octal_max l.digit-index;
  left : list_all is_octal_digit (drop l.digit-index l.digits) ≡ true;
}
