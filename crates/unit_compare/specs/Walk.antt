-- Two texts side by side, a key at a time.
use Rattle.std.specs.Prelude.{ℕ, ◌||◌, List, Option, None, Some, if◌then◌else◌}
use Rattle.std.specs.declared.cmp.Ordering.{Ordering}
use Rattle.std.specs.declared.cmp.Ordering.TheVariants.{Less, Greater}
use Rattle.switch_names.specs.declared.unit_kind.UnitKind.{UnitKind}
use Rattle.unit_text.specs.declared.unit_key.UnitKey.{UnitKey}
use Rattle.unit_text.specs.UnitKey.{key_cmp}
use Rattle.unit_compare.specs.declared.comparison.Comparison.{Comparison}
use Rattle.unit_compare.specs.declared.comparison.Comparison.TheVariants.{Same, ReloadOnly, Changed}
use Rattle.unit_compare.specs.Compare.{is_ignored, are_same_values, is_reload_key}

-- the comparison by one key with its values in the two texts
abbrev pub key_comparison : UnitKind → UnitKey → List (List ℕ) → List (List ℕ) → Comparison
key_comparison kind key old new =
    if is_ignored key || are_same_values old new then Same
    else if is_reload_key kind key then ReloadOnly
    else Changed

-- the greater change of two
abbrev pub worse : Comparison → Comparison → Comparison
worse Same other = other
worse ReloadOnly Same = ReloadOnly
worse ReloadOnly ReloadOnly = ReloadOnly
worse ReloadOnly Changed = Changed
worse Changed other = Changed

-- how the next keys of two texts stand to each other, where one is left: a text that has none left stands behind
abbrev pub next_order : Option UnitKey → Option UnitKey → Option Ordering
next_order (Some old) (Some new) = Some (key_cmp old new)
next_order (Some old) None = Some Less
next_order None (Some new) = Some Greater
next_order None None = None
