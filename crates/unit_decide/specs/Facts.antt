-- What the table of decisions reads of a unit that two systems define, or don't: NixOS manual, "Unit handling".
use Rattle.std.specs.Prelude.{◌||◌, Bool, List, [], Option, None, Some, is_some, unwrap_or, codes, nat_eq}
use Rattle.std.specs.Cmp.Lexicographic.{pointwise}
use Rattle.switch_names.specs.declared.unit_kind.UnitKind.{UnitKind}
use Rattle.switch_names.specs.declared.unit_kind.UnitKind.TheVariants.{Service}
use Rattle.switch_names.specs.UnitKind.{kind_of}
use Rattle.unit_compare.specs.declared.comparison.Comparison.{Comparison}
use Rattle.unit_compare.specs.declared.comparison.Comparison.TheVariants.{Same}
use Rattle.unit_compare.specs.Compare.{comparison}
use Rattle.unit_decide.specs.declared.facts.Facts.{Facts}
use Rattle.unit_decide.specs.Flags.{may_start, only_manual_start, refuse_manual_stop, reload_if_changed, restart_if_changed, stop_if_changed, stop_on_reconfiguration, stop_on_removal}
use Rattle.switch_names.specs.Names.{Name}
use Rattle.unit_text.specs.declared.assignment.Assignment.{Assignment}

-- the mounts that the running system stands on
abbrev pub is_root_mount : Name → Bool
is_root_mount unit = pointwise nat_eq unit (codes "-.mount") || pointwise nat_eq unit (codes "nix.mount")

-- how the two texts differ; a unit that one of the systems doesn't define has no change
abbrev pub outcome_between : UnitKind → Option (List Assignment) → Option (List Assignment) → Comparison
outcome_between kind None new = Same
outcome_between kind (Some old) None = Same
outcome_between kind (Some old) (Some new) = comparison kind old new

-- the kind of a unit, which each unit name has
abbrev pub unit_kind : Name → UnitKind
unit_kind unit = unwrap_or (kind_of unit) Service

-- what two texts say of a unit; a system that doesn't define it says no more than an empty text
abbrev pub facts_of : Option (List Assignment) → Option (List Assignment) → Name → Facts
facts_of old new unit =
    let before : List Assignment = unwrap_or old [] in
    let after : List Assignment = unwrap_or new [] in
    record {
      kind = unit_kind unit;
      in_old = is_some old;
      in_new = is_some new;
      outcome = outcome_between (unit_kind unit) old new;
      stop_on_removal = stop_on_removal before;
      stop_on_reconfiguration = stop_on_reconfiguration after;
      may_start = may_start after;
      is_root_mount = is_root_mount unit;
      reload_if_changed = reload_if_changed after;
      restart_if_changed = restart_if_changed after;
      refuse_manual_stop = refuse_manual_stop after;
      only_manual_start = only_manual_start after;
      stop_if_changed = stop_if_changed after;
    }
