use Rattle.std.proofs.Common.{◌&&◌, codes, rules, sym, ap, ◌∙◌}
use Rattle.switch_names.specs.declared.unit_kind.UnitKind.{UnitKind}
use Rattle.unit_text.specs.UnitKey.{is_same_key, key_of}
use Rattle.unit_compare.specs.Compare.{is_mount}
use Rattle.unit_compare.proofs.keys.is_mount_option.Goals as goal

pub returns-in-Mount : goal.returns-in-Mount
returns-in-Mount c =
    c.is_named.ensures ∙ ap (λ (kind : UnitKind). is_mount kind && is_same_key c.args.key.now (key_of (codes "Mount") (codes "Options"))) (sym c.in-Mount.is)

pub returns-in_default : goal.returns-in_default
returns-in_default c = search rules
