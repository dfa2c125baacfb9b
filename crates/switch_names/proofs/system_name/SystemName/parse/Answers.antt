use Rattle.std.proofs.Common.{◌≡◌, None, rules, sym, subst}
use Rattle.switch_names.specs.Path.{IsPath}
use Rattle.switch_names.specs.SystemName.{system_fault, system_path}
use Rattle.switch_names.proofs.StorePaths.{IsSystemPath-from_named, IsPath-from_system}
use Rattle.switch_names.proofs.system_name.SystemName.parse.Goals as goal

-- what names a system without a fault is the path of one
pub of_checked-requires : goal.of_checked-requires
of_checked-requires c =
    let named : system_fault c.args.text.now ≡ None = search rules in
    let is = IsSystemPath-from_named c.args.text.now named in
    subst (λ path. IsPath path) (sym c.without_slash.ensures) (IsPath-from_system (system_path c.args.text.now) is)
