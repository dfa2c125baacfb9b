use Rattle.std.proofs.Common.{subst}
use Rattle.switch_names.specs.Path.{IsPath}
use Rattle.switch_names.proofs.StorePaths.{IsPath-from_system}
use Rattle.switch_names.proofs.system_name.SystemName.path.Goals as goal

pub returns-clause-is_path : goal.returns-clause-is_path
returns-clause-is_path c = subst (λ path. IsPath path) c.self.view_is (IsPath-from_system _ c.self.invariant)
