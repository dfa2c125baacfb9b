use Rattle.std.proofs.Common.{ap, arith, length, sym}
use Rattle.switch_names.proofs.Joined.{joined_path}
use Rattle.switch_names.proofs.StorePaths.{IsPath-from_system, system_short}
use Rattle.switch_names.proofs.system_name.SystemName.place.Goals as goal

-- the path of a system and a short name below it are no longer than a path may be
pub join_checked-requires : goal.join_checked-requires
join_checked-requires c =
    let system = system_short c.self.inside.path c.self.invariant in
    joined_path c.self.inside.path c.args.name.now (IsPath-from_system c.self.inside.path c.self.invariant) c.requires.path (omega (arith, system, c.requires.short))
