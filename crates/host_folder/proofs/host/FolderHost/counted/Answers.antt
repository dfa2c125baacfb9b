use Rattle.std.proofs.Common.{rules}
use Rattle.host_folder.proofs.host.FolderHost.counted.Goals as goal

pub returns-after-eq : goal.returns-after-eq
returns-after-eq g c = search rules
