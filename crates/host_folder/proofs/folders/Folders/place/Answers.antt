use Rattle.std.proofs.Common.{rules}
use Rattle.host_folder.proofs.folders.Folders.place.Goals as goal

pub returns : goal.returns
returns c = search rules
