use Rattle.std.proofs.Common.{refl}
use Rattle.host_folder.proofs.host.FolderHost.open.Goals as goal

pub returns-clause-root : goal.returns-clause-root
returns-clause-root g c = c.in_ok-new.ensures.root

pub returns-clause-tree : goal.returns-clause-tree
returns-clause-tree g c = c.in_ok-new.ensures.tree

pub returns-clause-faults : goal.returns-clause-faults
returns-clause-faults g c = refl
