use Rattle.host_folder.proofs.Silence.{silence, silent_end}
use Rattle.host_folder.proofs.host.FolderHostTree.append.Goals as goal

pub returns-clause-moments : goal.returns-clause-moments
returns-clause-moments g c = silence _ _ _

pub returns-clause-ok : goal.returns-clause-ok
returns-clause-ok g c = silent_end c.counted.result _ _ _
