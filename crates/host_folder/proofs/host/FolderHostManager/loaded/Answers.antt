use Rattle.host_folder.proofs.Silence.{silence}
use Rattle.host_folder.proofs.host.FolderHostManager.loaded.Goals as goal

pub returns-clause-reads : goal.returns-clause-reads
returns-clause-reads g c = record { moments = silence _ _ _; cause = c.counted.ensures }
