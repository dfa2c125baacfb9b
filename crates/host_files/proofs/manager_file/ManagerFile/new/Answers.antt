use Rattle.std.proofs.Common.{rules}
use Rattle.host_files.proofs.manager_file.ManagerFile.new.Goals as goal

pub returns-clause-draft : goal.returns-clause-draft
returns-clause-draft c = search rules steps 300000
