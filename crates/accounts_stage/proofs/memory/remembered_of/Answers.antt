use Rattle.std.proofs.Common.{rules}
use Rattle.accounts_stage.proofs.memory.remembered_of.Goals as goal

pub returns-in_err-uids-clause-remembered : goal.returns-in_err-uids-clause-remembered
returns-in_err-uids-clause-remembered c = search rules steps 300000

pub returns-clause-remembered : goal.returns-clause-remembered
returns-clause-remembered c = search rules steps 300000
