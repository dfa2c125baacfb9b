use Rattle.std.proofs.Common.{rules}
use Rattle.unit_text.proofs.reader.Reader.take_bad.Goals as goal

pub returns-then-is_comment-clause-ok : goal.returns-then-is_comment-clause-ok
returns-then-is_comment-clause-ok c = search rules steps 300000

pub returns-else-is_comment-clause-fault : goal.returns-else-is_comment-clause-fault
returns-else-is_comment-clause-fault c = search rules steps 300000
