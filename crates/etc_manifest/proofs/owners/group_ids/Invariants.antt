use Rattle.std.proofs.Common.{take}
use Rattle.account_text.specs.Group.{group_name}
use Rattle.etc_manifest.specs.Owners.{AreIdsOf, ids_in}
use Rattle.etc_manifest.proofs.owners.group_ids.Given as goal

-- the names of the rows so far have their ids
abbrev pub invariant-loop-row : goal.invariant-loop-row
invariant-loop-row l = AreIdsOf group_name (λ row. row.gid) (take l.row-index l.rows) (ids_in l.ids)
