use Rattle.std.proofs.Common.{take}
use Rattle.account_text.specs.Passwd.{passwd_name}
use Rattle.etc_manifest.specs.Owners.{AreIdsOf, ids_in}
use Rattle.etc_manifest.proofs.owners.user_ids.Given as goal

-- the names of the rows so far have their ids
abbrev pub invariant-loop-row : goal.invariant-loop-row
invariant-loop-row l = AreIdsOf passwd_name (λ row. row.uid) (take l.row-index l.rows) (ids_in l.ids)
