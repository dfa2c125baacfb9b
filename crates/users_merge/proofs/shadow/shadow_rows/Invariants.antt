use Rattle.std.proofs.Common.{◌≡◌, take}
use Rattle.std.specs.List.{filter_map}
use Rattle.users_merge.specs.ByName.{found_in}
use Rattle.users_merge.specs.ShadowRows.{shadow_beside}
use Rattle.users_merge.proofs.shadow.shadow_rows.Given as goal

-- the rows so far have their shadow rows
abbrev pub invariant-loop-one : goal.invariant-loop-one
invariant-loop-one l = l.rows ≡ filter_map (shadow_beside l.mutable (found_in l.users.rows) (found_in l.old.rows)) (take l.one-index l.passwd)
