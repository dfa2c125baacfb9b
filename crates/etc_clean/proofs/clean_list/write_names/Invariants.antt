use Rattle.std.proofs.Common.{◌≡◌, ◌++◌, true, take}
use Rattle.std.specs.List.{AllByRecursion}
use Rattle.etc_clean.specs.CleanList.{clean_text, is_path_text}
use Rattle.etc_clean.proofs.clean_list.write_names.Given as goal

-- the names so far are written, and are paths
abbrev pub invariant-loop-name : goal.invariant-loop-name
invariant-loop-name l = (l.out.items ≡ l.fn.out.items ++ clean_text (take l.name-index l.names)) × AllByRecursion (λ name. is_path_text name ≡ true) (take l.name-index l.names)
