use Rattle.std.proofs.Common.{◌≡◌, ◌++◌, take}
use Rattle.log_text.specs.Log.{list_text}
use Rattle.log_text.proofs.writing.add_names.Given as goal

abbrev pub invariant-loop-name : goal.invariant-loop-name
invariant-loop-name l = l.out.items ≡ l.initial.out.items ++ list_text (take l.name-index l.names)
