use Rattle.std.proofs.Common.{◌≡◌, take}
use Rattle.accounts_stage.specs.Files.{names_text}
use Rattle.accounts_stage.proofs.names.write_names.Given as goal

-- the names so far are written
abbrev pub invariant-loop-name : goal.invariant-loop-name
invariant-loop-name l = l.text.items ≡ names_text (take l.name-index l.names)
