use Rattle.std.proofs.Common.{◌≡◌, filter, map}
use Rattle.accounts_stage.specs.Standing.{is_name_text}
use Rattle.accounts_stage.proofs.names.all_names.Given as goal

-- the texts so far have been looked at
abbrev pub invariant-loop-text : goal.invariant-loop-text
invariant-loop-text l = l.names ≡ filter is_name_text (map (λ text. text.now) l.yielded)
