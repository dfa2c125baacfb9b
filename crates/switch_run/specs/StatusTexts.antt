-- How a run ends: exit(3) takes the number, and standard error the text.
use Rattle.std.specs.Prelude.{ℕ, List, [], ◌++◌, codes}
use Rattle.switch_run.specs.RefusalTexts.{refusal_text}
use Rattle.switch_run.specs.declared.status.Status.{Status}
use Rattle.switch_run.specs.declared.status.Status.TheVariants.{Done, Usage, Refused, HostFault, SinkFault, UnitsFailed, NoMemory}

-- the exit status
abbrev pub status_number : Status → ℕ
status_number Done = 0
status_number Usage = 1
status_number (Refused refusal) = 2
status_number HostFault = 3
status_number SinkFault = 6
status_number UnitsFailed = 4
status_number NoMemory = 5

-- the line on standard error, which is empty after a run that is done
abbrev pub status_text : Status → List ℕ
status_text Done = []
status_text Usage = codes "usage: nixswitch ROOT switch|test|boot|dry-activate SYSTEM | rollback | generations | rehearse NUMBER"
status_text (Refused refusal) = codes "refused: " ++ refusal_text refusal
status_text HostFault = codes "fault: host"
status_text SinkFault = codes "fault: output"
status_text UnitsFailed = codes "units failed"
status_text NoMemory = codes "no memory"
