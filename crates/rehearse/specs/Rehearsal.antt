-- What a rehearsal of a switch tells: the machine, how often it was cut, and what came of it.
use Rattle.std.specs.Prelude.{◌≡◌, ◌≤◌, ◌++◌, ℕ, List, length, codes, count_by, None, Some}
use Rattle.std.specs.Fmt.{decimal}
use Rattle.host_trait.specs.Manager.{is_active}
use Rattle.host_trait.specs.States.{UnitStates, listed_states}
use Rattle.host_trait.specs.World.{WorldState, leaf_count}
use Rattle.rehearse.specs.declared.generated.Generated.{Generated}
use Rattle.rehearse.specs.declared.summary.End.{End}
use Rattle.rehearse.specs.declared.summary.End.TheVariants.{Done, UnitsFailed, Refused}
use Rattle.rehearse.specs.declared.summary.Summary.{Summary}
use Rattle.rehearse.specs.Ends.{IsVerdict}
use Rattle.rehearse.specs.Generated.{IsGenerated}
use Rattle.switch_engine.specs.declared.command.Command.{Command}
use Rattle.switch_engine.specs.declared.command.Command.TheVariants.{Switch}
use Rattle.switch_engine.specs.Final.{IsFinalOf, is_failed}
use Rattle.switch_engine.specs.Owing.{Refuses}

-- what a command that ended so has left of a world: what it leaves that isn't cut, or all as it was
abbrev pub IsLeftBy : Command → End → WorldState → WorldState → Type 0
IsLeftBy command (Refused why) w v = Refuses command w (Some why) × (v ≡ w)
IsLeftBy command Done w v = Refuses command w None × IsFinalOf command w v × IsVerdict command Done w
IsLeftBy command UnitsFailed w v = Refuses command w None × IsFinalOf command w v × IsVerdict command UnitsFailed w

-- a command was rehearsed in a world, under 64 cuts at most
pub record IsRehearsed (command : Command) (w v : WorldState) (summary : Summary) : Type 0 where
  pub some : 1 ≤ summary.runs
  pub most : summary.runs ≤ 65
  pub left : IsLeftBy command summary.end w v

-- how many units are active
abbrev pub active_units : UnitStates → ℕ
active_units states = count_by (λ one. is_active one.state) (listed_states states)

-- how many have failed
abbrev pub failed_units : UnitStates → ℕ
failed_units states = count_by (λ one. is_failed one.state) (listed_states states)

-- the word for an end
abbrev pub end_word : End → List ℕ
end_word Done = codes "done"
end_word UnitsFailed = codes "failed"
end_word (Refused why) = codes "refused"

-- the lines on what was made
abbrev pub made_text : ℕ → ℕ → ℕ → List ℕ
made_text units entries users = codes "units " ++ (decimal units ++ (codes "\nentries " ++ (decimal entries ++ (codes "\nusers " ++ (decimal users ++ codes "\n")))))

-- the lines on the units and the journal
abbrev pub units_text : WorldState → List ℕ
units_text v =
    codes "active "
    ++ (decimal (active_units v.manager.states)
    ++ (codes "\nfailed " ++ (decimal (failed_units v.manager.states) ++ (codes "\nentered " ++ (decimal (length v.manager.journal) ++ codes "\n")))))

-- the lines on the runs and on what they have left
abbrev pub left_text : Summary → WorldState → List ℕ
left_text summary v =
    codes "runs " ++ (decimal summary.runs ++ (codes "\nleaves " ++ (decimal (leaf_count v.leaves) ++ (codes "\n" ++ (units_text v ++ (codes "end " ++ (end_word summary.end ++ codes "\n")))))))

-- a switch of the machine of a number to its new system was rehearsed, and this text tells of it
pub record IsRehearsal (number units entries users : ℕ) (text : List ℕ) : Type 0 where
  pub made : Generated
  pub is_made : IsGenerated number units entries users made
  pub left : WorldState
  pub summary : Summary
  pub rehearsed : IsRehearsed (Switch made.system) made.world left summary
  pub tells : text ≡ made_text units entries users ++ left_text summary left
