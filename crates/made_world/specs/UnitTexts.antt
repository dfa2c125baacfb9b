-- The names and texts of the units of a made machine.
use Rattle.std.specs.Prelude.{◌==◌, ◌++◌, ◌∷◌, ◌-◌, ◌%◌, ℕ, List, [], codes, if◌then◌else◌}
use Rattle.std.specs.Fmt.{decimal}
use Rattle.switch_names.specs.declared.unit_kind.UnitKind.{UnitKind}
use Rattle.switch_names.specs.declared.unit_kind.UnitKind.TheVariants.{Service, Socket, Target, Mount, Path, Timer}
use Rattle.switch_names.specs.UnitKind.{ending_of}

-- the kind of the unit with this number, by its last digit: each second group of five begins with a socket
abbrev pub kind_by : ℕ → UnitKind
kind_by digit =
    if digit == 5 then Socket else if digit == 6 then Target else if digit == 7 then Timer else if digit == 8 then Path else if digit == 9 then Mount else Service

-- the number in the name of a unit: a socket has that of the service before it
abbrev pub named_by : UnitKind → ℕ → ℕ
named_by Socket number = number - 1
named_by kind number = number

-- the name of a unit of this kind
abbrev pub name_of : UnitKind → ℕ → List ℕ
name_of kind number = codes "u" ++ (decimal (named_by kind number) ++ ending_of kind)

-- a line that a service has by its draw
abbrev pub flag_by : ℕ → List ℕ
flag_by digit =
    if digit == 0 then codes "X-StopIfChanged=false\n" else if digit == 1 then codes "X-ReloadIfChanged=true\n" else if digit == 2 then codes "X-RestartIfChanged=false\n" else []

-- the lines of a unit that depend on its kind
abbrev pub lines_of : UnitKind → ℕ → ℕ → List ℕ
lines_of Service number draw = codes "[Service]\nExecStart=/bin/p" ++ (decimal number ++ 10 ∷ flag_by (draw % 8))
lines_of Socket number draw = codes "[Socket]\nListenStream=" ++ (decimal number ++ 10 ∷ [])
lines_of Target number draw = codes "Wants=u0.service\n"
lines_of Timer number draw = codes "[Timer]\nOnCalendar=daily\n"
lines_of Path number draw = codes "[Path]\nPathExists=/p" ++ (decimal number ++ 10 ∷ [])
lines_of kind number draw = codes "[Mount]\nWhat=/dev/d" ++ (decimal number ++ 10 ∷ [])

-- The text of a unit. What its draw gives says how it is changed: 1 is another description, 2 is a line more.
abbrev pub text_of : UnitKind → ℕ → ℕ → ℕ → List ℕ
text_of kind number draw change =
    codes "[Unit]\nDescription=unit "
    ++ (decimal number ++ ((if change == 1 then codes " new\n" else codes "\n") ++ (lines_of kind number draw ++ (if change == 2 then codes "Extra=1\n" else []))))
