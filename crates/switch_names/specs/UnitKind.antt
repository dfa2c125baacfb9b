-- Kinds of units: systemd.unit(5), "Description".
use Rattle.std.specs.Prelude.{ℕ, ◌&&◌, Bool, List, [], ◌∷◌, length, codes, nat_eq, nat_lt, find, Option}
use Rattle.std.specs.List.{ends_with}
use Rattle.switch_names.specs.declared.unit_kind.UnitKind.{UnitKind}
use Rattle.switch_names.specs.declared.unit_kind.UnitKind.TheVariants.{Service, Socket, Target, Mount, Automount, Swap, Path, Slice, Timer, Scope, Device}

-- how the names of a kind end
abbrev pub ending_of : UnitKind → List ℕ
ending_of Service = codes ".service"
ending_of Socket = codes ".socket"
ending_of Target = codes ".target"
ending_of Mount = codes ".mount"
ending_of Automount = codes ".automount"
ending_of Swap = codes ".swap"
ending_of Path = codes ".path"
ending_of Slice = codes ".slice"
ending_of Timer = codes ".timer"
ending_of Scope = codes ".scope"
ending_of Device = codes ".device"

abbrev pub all_kinds : List UnitKind
all_kinds = Service ∷ Socket ∷ Target ∷ Mount ∷ Automount ∷ Swap ∷ Path ∷ Slice ∷ Timer ∷ Scope ∷ Device ∷ []

-- the text is something and then the ending
abbrev pub has_ending : List ℕ → List ℕ → Bool
has_ending text ending = nat_lt (length ending) (length text) && ends_with nat_eq text ending

-- the kind whose ending the text has
unfoldable pub kind_of : List ℕ → Option UnitKind
kind_of text = find (λ kind. has_ending text (ending_of kind)) all_kinds
