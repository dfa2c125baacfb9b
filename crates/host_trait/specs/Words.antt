-- The words for states and for what is done to units: systemctl(1), "Unit Commands" and "is-active".
use Rattle.std.specs.Prelude.{ℕ, List, codes}
use Rattle.host_trait.specs.declared.entry.Act.{Act}
use Rattle.host_trait.specs.declared.entry.Act.TheVariants.{Stop, Reload, Restart, Start}
use Rattle.host_trait.specs.declared.unit_state.State.{State}
use Rattle.host_trait.specs.declared.unit_state.State.TheVariants.{Active, Inactive, Failed}

abbrev pub state_word : State → List ℕ
state_word Active = codes "active"
state_word Inactive = codes "inactive"
state_word Failed = codes "failed"

abbrev pub act_word : Act → List ℕ
act_word Stop = codes "stop"
act_word Reload = codes "reload"
act_word Restart = codes "restart"
act_word Start = codes "start"
