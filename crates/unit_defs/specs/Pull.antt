-- What units want, and what these want in turn: systemd.unit(5), "Wants=".
use Rattle.std.specs.Prelude.{IsTrue, List}
use Rattle.switch_names.specs.Names.{Name, has}

-- the least set that has the starts and what its members want
pub data Reached (wanted : Name → List Name) (IsStart : Name → Type 0) : Name → Type 0 where
  FromRoot : (unit : Name) → IsStart unit → Reached wanted IsStart unit
  FromWant : (unit by : Name) → Reached wanted IsStart by → IsTrue (has (wanted by) unit) → Reached wanted IsStart unit
