-- Plain texts are a fact of a manager.
use Rattle.std.proofs.Props.{props}
use Rattle.host_trait.specs.declared.entry.Bad.{Bad}
use Rattle.host_trait.specs.declared.entry.Entry.{Entry}
use Rattle.host_trait.specs.Manager.{IsPlain}

-- that a text is plain is one fact
pub bad_is_plain_once : (one : Bad) → IsProp (IsPlain one.loaded)
bad_is_plain_once one = hlevel props

pub entry_is_plain_once : (one : Entry) → IsProp (IsPlain one.loaded)
entry_is_plain_once one = hlevel props
