use Rattle.std.proofs.Common.{rules}
use Rattle.unit_decide.proofs.decision.decide_by.Goals as goal

pub decide_changed-requires : goal.decide_changed-requires
decide_changed-requires c = search rules steps 300000
