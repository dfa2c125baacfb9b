use Rattle.std.proofs.Common.{sym, subst}
use Rattle.std.specs.Option.{IsSome}
use Rattle.start_order.proofs.WalkLemmas.{has_place}
use Rattle.start_order.proofs.walking.part_from.Goals as goal

pub unwrap-at-requires : goal.unwrap-at-requires
unwrap-at-requires c = subst IsSome (sym c.place_of.ensures) (has_place c.args.walk.now c.args.first.now c.requires)
