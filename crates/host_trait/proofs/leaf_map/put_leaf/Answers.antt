use Rattle.std.proofs.Common.{◌≡◌, None, sym, ◌∙◌}
use Rattle.std.specs.FinMap.{get}
use Rattle.host_trait.proofs.Places.{found, given, none_or_present}
use Rattle.host_trait.proofs.Sound.{sound_same, sound_insert}
use Rattle.host_trait.specs.LeafMap.{leaves_of}
use Rattle.host_trait.proofs.leaf_map.put_leaf.Goals as goal

-- std's map wants memory at a new key alone
pub returns-in_err-insert-clause-present : goal.returns-in_err-insert-clause-present
returns-in_err-insert-clause-present c =
    let absent : get (leaves_of c.args.leaves.now) c.args.at ≡ None = found c.args.leaves.now.entries c.args.at ∙ c.in_err-insert.ensures.absent in
    λ present. absurd (none_or_present _ absent present)

pub returns-clause-was : goal.returns-clause-was
returns-clause-was c = c.in_ok-insert.ensures.old ∙ sym (found c.args.leaves.now.entries c.args.at)

pub returns-clause-ok : goal.returns-clause-ok
returns-clause-ok c = given c.args.leaves.now.entries c.insert.new.self.entries c.args.at c.args.leaf c.in_ok-insert.ensures.updates.0

pub returns-clause-sound : goal.returns-clause-sound
returns-clause-sound c path clear sound = sound_same _ _ (returns-clause-ok c) (sound_insert _ _ c.args.leaf path clear sound)
