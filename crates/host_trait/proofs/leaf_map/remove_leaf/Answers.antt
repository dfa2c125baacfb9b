use Rattle.std.proofs.Common.{sym, ◌∙◌}
use Rattle.host_trait.proofs.Places.{found, gone}
use Rattle.host_trait.proofs.Sound.{sound_same, sound_remove}
use Rattle.host_trait.proofs.leaf_map.remove_leaf.Goals as goal

pub returns-clause-was : goal.returns-clause-was
returns-clause-was c = c.remove.ensures.value ∙ sym (found c.args.leaves.now.entries c.args.at.now)

pub returns-clause-removed : goal.returns-clause-removed
returns-clause-removed c = gone c.args.leaves.now.entries c.remove.new.self.entries c.args.at.now c.remove.ensures.updates.0

pub returns-clause-sound : goal.returns-clause-sound
returns-clause-sound c sound = sound_same _ _ (returns-clause-removed c) (sound_remove _ _ sound)
