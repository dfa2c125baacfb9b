use Rattle.host_trait.specs.LeafMap.{leaves_of}
use Rattle.host_trait.proofs.Copies.{AreRest}
use Rattle.host_trait.proofs.copying.copy_leaves.Given as goal

-- the leaves so far and those that are left are all
abbrev pub invariant-loop-path : goal.invariant-loop-path
invariant-loop-path l = AreRest (leaves_of l.leaves) (leaves_of l.copied) l.path-iterator
