use Rattle.std.proofs.Common.{◌==◌, map, take}
use Rattle.std.specs.List.{flat_map, slice_split}
use Rattle.unit_defs.specs.Defs.{AddsWanted}
use Rattle.unit_defs.proofs.answering.wanting.add_words.Given as goal

-- the set has what it had, and what can be wanted of the words so far
abbrev pub invariant-loop-part : goal.invariant-loop-part
invariant-loop-part l = AddsWanted l.units (flat_map (slice_split (λ byte. byte == 9)) (map (λ part. part.now) (take l.part-index l.part-items))) l.fn.set l.set
