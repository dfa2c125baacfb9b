use Rattle.std.proofs.Common.{◌≡◌, ◌&&◌, ◌||◌, map}
use Rattle.switch_names.specs.Names.{Name, has}
use Rattle.owed_plan.proofs.edges.add_words.Given as goal

-- the words so far have been looked at
abbrev pub invariant-loop-word : goal.invariant-loop-word
invariant-loop-word l = (name : Name) → has l.named name ≡ (has l.initial.named name || (has l.starts name && has (map (λ word. word.now) l.yielded) name))
