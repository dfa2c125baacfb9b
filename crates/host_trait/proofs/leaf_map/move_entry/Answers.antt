use Rattle.std.proofs.Common.{IsSome, sym, subst, ◌∙◌}
use Rattle.host_trait.proofs.Sound.{still_there, moved_by_steps, kept_place, on_ok_at, sound_same, sound_moved}
use Rattle.host_trait.proofs.leaf_map.move_entry.Goals as goal

pub unwrap-leaf-requires : goal.unwrap-leaf-requires
unwrap-leaf-requires c =
    subst (λ o. IsSome o)
    (sym (c.remove_leaf.ensures.was ∙ still_there _ _ _ _ _ _ c.in_ok-first.ensures c.requires.other c.in_ok-was.ensures.ok))
    c.requires.present

pub unwrap-blank-requires : goal.unwrap-blank-requires
unwrap-blank-requires c = c.put_leaf-2.ensures.present
    (kept_place _ _ _ _ _ _ _ _ c.in_ok-first.ensures c.in_ok-second.ensures c.requires.other c.in_ok-was.ensures.ok c.remove_leaf.ensures.removed)

pub returns-clause-ok : goal.returns-clause-ok
returns-clause-ok c =
    moved_by_steps _ _ _ _ _ _ _ _ _ _ c.in_ok-first.ensures c.in_ok-second.ensures c.requires.other
    (sym (still_there _ _ _ _ _ _ c.in_ok-first.ensures c.requires.other c.in_ok-was.ensures.ok) ∙ sym c.remove_leaf.ensures.was ∙ c.unwrap-leaf.ensures)
    c.in_ok-was.ensures.ok c.remove_leaf.ensures.removed (on_ok_at _ _ c.unwrap-blank.ensures c.put_leaf-2.ensures.ok)

pub returns-clause-sound : goal.returns-clause-sound
returns-clause-sound c clear sound = sound_same _ _ (returns-clause-ok c) (sound_moved _ _ _ c.as_str-path.ensures.is_path clear sound)
