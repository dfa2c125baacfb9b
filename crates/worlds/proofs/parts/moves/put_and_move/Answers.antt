use Rattle.std.proofs.Common.{◌≡◌, [], ◌∷◌, IsSome, false, refl, sym, ap, subst, ◌∙◌}
use Rattle.std.specs.FinMap.{get, insert, get-empty}
use Rattle.host_trait.specs.World.{WorldState, bytes_cmp, is_in_line}
use Rattle.host_trait.proofs.Places.{at_same}
use Rattle.host_trait.proofs.Sound.{clear_insert}
use Rattle.worlds.proofs.parts.moves.put_and_move.Goals as goal

-- the one leaf stands at the path that it is moved from
pub move_leaf-requires-clause-present : goal.move_leaf-requires-clause-present
move_leaf-requires-clause-present c =
    let leaves = c.args.world.now.leaves in
    let leaf = c.in_ok-link.field-0 in
    let there = ap (λ (w : WorldState). get w.leaves c.args.from.now) c.in_ok-was.ensures.ok
    ∙ ap (λ p. get (insert leaves p leaf) c.args.from.now) c.in_ok-copy.ensures ∙ at_same leaves c.args.from.now leaf in
    subst (λ o. IsSome o) (sym there) refl

-- and none stands above or below the one that it is moved to
pub move_leaf-requires-clause-clear : goal.move_leaf-requires-clause-clear
move_leaf-requires-clause-clear c q line =
    let apart : is_in_line c.in_ok-copy.field-0 c.args.to.now ≡ false = ap (λ p. is_in_line p c.args.to.now) (c.in_ok-copy.ensures ∙ c.requires.from)
    ∙ ap (is_in_line (120 ∷ [])) c.requires.to in
    ap (λ (w : WorldState). get w.leaves q) c.in_ok-was.ensures.ok
    ∙ clear_insert c.args.world.now.leaves c.in_ok-copy.field-0 c.args.to.now c.in_ok-link.field-0 apart
    (λ r in_line. ap (λ (w : WorldState). get w.leaves r) c.requires.empty ∙ get-empty bytes_cmp r) q line
