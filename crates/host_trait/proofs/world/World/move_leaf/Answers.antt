use Rattle.std.proofs.Common.{List, ℕ, ◌≡◌, ◌++◌, ◌∷◌, [], ap, drop, length, rules, sym, take, ◌∙◌}
use Rattle.host_trait.proofs.Written.{on_err_as, taken_again}
use Rattle.host_trait.proofs.world.World.move_leaf.Goals as goal

-- what was written is as it was before the move that failed
pub returns-then-is_err-clause-err : goal.returns-then-is_err-clause-err
returns-then-is_err-clause-err c =
    let written = c.self.inside.written in
    let taken : written ++ c.in_ok-copy.field-0 ∷ [] ≡ take (length written) c.remove-place.new.self ++ c.remove-place.result ∷ drop (length written) c.remove-place.new.self =
    sym c.in_ok-push.ensures.ok ∙ c.remove-place.ensures.rest
    ∙ ap (λ (before : List (List ℕ)). take (length before) c.remove-place.new.self ++ c.remove-place.result ∷ drop (length before) c.remove-place.new.self) c.as_slice-count.ensures in
    on_err_as c.move_entry-moved.result
    (λ same. (λ i. record { leaves = same i; manager = c.self.inside.manager; written = taken_again written c.remove-place.new.self c.in_ok-copy.field-0 c.remove-place.result taken i }) ∙ c.self.view_is)
    c.move_entry-moved.ensures.err

pub returns-else-is_err-clause-sound : goal.returns-else-is_err-clause-sound
returns-else-is_err-clause-sound c = search rules steps 2000000
