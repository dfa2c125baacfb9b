use Rattle.std.proofs.Common.{◌||◌, ◌&&◌, not, IsTrue, ap, ◌∙◌}
use Rattle.host_trait.proofs.Moments.{told_as}
use Rattle.host_trait.proofs.UnitSets.{has_added}
use Rattle.switch_names.specs.Names.{has}
use Rattle.store_live.specs.Live.{Refers}
use Rattle.store_live.proofs.ReachLemmas.{new_apart, new_left}
use Rattle.store_live.proofs.reaching.walk.Goals as goal

pub returns-clause-walked : goal.returns-clause-walked
returns-clause-walked g c = λ x. has_added c.args.walked.now.keys c.insert.new.self.keys c.args.path x (c.in_ok-insert.ensures.updates.0 x)

pub returns-clause-apart : goal.returns-clause-apart
returns-clause-apart g c =
    new_apart c.args.walked.now.keys c.insert.new.self.keys c.args.left.now.keys c.add_left.new.left.keys c.as_slice.result.now c.args.path c.in_ok-add_left.ensures

pub returns-clause-left : goal.returns-clause-left
returns-clause-left g c =
    told_as c.in_ok-names.ensures.found _ (λ w is found path.
    new_left c.args.walked.now.keys c.insert.new.self.keys c.args.left.now.keys c.add_left.new.left.keys c.in_ok-names.names c.args.path
    (λ x. c.in_ok-add_left.ensures x ∙ ap (λ l. has c.args.left.now.keys x || (has l x && not (has c.insert.new.self.keys x))) c.as_slice.ensures)
    (λ x. IsTrue (has c.args.stored.now x) × Refers w.leaves c.args.path x) (found path))
