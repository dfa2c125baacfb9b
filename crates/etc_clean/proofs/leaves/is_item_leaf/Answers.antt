use Rattle.std.proofs.Common.{Some, subst, sym, ◌≡◌}
use Rattle.etc_clean.specs.Etc.{leaf_of}
use Rattle.etc_clean.specs.Standing.{is_leaf_of}
use Rattle.etc_clean.proofs.StandingLemmas.{told_same}
use Rattle.etc_clean.proofs.leaves.is_item_leaf.Goals as goal

pub returns-in_ok-item_leaf-in-Some : goal.returns-in_ok-item_leaf-in-Some
returns-in_ok-item_leaf-in-Some c =
    subst (λ leaf. c.same.result ≡ is_leaf_of c.args.item.now.place (Some c.args.item.now.kind) leaf) (sym c.in-Some.is)
    (told_same c.same.result c.in-Some.leaf _ (leaf_of c.args.item.now.place c.args.item.now.kind) c.same.ensures c.in_ok-item_leaf-in-Some.ensures)
