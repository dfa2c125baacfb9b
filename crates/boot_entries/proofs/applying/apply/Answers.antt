use Rattle.boot_entries.proofs.ApplyLemmas.{all_led, first_way, second_way}
use Rattle.boot_entries.proofs.WrittenLemmas.{gone_written}
use Rattle.std.proofs.Common.{List, subst}
use Rattle.host_trait.specs.Host.{Becomes, Passes}
use Rattle.host_trait.proofs.Moments.{leads_then}
use Rattle.switch_names.specs.Names.{Name}
use Rattle.tree_put.specs.Sequence.{IsRemoving, without_places}
use Rattle.tree_put.specs.Written.{WritesOnly}
use Rattle.tree_put.proofs.WrittenLemmas.{writes_then}
use Rattle.boot_entries.specs.Places.{owns_boot}
use Rattle.boot_entries.proofs.applying.apply.Goals as goal

pub returns-in_err-put_menu-clause-moments : goal.returns-in_err-put_menu-clause-moments
returns-in_err-put_menu-clause-moments g c = first_way c.args.texts.now c.put_menu.ensures.moments

pub returns-in_err-drop_kept-clause-moments : goal.returns-in_err-drop_kept-clause-moments
returns-in_err-drop_kept-clause-moments g c =
    second_way c.args.texts.now c.put_menu.ensures.moments c.in_ok-put_menu.ensures.ok
    (subst (λ (ps : List Name). Passes (g.T.Tree.host c.put_menu.new.host) (g.T.Tree.host c.drop_kept.new.host) (IsRemoving ps)) c.as_slice.ensures c.drop_kept.ensures.moments)

pub returns-clause-moments : goal.returns-clause-moments
returns-clause-moments g c =
    second_way c.args.texts.now c.put_menu.ensures.moments c.in_ok-put_menu.ensures.ok
    (subst (λ (ps : List Name). Passes (g.T.Tree.host c.put_menu.new.host) (g.T.Tree.host c.drop_kept.new.host) (IsRemoving ps)) c.as_slice.ensures c.drop_kept.ensures.moments)

pub returns-clause-ok : goal.returns-clause-ok
returns-clause-ok g c =
    all_led c.args.texts.now c.put_menu.ensures.moments c.in_ok-put_menu.ensures.ok
    (subst (λ (ps : List Name). Becomes (g.T.Tree.host c.put_menu.new.host) (g.T.Tree.host c.drop_kept.new.host) (without_places ps)) c.as_slice.ensures c.in_ok-drop_kept.ensures.ok)

pub returns-clause-written : goal.returns-clause-written
returns-clause-written g c =
    leads_then c.in_ok-put_menu.ensures.written
    (subst (λ (ps : List Name). Becomes (g.T.Tree.host c.put_menu.new.host) (g.T.Tree.host c.drop_kept.new.host) (without_places ps)) c.as_slice.ensures c.in_ok-drop_kept.ensures.ok)
    (WritesOnly owns_boot)
    (λ w v u is is_v put gone. writes_then owns_boot w v u put (gone_written c.args.texts.now w (c.requires.can.has w is) v u gone))
