use Rattle.std.proofs.Common.{◌≡◌, ◌++◌, List, subst}
use Rattle.host_trait.specs.Host.{Becomes, HostState, Passes}
use Rattle.switch_names.specs.Names.{Name}
use Rattle.tree_put.specs.Sequence.{IsRemoving, without_places}
use Rattle.store_collect.proofs.ApplyLemmas.{all_led, first_way, second_way}
use Rattle.store_collect.proofs.applying.apply.Goals as goal

way_of : {a b : HostState} (one other links leaves : List Name) → one ≡ links → other ≡ leaves → Passes a b (IsRemoving (one ++ other)) → Passes a b (IsRemoving (links ++ leaves))
way_of {a} {b} one other links leaves first then way = subst (λ (l : List Name). Passes a b (IsRemoving l)) (λ i. first i ++ then i) way

led_of : {a b : HostState} (one other links leaves : List Name) → one ≡ links → other ≡ leaves → Becomes a b (without_places (one ++ other)) → Becomes a b (without_places (links ++ leaves))
led_of {a} {b} one other links leaves first then led = subst (λ (l : List Name). Becomes a b (without_places l)) (λ i. first i ++ then i) led

pub returns-in_err-apply-clause-moments : goal.returns-in_err-apply-clause-moments
returns-in_err-apply-clause-moments g c = first_way c.args.collection.now c.apply.ensures.moments

pub returns-in_err-drop_both-clause-moments : goal.returns-in_err-drop_both-clause-moments
returns-in_err-drop_both-clause-moments g c =
    second_way c.args.collection.now c.apply.ensures.moments c.in_ok-apply.ensures.ok
    (way_of _ _ c.args.collection.now.links c.args.collection.now.leaves c.as_slice-links.ensures c.as_slice-leaves.ensures c.drop_both.ensures.moments)

pub returns-clause-moments : goal.returns-clause-moments
returns-clause-moments g c =
    second_way c.args.collection.now c.apply.ensures.moments c.in_ok-apply.ensures.ok
    (way_of _ _ c.args.collection.now.links c.args.collection.now.leaves c.as_slice-links.ensures c.as_slice-leaves.ensures c.drop_both.ensures.moments)

pub returns-clause-ok : goal.returns-clause-ok
returns-clause-ok g c =
    all_led c.args.collection.now c.apply.ensures.moments c.in_ok-apply.ensures.ok
    (led_of _ _ c.args.collection.now.links c.args.collection.now.leaves c.as_slice-links.ensures c.as_slice-leaves.ensures c.in_ok-drop_both.ensures.ok)
