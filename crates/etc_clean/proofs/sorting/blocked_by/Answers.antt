use Rattle.std.proofs.Common.{List, ap, ◌∙◌, filter}
use Rattle.std.specs.List.{list_any}
use Rattle.std.proofs.lemmas.List.{take_all}
use Rattle.host_trait.specs.World.{is_in_line}
use Rattle.etc_manifest.specs.declared.item.Item.{Item}
use Rattle.etc_manifest.specs.Manifest.{places}
use Rattle.etc_clean.proofs.FoundLemmas.{blocked_next}
use Rattle.etc_clean.proofs.sorting.blocked_by.Goals as goal

pub loop-item-preserved : goal.loop-item-preserved
loop-item-preserved c = λ sorted.
    blocked_next (λ q. list_any (λ p. is_in_line p q) c.args.foreign.now) c.args.items.now c.loop-item.item-index c.item-item.result c.loop-item.blocked c.add_blocked.new.blocked
    c.loop-item-test.true c.item-item.is (c.loop-item.invariant sorted) (c.in_ok-add_blocked.ensures sorted)

pub returns : goal.returns
returns c = λ sorted.
    c.loop-item.invariant sorted
    ∙ ap (λ (items : List Item). filter (λ q. list_any (λ p. is_in_line p q) c.args.foreign.now) (places items)) (take_all c.loop-item.item-index c.args.items.now c.loop-item-test.false)
