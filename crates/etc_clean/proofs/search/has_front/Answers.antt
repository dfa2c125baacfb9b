use Rattle.std.proofs.Common.{◌≡◌, None, Some, ap, ◌∙◌, rules}
use Rattle.std.specs.List.{slice_get}
use Rattle.std.specs.Option.{option_copied}
use Rattle.std.proofs.lemmas.Fn.{always_returns_same}
use Rattle.host_trait.specs.World.{bytes_cmp}
use Rattle.etc_clean.proofs.SearchLemmas.{front_found, front_none, front_some, item_at}
use Rattle.etc_clean.proofs.search.has_front.Goals as goal

pub returns-in-Ok : goal.returns-in-Ok
returns-in-Ok c = λ sorted.
    front_found c.args.front.now c.args.names.now sorted c.in-Ok.field-0 c.in-Ok.ensures.bound
    (c.in-Ok.ensures.position (λ x. bytes_cmp x c.args.front.now) (always_returns_same _ _ _ (λ a r q k. search rules)))

pub returns-in-Some : goal.returns-in-Some
returns-in-Some c = λ sorted.
    let there : slice_get c.args.names.now c.in-Err.at ≡ Some c.in-Some.name.now = item_at c.args.names.now c.in-Err.at c.get.result c.get.ensures.lookup ∙ ap option_copied c.in-Some.is in
    c.begins.ensures
    ∙ front_some c.args.front.now c.args.names.now sorted c.in-Err.at c.in-Some.name.now c.in-Err.ensures.bound
    (c.in-Err.ensures.position (λ x. bytes_cmp x c.args.front.now) (always_returns_same _ _ _ (λ a r q k. search rules))) there

pub returns-in-None : goal.returns-in-None
returns-in-None c = λ sorted.
    let there : slice_get c.args.names.now c.in-Err.at ≡ None = item_at c.args.names.now c.in-Err.at c.get.result c.get.ensures.lookup ∙ ap option_copied c.in-None.is in
    front_none c.args.front.now c.args.names.now sorted c.in-Err.at c.in-Err.ensures.bound
    (c.in-Err.ensures.position (λ x. bytes_cmp x c.args.front.now) (always_returns_same _ _ _ (λ a r q k. search rules))) there
