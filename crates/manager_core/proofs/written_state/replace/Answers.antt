use Rattle.std.proofs.Common.{◌≡◌, ◌++◌, drop, take, sym, ap, ◌∙◌, rules}
use Rattle.std.proofs.lemmas.Iterator.{items_from_drains}
use Rattle.std.proofs.lemmas.Iterator.Adapters.{YieldsList-from_vec}
use Rattle.std.proofs.lemmas.List.{map-id}
use Rattle.manager_core.proofs.written_state.replace.Goals as goal

pub returns : goal.returns
returns c =
    let gone = c.in_ok-_was.ensures.items in
    let runs = YieldsList-from_vec c.args.line.items gone.2.0 (search rules) in
    let line : gone.1 ≡ c.args.line.items = sym (map-id gone.1) ∙ items_from_drains gone.1 (gone.3.1.0, gone.3.1.1, λ w. (gone.3.0, gone.3.1.2)) runs in
    gone.4 ∙ ap (λ ys. take c.args.from c.args.text.now.items ++ (ys ++ drop c.args.to c.args.text.now.items)) line
