use Rattle.std.proofs.Common.{rules, tests}
use Rattle.std.proofs.lemmas.Iterator.{YieldsList-from_slice}
use Rattle.std.proofs.lemmas.Iterator.Search.{any_from_yields_List}
use Rattle.switch_names.specs.Path.{is_below}
use Rattle.tree_put.proofs.blocked.any_below.Goals as goal

pub returns : goal.returns
returns c =
    any_from_yields_List (λ q. is_below q c.args.at.now) _ _ _ c.any.ensures.ran (YieldsList-from_slice c.args.paths.now cc) (λ x b q k. search (rules, tests) steps 300000)
