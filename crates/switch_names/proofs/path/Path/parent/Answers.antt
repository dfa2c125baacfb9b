use Rattle.std.proofs.Common.{subst, sym, ◌∙◌}
use Rattle.switch_names.specs.Path.{IsPath}
use Rattle.switch_names.proofs.Below.{rest_below}
use Rattle.switch_names.proofs.Joined.{both_paths}
use Rattle.switch_names.proofs.path.Path.parent.Goals as goal

-- the first names of a path are a path
pub of_checked-requires : goal.of_checked-requires
of_checked-requires c =
    let cut = rest_below c.as_str.result.now c.in-Some.front.now c.in-Some.ensures.some.below in
    let is = subst (λ text. IsPath text) (sym c.as_str.ensures.text ∙ cut.1) c.as_str.ensures.is_path in
    (both_paths c.in-Some.front.now cut.0 is).0
