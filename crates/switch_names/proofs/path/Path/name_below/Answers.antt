use Rattle.std.proofs.Common.{subst, sym, ◌∙◌}
use Rattle.switch_names.specs.Path.{IsPath}
use Rattle.switch_names.proofs.Joined.{both_paths}
use Rattle.switch_names.proofs.path.Path.name_below.Goals as goal

-- the last names of a path are a path
pub of_checked-requires : goal.of_checked-requires
of_checked-requires c =
    let whole = sym c.as_str.ensures.text ∙ c.in-Some.ensures.cut in
    (both_paths c.as_str-2.result.now c.in-Some.name.now (subst (λ text. IsPath text) whole c.as_str.ensures.is_path)).1
