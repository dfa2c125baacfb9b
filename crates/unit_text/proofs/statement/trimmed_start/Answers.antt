use Rattle.std.proofs.Common.{ℕ, sym, ap, ◌∙◌, subst}
use Rattle.std.specs.List.{prefix_len}
use Rattle.std.specs.Str.{IsCharBoundary}
use Rattle.unit_text.specs.Statement.{is_trimmed}
use Rattle.unit_text.proofs.TrimLemmas.{boundary_at_start}
use Rattle.unit_text.proofs.statement.trimmed_start.Goals as goal

pub range_from-requires : goal.range_from-requires
range_from-requires c _ =
    let counted = c.trimmed_at_start.ensures ∙ ap (prefix_len is_trimmed) c.as_bytes.ensures.value in
    subst (λ (n : ℕ). IsCharBoundary c.args.text.now n) (sym counted) (boundary_at_start c.args.text.now c.utf8.text)
