use Rattle.std.proofs.Common.{ℕ, ◌≤◌, ◌-◌, length, sym, ap, ◌∙◌, subst}
use Rattle.std.specs.List.{suffix_len}
use Rattle.std.specs.Str.{IsCharBoundary}
use Rattle.std.proofs.lemmas.List.Sums.{suffix_len-le-length}
use Rattle.unit_text.specs.Statement.{is_trimmed}
use Rattle.unit_text.proofs.TrimLemmas.{boundary_at_end}
use Rattle.unit_text.proofs.statement.trimmed_end.Goals as goal

pub overflow_sub-text : goal.overflow_sub-text
overflow_sub-text c =
    let counted = c.trimmed_at_end.ensures ∙ ap (suffix_len is_trimmed) c.as_bytes.ensures.value in
    subst (λ (n : ℕ). n ≤ length c.args.text.now) (sym counted) (suffix_len-le-length is_trimmed c.args.text.now)

pub range-requires-clause-end_boundary : goal.range-requires-clause-end_boundary
range-requires-clause-end_boundary c =
    let counted = c.trimmed_at_end.ensures ∙ ap (suffix_len is_trimmed) c.as_bytes.ensures.value in
    subst (λ (n : ℕ). IsCharBoundary c.args.text.now (length c.args.text.now - n)) (sym counted) (boundary_at_end c.args.text.now c.utf8.text)
