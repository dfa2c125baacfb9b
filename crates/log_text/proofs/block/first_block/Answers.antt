use Rattle.std.proofs.Common.{◌≡◌, true, false, length, sym, ap, subst, ◌∙◌, arith}
use Rattle.std.specs.List.Sorted.{IsStrictlySortedBy}
use Rattle.std.proofs.lemmas.Grind.{common_steps}
use Rattle.host_trait.specs.Bytes.{bytes_cmp}
use Rattle.log_text.specs.Log.{header_of}
use Rattle.log_text.proofs.ReadLemmas.{block_lined, block_names, never_both, none_of}
use Rattle.log_text.proofs.block.first_block.Goals as goal

pub returns-in_default-clause-none : goal.returns-in_default-clause-none
returns-in_default-clause-none c none block rest is same = block_lined block c.args.text.now rest c.in_default.ensures same

pub returns-in_default-after_end-clause-none : goal.returns-in_default-after_end-clause-none
returns-in_default-after_end-clause-none c none block rest is same =
    c.in_default-after_end.ensures rest
    (block_names block rest c.in-Some.line.now c.in-Some.after.now c.in_ok-names.names c.in_ok-names.rest.now is c.in-Some.ensures.0 c.in_ok-names.ensures (sym c.in-Some.ensures.1 ∙ same)).2

pub returns-then-not-is_ascending-clause-none : goal.returns-then-not-is_ascending-clause-none
returns-then-not-is_ascending-clause-none c none block rest is same =
    let parts = block_names block rest c.in-Some.line.now c.in-Some.after.now c.in_ok-names.names c.in_ok-names.rest.now is c.in-Some.ensures.0 c.in_ok-names.ensures (sym c.in-Some.ensures.1 ∙ same) in
    let yes : c.is_ascending.result ≡ true = c.is_ascending.ensures.1 (subst (IsStrictlySortedBy bytes_cmp) (sym (c.as_slice.ensures ∙ parts.1)) is.sorted) in
    let no : c.is_ascending.result ≡ false = grind (arith, common_steps) in
    never_both c.is_ascending.result yes no

pub returns-clause-none : goal.returns-clause-none
returns-clause-none c none block rest is same =
    let parts = block_names block rest c.in-Some.line.now c.in-Some.after.now c.in_ok-names.names c.in_ok-names.rest.now is c.in-Some.ensures.0 c.in_ok-names.ensures (sym c.in-Some.ensures.1 ∙ same) in
    none_of c.in_ok-which.field-0 _ _ c.in-None.is c.in_ok-which.ensures block.which (parts.0 ∙ ap (λ n. header_of block.which n) (sym (ap length c.as_slice-2.ensures)))
