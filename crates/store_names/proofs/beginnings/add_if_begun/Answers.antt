use Rattle.std.proofs.Common.{◌≡◌, ◌≤◌, ◌||◌, length, ap, subst, ◌∙◌, arith}
use Rattle.host_trait.proofs.UnitSets.{has_added}
use Rattle.switch_names.specs.Names.{Name, has, is_name}
use Rattle.store_names.specs.Beginnings.{IsCut, common}
use Rattle.store_names.proofs.ChainLemmas.{common_within, path_bytes}
use Rattle.store_names.proofs.beginnings.add_if_begun.Goals as goal

-- the text begins with the whole name, which isn't empty
pub returns : goal.returns
returns c =
    let name = c.args.name.now in
    let text = c.args.text.now in
    let bytes : c.as_bytes-bytes.result.now ≡ name = c.as_bytes-bytes.ensures.value ∙ c.as_str.ensures.text in
    let count : c.common-count.result ≡ common name text = c.common-count.ensures ∙ ap (λ b. common b text) bytes in
    let all : length name ≤ c.common-count.result = subst (λ b. length b ≤ c.common-count.result) bytes c.if-count-bytes.false in
    let whole : common name text ≡ length name = omega (arith, count, all, common_within name text) in
    let some = path_bytes name c.as_str.ensures.is_path in
    IsCut.Whole whole (omega (arith, count, whole, some))
    (λ other. has_added c.args.found.now.keys c.insert.new.self.keys c.in_ok-copy.field-0 other (c.in_ok-insert.ensures.updates.0 other)
    ∙ ap (λ (n : Name). has c.args.found.now.keys other || is_name other n) c.in_ok-copy.ensures)
