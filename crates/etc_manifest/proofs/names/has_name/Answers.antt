use Rattle.std.proofs.Common.{List, ℕ, rules, ◌∙◌}
use Rattle.std.proofs.lemmas.Fn.{always_returns_same}
use Rattle.host_trait.specs.Bytes.{bytes_cmp}
use Rattle.etc_manifest.proofs.NameLemmas.{searched}
use Rattle.etc_manifest.proofs.names.has_name.Goals as goal

pub returns : goal.returns
returns c =
    c.is_ok.ensures.value
    ∙ searched c.args.names.now c.args.name.now c.binary_search_by.result c.requires c.binary_search_by.ensures.bound
    (c.binary_search_by.ensures.position (λ (other : List ℕ). bytes_cmp other c.args.name.now) (always_returns_same _ _ _ (λ a r q k. search rules)))
