use Rattle.std.proofs.Common.{List, ℕ, ◌∙◌}
use Rattle.std.specs.Cmp.Lexicographic.{nat_list_eq_equiv}
use Rattle.std.specs.List.{list_any}
use Rattle.unit_compare.specs.Compare.{ignored_names, is_ignored_name}
use Rattle.unit_compare.proofs.keys.is_ignored_name.Goals as goal

pub returns : goal.returns
unfolding is_ignored_name
returns c = c.contains.ensures.value ∙ (λ i. list_any (λ (name : List ℕ). nat_list_eq_equiv.symm name c.args.key.now i) ignored_names)
