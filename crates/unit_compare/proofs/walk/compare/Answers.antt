use Rattle.std.proofs.Common.{◌≡◌, ◌∙◌, ap, sym}
use Rattle.unit_compare.specs.declared.comparison.Comparison.TheVariants.{Same}
use Rattle.unit_compare.specs.Compare.{comparison}
use Rattle.unit_compare.proofs.Differing.{self_comparison, same_where, reload_only_where, changed_where}
use Rattle.unit_compare.proofs.walk.compare.Goals as goal

-- equal texts have no key that differs
exact : (c : goal.Then-is_same_file) → Same ≡ comparison c.args.kind c.args.old.now c.args.new.now
exact c = sym (self_comparison c.args.kind c.args.old.now) ∙ ap (comparison c.args.kind c.args.old.now) (c.is_same_file.ensures c.if-is_same_file.true)

pub returns-then-is_same_file-clause-exact : goal.returns-then-is_same_file-clause-exact
returns-then-is_same_file-clause-exact c = exact c

pub returns-then-is_same_file-clause-same : goal.returns-then-is_same_file-clause-same
returns-then-is_same_file-clause-same c = same_where c.args.kind c.args.old.now c.args.new.now Same (exact c)

pub returns-then-is_same_file-clause-reload_only : goal.returns-then-is_same_file-clause-reload_only
returns-then-is_same_file-clause-reload_only c = reload_only_where c.args.kind c.args.old.now c.args.new.now Same (exact c)

pub returns-then-is_same_file-clause-changed : goal.returns-then-is_same_file-clause-changed
returns-then-is_same_file-clause-changed c = changed_where c.args.kind c.args.old.now c.args.new.now Same (exact c)

pub returns-else-is_same_file-clause-same : goal.returns-else-is_same_file-clause-same
returns-else-is_same_file-clause-same c = same_where c.args.kind c.args.old.now c.args.new.now c.compare_texts.result c.compare_texts.ensures

pub returns-else-is_same_file-clause-reload_only : goal.returns-else-is_same_file-clause-reload_only
returns-else-is_same_file-clause-reload_only c = reload_only_where c.args.kind c.args.old.now c.args.new.now c.compare_texts.result c.compare_texts.ensures

pub returns-else-is_same_file-clause-changed : goal.returns-else-is_same_file-clause-changed
returns-else-is_same_file-clause-changed c = changed_where c.args.kind c.args.old.now c.args.new.now c.compare_texts.result c.compare_texts.ensures
