use Rattle.std.proofs.Common.{◌≡◌, true, List, arith, subst}
use Rattle.std.specs.List.{AllByRecursion}
use Rattle.std.proofs.lemmas.Grind.{common_steps}
use Rattle.std.proofs.lemmas.List.{take_all}
use Rattle.switch_names.specs.Names.{Name}
use Rattle.etc_clean.specs.CleanList.{is_path_text}
use Rattle.etc_clean.proofs.CleanLemmas.{paths_next}
use Rattle.etc_clean.proofs.clean_list.write_names.Goals as goal

pub loop-name-preserved : goal.loop-name-preserved
loop-name-preserved c = (
  grind (arith, common_steps),
  paths_next c.args.names.now c.loop-name.name-index c.name-item.result c.loop-name-test.true c.name-item.is c.loop-name.invariant.1 c.in_ok-write_name.ensures.is_path,
)

pub returns-clause-text : goal.returns-clause-text
returns-clause-text c = grind (arith, common_steps)

pub returns-clause-are_paths : goal.returns-clause-are_paths
returns-clause-are_paths c =
    subst (λ (names : List Name). AllByRecursion (λ name. is_path_text name ≡ true) names) (take_all c.loop-name.name-index c.args.names.now c.loop-name-test.false) c.loop-name.invariant.1
