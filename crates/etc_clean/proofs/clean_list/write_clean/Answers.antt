use Rattle.std.proofs.Common.{◌++◌, List, ℕ, ap, subst, ◌∙◌}
use Rattle.std.specs.List.{AllByRecursion}
use Rattle.switch_names.specs.Names.{Name}
use Rattle.etc_clean.specs.CleanList.{clean_names, clean_text, is_path_text}
use Rattle.std.proofs.Common.{◌≡◌, true}
use Rattle.etc_clean.proofs.CleanLemmas.{clean_all, read_back_law}
use Rattle.etc_clean.proofs.clean_list.write_clean.Goals as goal

pub returns-clause-read_back : goal.returns-clause-read_back
returns-clause-read_back c = λ free.
    let paths = subst (λ (names : List Name). AllByRecursion (λ name. is_path_text name ≡ true) names) c.as_slice.ensures c.in_ok-write_names.ensures.are_paths in
    ap clean_names
    (c.from_vec.ensures ∙ c.in_ok-write_names.ensures.text ∙ ap (λ (out : List ℕ). out ++ clean_text c.as_slice.result.now) c.new-out.ensures.items ∙ ap clean_text c.as_slice.ensures)
    ∙ read_back_law c.args.names.now (clean_all c.args.names.now paths free)
