use Rattle.std.proofs.Common.{◌∙◌, List, ℕ, ap, filter, map, subst, sym}
use Rattle.std.specs.List.Sorted.{IsStrictlySortedBy}
use Rattle.std.proofs.lemmas.List.{take_all}
use Rattle.std.proofs.lemmas.List.Kept.{IsStrictlySortedBy-filter}
use Rattle.switch_names.specs.Names.{has}
use Rattle.host_trait.specs.Bytes.{bytes_cmp}
use Rattle.etc_manifest.specs.Place.{path_in}
use Rattle.etc_manifest.specs.Taken.{is_taken}
use Rattle.etc_manifest.proofs.TakenLemmas.{paths_in_order}
use Rattle.etc_manifest.proofs.taking.taken_paths.Goals as goal

pub returns-clause-sorted : goal.returns-clause-sorted
returns-clause-sorted c =
    let names = c.args.names.now in
    let all = c.loop-name.invariant
    ∙ ap (λ (ns : List (List ℕ)). map (path_in c.args.folder.now) (filter (is_taken (has names)) ns)) (take_all c.loop-name.name-index names c.loop-name-test.false) in
    subst (IsStrictlySortedBy bytes_cmp) (sym all)
    (paths_in_order c.args.folder.now (filter (is_taken (has names)) names) (IsStrictlySortedBy-filter bytes_cmp (is_taken (has names)) names c.requires))
