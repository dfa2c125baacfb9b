use Rattle.std.proofs.Common.{◌||◌, List, map, ap, ◌∙◌}
use Rattle.std.proofs.lemmas.Result.{IfOk-weaker}
use Rattle.switch_names.specs.Names.{Name, has}
use Rattle.users_merge.proofs.NameLemmas.{map_same}
use Rattle.users_merge.proofs.NameOrderLemmas.{is_union}
use Rattle.users_merge.proofs.names.all_names.Goals as goal

pub returns : goal.returns
returns g c =
    IfOk-weaker c.into_names.result _ _
    (λ names is.
    is
    ∙ is_union c.insert_all.new.self c.args.before.now (map g.N.Named.name_of c.args.now.now) c.into_names.ensures.sorted
    (λ name.
    c.in_ok-insert_all.ensures name
    ∙ ap (λ b. b || has (map g.N.Named.name_of c.args.now.now) name) (c.in_ok-names.ensures name ∙ ap (λ (ns : List Name). has ns name) (map_same c.args.before.now))))
    c.into_names.ensures.names
