use Rattle.std.proofs.Common.{◌++◌, ◌∷◌, sym, ap, ◌∙◌}
use Rattle.switch_names.specs.Path.{name_below, slash}
use Rattle.store_live.proofs.PathLemmas.{path_there}
use Rattle.store_live.proofs.places.store_path_of.Goals as goal

-- the path of the first name below the store
pub returns-clause-some : goal.returns-clause-some
returns-clause-some c =
    path_there c.args.place.now c.in-Some.rest c.first_name.result.now c.in_ok-path.path
    (ap (λ s. name_below s c.args.place.now) (sym c.in_ok-store.ensures) ∙ sym c.in_ok-rest.ensures ∙ c.in-Some.is) c.first_name.ensures
    (c.in_ok-path.ensures ∙ ap (λ s. s ++ slash ∷ c.first_name.result.now) c.in_ok-store.ensures)
