use Rattle.std.proofs.Common.{subst, sym, MatchOption, None, rules, ◌≡◌, ◌<◌, ◌++◌, ◌∷◌, List, ℕ, length}
use Rattle.std.specs.List.{slice_get}
use Rattle.std.proofs.lemmas.Fn.{always_returns_same}
use Rattle.host_trait.specs.World.{bytes_cmp}
use Rattle.unit_defs.specs.declared.unit.Unit.{Unit}
use Rattle.unit_defs.specs.Defs.{unit_in}
use Rattle.unit_defs.proofs.SearchLemmas.{searched}
use Rattle.unit_defs.proofs.answering.search.find_parts.Goals as goal

pub returns : goal.returns
returns c =
    let name : List ℕ = c.args.before.now ++ 64 ∷ c.args.end.now in
    subst (λ o. MatchOption o (unit_in c.args.units.now name ≡ None) (λ at. (at < length c.args.units.now) × (unit_in c.args.units.now name ≡ slice_get c.args.units.now at)))
    (sym c.ok.ensures.value)
    (searched c.args.units.now name c.binary_search_by.result c.requires c.binary_search_by.ensures.bound
    (c.binary_search_by.ensures.position (λ (unit : Unit). bytes_cmp unit.name name) (always_returns_same _ _ _ (λ a r q k. search rules))))
