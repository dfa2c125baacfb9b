use Rattle.std.proofs.Common.{◌≡◌, ◌+◌, Some, option_copied, option_map, map, ap, sym, ◌∙◌, arith}
use Rattle.std.specs.List.{slice_get}
use Rattle.std.proofs.lemmas.Option.{slice_get-map}
use Rattle.etc_clean.proofs.SearchLemmas.{item_at}
use Rattle.etc_clean.proofs.WalkLemmas.{passed_one}
use Rattle.etc_clean.proofs.walk.passed.Goals as goal

pub returns-in-Less : goal.returns-in-Less
returns-in-Less g c =
    let key = g.T.Placed.place_of in
    let list = c.args.list.now in
    let there : slice_get (map key list) c.in-Some.last ≡ Some c.place.result.now =
    slice_get-map key list c.in-Some.last ∙ ap (option_map key) (item_at list c.in-Some.last c.get.result c.get.ensures.lookup ∙ ap option_copied c.in-Some-get.is) ∙ ap Some (sym c.place.ensures) in
    let next : c.args.from ≡ c.in-Some.last + 1 = omega (arith, c.in-Some.ensures) in
    passed_one c.args.name.now (map key list) c.in-Some.last c.args.from c.place.result.now next c.requires there (sym c.cmp.ensures ∙ c.in-Less.is)
