use Rattle.std.proofs.Common.{◌≡◌, ◌≤◌, ◌+◌, Some, length, option_map, map, refl, ap, sym, ◌∙◌, arith}
use Rattle.std.specs.List.{slice_get}
use Rattle.std.specs.Ordering.{ordering_reverse}
use Rattle.std.proofs.lemmas.List.{length-map}
use Rattle.std.proofs.lemmas.Option.{slice_get-map, slice_get_read}
use Rattle.host_trait.proofs.Places.{bytes_exact, bytes_total}
use Rattle.etc_clean.proofs.WalkLemmas.{passed_all, passed_none, passed_one}
use Rattle.etc_clean.proofs.walk.find_from.Goals as goal

pub returns-in-Equal-clause-found : goal.returns-in-Equal-clause-found
returns-in-Equal-clause-found g c =
    let key = g.T.Placed.place_of in
    let list = c.args.list.now in
    slice_get-map key list c.loop-at.at ∙ ap (option_map key) (slice_get_read list (length list) c.loop-at.at c.index-list-at.result refl c.loop-at-test.true c.index-list-at.is)
    ∙ ap Some (sym c.place.ensures ∙ bytes_exact c.place.result.now c.args.name.now (sym c.cmp.ensures ∙ c.in-Equal.is))

pub returns-in-Greater-clause-missing : goal.returns-in-Greater-clause-missing
returns-in-Greater-clause-missing g c =
    let key = g.T.Placed.place_of in
    let list = c.args.list.now in
    let there : slice_get (map key list) c.loop-at.at ≡ Some c.place.result.now =
    slice_get-map key list c.loop-at.at ∙ ap (option_map key) (slice_get_read list (length list) c.loop-at.at c.index-list-at.result refl c.loop-at-test.true c.index-list-at.is) ∙ ap Some (sym c.place.ensures) in
    passed_none c.args.name.now (map key list) c.loop-at.at c.place.result.now c.requires c.loop-at.invariant there
    (bytes_total.antisymm c.args.name.now c.place.result.now ∙ ap ordering_reverse (sym c.cmp.ensures ∙ c.in-Greater.is))

pub loop-at-preserved : goal.loop-at-preserved
loop-at-preserved g c =
    let key = g.T.Placed.place_of in
    let list = c.args.list.now in
    let there : slice_get (map key list) c.loop-at.at ≡ Some c.place.result.now =
    slice_get-map key list c.loop-at.at ∙ ap (option_map key) (slice_get_read list (length list) c.loop-at.at c.index-list-at.result refl c.loop-at-test.true c.index-list-at.is) ∙ ap Some (sym c.place.ensures) in
    passed_one c.args.name.now (map key list) c.loop-at.at (c.loop-at.at + 1) c.place.result.now refl c.requires there (sym c.cmp.ensures ∙ c.in-Less.is)

pub returns-clause-missing : goal.returns-clause-missing
returns-clause-missing g c =
    let key = g.T.Placed.place_of in
    let list = c.args.list.now in
    let all : length (map key list) ≤ c.loop-at.at = omega (arith, length-map list key, c.loop-at-test.false) in
    passed_all c.args.name.now (map key list) c.loop-at.at all c.loop-at.invariant
