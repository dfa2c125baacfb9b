use Rattle.std.proofs.Common.{[], refl, subst, sym}
use Rattle.std.proofs.lemmas.List.{nil_from_length}
use Rattle.std.proofs.lemmas.Result.{IfOk-weaker}
use Rattle.store_live.specs.Grown.{AtSome, IsGrown, IsPathOf}
use Rattle.store_live.proofs.GrownLemmas.{all_in, grown_end, grown_from, grown_more, grown_start}
use Rattle.store_live.proofs.places.store_paths.Goals as goal

pub loop-place-init : goal.loop-place-init
loop-place-init c = subst (λ names. IsGrown [] names (AtSome [] IsPathOf)) (sym (nil_from_length c.new-stored.result.keys c.new-stored.ensures.len)) (grown_start IsPathOf [])

pub loop-place-preserved : goal.loop-place-preserved
loop-place-preserved c =
    grown_more IsPathOf c.args.places.now c.loop-place.place-index c.place-item.result c.loop-place-test.true c.place-item.is [] c.loop-place.stored.keys c.add_store_path.new.stored.keys
    c.loop-place.invariant c.in_ok-add_store_path.ensures

pub returns-clause-paths : goal.returns-clause-paths
returns-clause-paths c =
    IfOk-weaker c.into_names.result _ _ (λ names same. all_in c.loop-place.stored.keys names (AtSome c.args.places.now IsPathOf) same
    (grown_from [] c.loop-place.stored.keys (AtSome c.args.places.now IsPathOf) refl
    (grown_end IsPathOf c.args.places.now c.loop-place.place-index [] c.loop-place.stored.keys c.loop-place-test.false c.loop-place.invariant)))
    c.into_names.ensures.names
