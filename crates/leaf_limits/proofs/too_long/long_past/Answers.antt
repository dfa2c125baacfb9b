use Rattle.std.proofs.Common.{◌++◌, ◌∷◌, [], List, ap, subst, sym, take, ◌∙◌}
use Rattle.std.proofs.lemmas.List.{take_all, take_more}
use Rattle.host_trait.proofs.Moments.{told_as}
use Rattle.host_trait.proofs.Readings.{nothing_read_ok, read_handed, read_ok, read_then, told_read}
use Rattle.leaf_limits.specs.Limits.{IsFirstOf}
use Rattle.leaf_limits.proofs.PastLemmas.{first_past}
use Rattle.switch_names.specs.Names.{Name}
use Rattle.leaf_limits.proofs.too_long.long_past.Goals as goal

pub loop-place-init : goal.loop-place-init
loop-place-init g c = record {
  reads = nothing_read_ok tt;
  noted = record { has = λ w is q there. absurd cc };
}

pub returns-in_err-content_noted-clause-reads : goal.returns-in_err-content_noted-clause-reads
returns-in_err-content_noted-clause-reads g c = read_handed (read_then c.loop-place.invariant.reads c.in_err-content_noted.ensures.reads) _ c.from_residual.ensures.1

pub loop-place-preserved : goal.loop-place-preserved
loop-place-preserved g c =
    let places = c.args.places.now in
    let i = c.loop-place.place-index in
    let more = sym (take_more places i c.place-item.result c.loop-place-test.true ∙ ap (λ (q : Name). take i places ++ q ∷ []) (sym c.place-item.is)) in
    record {
      reads = read_ok (read_then c.loop-place.invariant.reads c.content_noted.ensures.reads) tt;
      noted =
          told_as (told_read c.loop-place.invariant.reads (c.in_ok-content_noted.ensures.noted (take i places))) _
          (λ w is noted. subst (λ (done : List Name). IsFirstOf done w.leaves c.content_noted.new.long) more (noted (c.loop-place.invariant.noted.has w is)));
    }

pub returns-clause-past : goal.returns-clause-past
returns-clause-past g c is_taken =
    told_as c.loop-place.invariant.noted _ (λ w is noted taken.
    c.count_noted.ensures ∙ first_past c.args.places.now is_taken w.leaves taken c.loop-place.long
    (subst (λ (done : List Name). IsFirstOf done w.leaves c.loop-place.long) (take_all c.loop-place.place-index c.args.places.now c.loop-place-test.false) noted))
