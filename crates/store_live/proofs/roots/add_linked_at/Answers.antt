use Rattle.std.proofs.Common.{ℕ, Option, List, [], refl, sym, ap, subst, ◌∙◌}
use Rattle.std.proofs.lemmas.Bool.{both_ways}
use Rattle.host_trait.proofs.Moments.{told_as}
use Rattle.host_trait.proofs.Readings.{nothing_read_ok}
use Rattle.switch_names.specs.Names.{has}
use Rattle.store_live.specs.Grown.{IsGrown, IsIn, IsLinkedAt, link_target}
use Rattle.store_live.proofs.GrownLemmas.{grown_as, grown_none, linked_there}
use Rattle.store_live.proofs.roots.add_linked_at.Goals as goal

pub returns-then-not-counts-clause-reads : goal.returns-then-not-counts-clause-reads
returns-then-not-counts-clause-reads g c = nothing_read_ok tt

pub returns-then-not-counts-clause-grown : goal.returns-then-not-counts-clause-grown
returns-then-not-counts-clause-grown g c = record {
  has = λ w is. grown_none c.args.roots.now.keys c.args.roots.now.keys (IsLinkedAt (has c.args.skipped.now.keys) w.leaves c.args.stored.now c.args.place.now) refl
      (λ x linked. both_ways _ (sym c.counts.ensures ∙ c.if-not-counts.true) linked.counted);
}

pub returns-clause-grown : goal.returns-clause-grown
returns-clause-grown g c =
    told_as c.in_ok-leaf.ensures.leaf _ (λ w is stands.
    let target = c.link_target.ensures ∙ ap link_target stands in
    grown_as c.args.roots.now.keys c.add_in.new.set.keys _ (IsLinkedAt (has c.args.skipped.now.keys) w.leaves c.args.stored.now c.args.place.now)
    (linked_there (has c.args.skipped.now.keys) w.leaves c.args.stored.now c.args.place.now (sym c.counts.ensures ∙ c.if-not-counts.false))
    (subst (λ (t : Option (List ℕ)). IsGrown c.args.roots.now.keys c.add_in.new.set.keys (IsIn c.args.stored.now [] t)) target c.in_ok-add_in.ensures))
