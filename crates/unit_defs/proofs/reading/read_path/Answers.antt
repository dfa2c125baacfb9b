use Rattle.std.proofs.Common.{◌&&◌, not, sym, ap, ◌∙◌}
use Rattle.host_trait.proofs.Moments.{told_as}
use Rattle.host_trait.proofs.Readings.{no_device, nothing_read, nothing_read_ok, read_handed, read_ok, read_starved}
use Rattle.switch_names.specs.Names.{is_name}
use Rattle.unit_defs.specs.Place.{is_want, place_after}
use Rattle.unit_defs.specs.Taken.{is_read}
use Rattle.unit_defs.proofs.NotingLemmas.{noted_as, unread_noted}
use Rattle.unit_defs.proofs.ReadingLemmas.{none_taken, path_taken}
use Rattle.unit_defs.proofs.reading.read_path.Goals as goal
use Rattle.switch_names.proofs.Outcomes.{none_left}

pub returns-in_default-clause-found : goal.returns-in_default-clause-found
returns-in_default-clause-found g c = record {
  has = λ w is. none_taken w.leaves c.args.front.now c.args.path.now c.args.found.now (none_left c.in_ok-place.field-0 c.in_default.not-Some ∙ c.in_ok-place.ensures);
}

pub returns-clause-found : goal.returns-clause-found
returns-clause-found g c = record {
  has = λ w is.
      path_taken w.leaves c.args.front.now c.args.path.now c.in-Some.place c.in_ok-part.part c.args.found.now c.put.new.found
      (sym c.in-Some.is ∙ c.in_ok-place.ensures) (c.in_ok-part.ensures.part.has w is) c.in_ok-put.ensures;
}

pub returns-in_default-clause-short : goal.returns-in_default-clause-short
returns-in_default-clause-short g c = record {
  has = λ w is.
      unread_noted w.leaves c.args.path.now (is_read (place_after c.args.front.now c.args.path.now)) c.args.long.now
      (ap is_read (sym (none_left c.in_ok-place.field-0 c.in_default.not-Some ∙ c.in_ok-place.ensures)));
}

pub returns-clause-short : goal.returns-clause-short
returns-clause-short g c =
    told_as c.in_ok-part.ensures.short _ (λ w is.
    noted_as w.leaves (λ q. is_name q c.args.path.now && not (is_want c.in-Some.place)) (λ q. is_name q c.args.path.now && is_read (place_after c.args.front.now c.args.path.now))
    c.args.long.now c.read_part.new.long (λ q both. ap (λ p. is_name q c.args.path.now && is_read p) (sym c.in-Some.is ∙ c.in_ok-place.ensures) ∙ both))

pub returns-in_err-place-clause-reads : goal.returns-in_err-place-clause-reads
returns-in_err-place-clause-reads g c = nothing_read _ (no_device _ c.from_residual.ensures.1)

pub returns-in_default-clause-reads : goal.returns-in_default-clause-reads
returns-in_default-clause-reads g c = nothing_read_ok tt

pub returns-in_err-part-clause-reads : goal.returns-in_err-part-clause-reads
returns-in_err-part-clause-reads g c = read_handed c.in_err-part.ensures.reads _ c.from_residual-in_err-part.ensures.1

pub returns-in_err-put-clause-reads : goal.returns-in_err-put-clause-reads
returns-in_err-put-clause-reads g c = read_starved c.read_part.ensures.reads _ c.from_residual-in_err-put.ensures.1

pub returns-clause-reads : goal.returns-clause-reads
returns-clause-reads g c = read_ok c.read_part.ensures.reads _
