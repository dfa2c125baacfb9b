use Rattle.std.proofs.Common.{◌&&◌, None, not, sym, ap, ◌∙◌}
use Rattle.std.proofs.lemmas.Bool.{and_parts}
use Rattle.host_trait.proofs.Moments.{told_as}
use Rattle.host_trait.proofs.Readings.{nothing_read_ok, read_ok, read_starved}
use Rattle.switch_names.specs.Names.{is_name}
use Rattle.unit_defs.specs.Place.{is_want}
use Rattle.unit_defs.proofs.NotingLemmas.{noted_as, unread_noted}
use Rattle.unit_defs.proofs.reading.read_part.Goals as goal

pub returns-then-is_want-clause-short : goal.returns-then-is_want-clause-short
returns-then-is_want-clause-short g c = record {
  has = λ w is.
      unread_noted w.leaves c.args.path.now (not (is_want c.args.place.now)) c.args.long.now (ap not (sym c.is_want.ensures ∙ c.if-is_want.true));
}

pub returns-clause-short : goal.returns-clause-short
returns-clause-short g c =
    told_as c.in_ok-bytes.ensures.short _ (λ w is.
    noted_as w.leaves (λ q. is_name q c.args.path.now) (λ q. is_name q c.args.path.now && not (is_want c.args.place.now)) c.args.long.now c.content_measured.new.long
    (λ q both. (and_parts (is_name q c.args.path.now) (not (is_want c.args.place.now)) both).0))

pub returns-then-is_want-clause-reads : goal.returns-then-is_want-clause-reads
returns-then-is_want-clause-reads g c = nothing_read_ok None

pub returns-in_err-read-clause-reads : goal.returns-in_err-read-clause-reads
returns-in_err-read-clause-reads g c = read_starved c.content_measured.ensures.reads _ c.from_residual-in_err-read.ensures.1

pub returns-clause-reads : goal.returns-clause-reads
returns-clause-reads g c = read_ok c.content_measured.ensures.reads _
