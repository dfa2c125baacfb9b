use Rattle.std.proofs.Common.{[], ap, subst, ◌∙◌}
use Rattle.std.specs.Option.{option_map_or}
use Rattle.host_trait.specs.World.{content_of}
use Rattle.host_trait.proofs.Moments.{told_as}
use Rattle.host_trait.proofs.Readings.{no_device, nothing_read, read_ok, read_starved}
use Rattle.fstab_mounts.specs.Fstab.{fstab_units}
use Rattle.switch_names.specs.Names.{Name, is_name}
use Rattle.unit_defs.specs.Taken.{NotesLong}
use Rattle.unit_defs.proofs.reading.fstab.lines_of.Goals as goal

pub returns-clause-short : goal.returns-clause-short
returns-clause-short g c =
    told_as c.in_ok-bytes.ensures.short _
    (λ w is. subst (λ (path : Name). NotesLong c.args.long.now c.content_measured.new.long (λ q. is_name q path) w.leaves) c.in_ok-path.ensures)

pub returns-clause-lines : goal.returns-clause-lines
returns-clause-lines g c = record {
  has = λ w is.
      c.in_ok-lines_in.ensures
      ∙ ap (λ bytes. option_map_or fstab_units bytes []) (c.in_ok-bytes.ensures.content.has w is ∙ ap (content_of w.leaves) c.in_ok-path.ensures);
}

pub returns-in_err-path-clause-reads : goal.returns-in_err-path-clause-reads
returns-in_err-path-clause-reads g c = nothing_read _ (no_device _ c.from_residual.ensures.1)

pub returns-in_err-lines_in-clause-reads : goal.returns-in_err-lines_in-clause-reads
returns-in_err-lines_in-clause-reads g c = read_starved c.content_measured.ensures.reads _ c.from_residual-in_err-lines_in.ensures.1

pub returns-clause-reads : goal.returns-clause-reads
returns-clause-reads g c = read_ok c.content_measured.ensures.reads _
