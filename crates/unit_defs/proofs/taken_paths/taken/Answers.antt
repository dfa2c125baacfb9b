use Rattle.std.proofs.Common.{◌||◌, ◌&&◌, ◌++◌, ◌∷◌, [], List, ℕ, sym, ap, subst, ◌∙◌}
use Rattle.host_trait.specs.World.{listed}
use Rattle.host_trait.proofs.Readings.{read_handed, read_ok, read_starved, read_then, told_read}
use Rattle.leaf_limits.specs.Limits.{AreTaken}
use Rattle.switch_names.specs.Names.{Name, has, is_name}
use Rattle.switch_names.specs.Path.{slash}
use Rattle.unit_defs.specs.declared.unit.Unit.{Unit}
use Rattle.unit_defs.specs.Defs.{own_in}
use Rattle.unit_defs.specs.Place.{place_after}
use Rattle.unit_defs.specs.Taken.{takes_place, takes_units}
use Rattle.unit_defs.proofs.TakenLemmas.{all_taken}
use Rattle.unit_defs.proofs.taken_paths.taken.Goals as goal

pub returns-in_err-paths-clause-reads : goal.returns-in_err-paths-clause-reads
returns-in_err-paths-clause-reads g c = read_handed (read_then c.read_file_units.ensures.reads c.in_err-paths.ensures.reads) _ c.from_residual-in_err-paths.ensures.1

pub returns-in_err-taken-clause-reads : goal.returns-in_err-taken-clause-reads
returns-in_err-taken-clause-reads g c = read_starved (read_then c.read_file_units.ensures.reads c.list.ensures.reads) _ c.from_residual-in_err-taken.ensures.1

pub returns-in_err-of_set-clause-reads : goal.returns-in_err-of_set-clause-reads
returns-in_err-of_set-clause-reads g c = read_starved (read_then c.read_file_units.ensures.reads c.list.ensures.reads) _ c.from_residual-in_err-of_set.ensures.1

pub returns-clause-reads : goal.returns-clause-reads
returns-clause-reads g c = read_ok (read_then c.read_file_units.ensures.reads c.list.ensures.reads) _

pub returns-clause-taken : goal.returns-clause-taken
returns-clause-taken g c = record {
  has = λ w is.
      subst (λ (places : List Name). AreTaken places (takes_units w.leaves c.args.system.now) w.leaves) (sym c.in_ok-of_set.ensures.items)
      (all_taken w.leaves c.args.system.now c.in_ok-fstab.fstab _ _ c.in_ok-taken.taken.keys c.in_ok-units.units c.in_ok-fstab.ensures
      (c.as_str-2.ensures ∙ c.in_ok-front.ensures ∙ ap (λ (text : List ℕ). text ++ slash ∷ []) (c.as_str.ensures.text ∙ c.in_ok-folder.ensures))
      (c.as_slice.ensures ∙ (told_read c.read_file_units.ensures.reads c.in_ok-paths.ensures.paths).has w is ∙ ap (λ folder. listed folder w.leaves) c.in_ok-folder.ensures)
      (c.in_ok-units.ensures.texts.has w is)
      (λ q. c.in_ok-taken.ensures q ∙ ap (λ (us : List Unit). is_name q c.in_ok-fstab.fstab || (has c.as_slice.result.now q && takes_place (own_in us) (place_after c.as_str-2.result.now q))) c.as_slice-2.ensures));
}
