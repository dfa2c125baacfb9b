-- What is about the units is a part of a switch.
use Rattle.std.proofs.Common.{◌≡◌, ◌||◌, true, List, Some, refl, sym, subst, ◌∙◌, Bool, inl}
use Rattle.std.proofs.lemmas.Bool.{both_ways, or_left}
use Rattle.std.specs.FinMap.{get}
use Rattle.host_trait.specs.World.{WorldState}
use Rattle.log_text.specs.declared.lists.Lists.{Lists}
use Rattle.owed_lists.specs.Lists.{place_of}
use Rattle.owed_log.specs.declared.log_write.LogWrite.{LogWrite}
use Rattle.owed_log.specs.Lengths.{AreOwedShort}
use Rattle.owed_log.specs.Places.{log_place}
use Rattle.owed_log.specs.Standing.{AreListsAt}
use Rattle.owed_log.specs.Writing.{IsWriteFor}
use Rattle.switch_names.specs.Names.{Name}
use Rattle.switch_parts.specs.Leaves.{is_near}
use Rattle.switch_parts.specs.Part.{IsOnly, IsSameFor}
use Rattle.switch_parts.specs.Store.{is_in_store}
use Rattle.unit_stage.specs.Laws.{AreSameBeside, UnitMomentLaw, UnitsPartLaw}
use Rattle.owed_plan.specs.declared.owed.Owed.{Owed}
use Rattle.unit_stage.specs.Order.{IsOrderedAt}
use Rattle.unit_stage.specs.Plan.{IsOwedBy}
use Rattle.unit_stage.specs.Owned.{owns_units, reads_units, unit_places}
use Rattle.unit_stage.specs.System.{IsSystem, current_place}
use Rattle.unit_stage.specs.Units.{AreUnitsFree, AreUnitsKept, AreUnitsUnderway, units_part}
use Rattle.unit_stage.proofs.BegunLemmas.{begun_underway, owed_after}
use Rattle.unit_stage.proofs.FreeLemmas.{stays_free}
use Rattle.unit_stage.proofs.GoneOnLemmas.{goes_on}
use Rattle.unit_stage.proofs.ListsLemmas.{AreSameLists, lists_same, old_leaves, write_same}
use Rattle.unit_stage.proofs.MomentLemmas.{free_law, underway_law}
use Rattle.unit_stage.proofs.OrderLemmas.{ordered_there}
use Rattle.unit_stage.proofs.OwnedLemmas.{not_reads_stage, same_store}
use Rattle.unit_stage.proofs.ElsewhereLemmas.{own_current, own_list, own_log}
use Rattle.unit_stage.proofs.ShortLemmas.{short_same}

-- ---- from moment to moment

-- what is underway stays underway
pub underway_then : (start_up : Bool) (system : Name) (w v m : WorldState) → AreUnitsUnderway start_up system w v → AreUnitsUnderway start_up system v m → AreUnitsUnderway start_up system w m
underway_then start_up system w v m one then = record {
  same_states = λ states. (
    λ end. (one.same_states states).0 ((then.same_states states).0 end),
    λ end. (then.same_states states).1 ((one.same_states states).1 end),
  );
  same_bad = then.same_bad ∙ one.same_bad;
  gone_on = goes_on start_up (Some system) w v m one.gone_on then.gone_on;
  free = then.free;
  short = λ short. then.short (one.short short);
  steady = then.steady;
}

pub kept_then : (start_up : Bool) (system : Name) (w v m : WorldState) → AreUnitsKept start_up system w v → AreUnitsKept start_up system v m → AreUnitsKept start_up system w m
kept_then start_up system w v m one then = record {
  free = λ free. then.free (one.free free);
  underway = λ free steady. let first = one.underway free steady in underway_then start_up system w v m first (then.underway first.free first.steady);
}

-- ---- where nothing has changed

pub reads_own : (q : Name) → owns_units q ≡ true → reads_units q ≡ true
reads_own q own = or_left (owns_units q || is_near unit_places q) (is_in_store q) (or_left (owns_units q) (is_near unit_places q) own)

module _ (start_up : Bool) (system : Name) (w m : WorldState) (is_system : IsSystem system) (same : IsSameFor (units_part start_up system) w m) where
  same_beside : AreSameBeside w m
  same_beside q read none = same.leaves q read

  same_current : get m.leaves current_place ≡ get w.leaves current_place
  same_current = same.leaves current_place (reads_own current_place own_current)

  same_log : get m.leaves log_place ≡ get w.leaves log_place
  same_log = same.leaves log_place (reads_own log_place own_log)

  lists_there : AreSameLists w.leaves m.leaves
  lists_there = record {
    log = same_log;
    old = λ which. same.leaves (place_of which) (reads_own (place_of which) (own_list which));
  }

  listed_there : (lists : Lists) → AreListsAt w.leaves lists → AreListsAt m.leaves lists
  listed_there = lists_same w.leaves m.leaves (same_store w m same_beside) lists_there

  still_free : AreUnitsFree system w.leaves → AreUnitsFree system m.leaves
  still_free = stays_free system w m same_beside (old_leaves w.leaves m.leaves lists_there) is_system (inl same_current)

  still_short : AreOwedShort w.leaves → AreOwedShort m.leaves
  still_short = short_same w.leaves m.leaves (same_store w m same_beside) lists_there

  pub kept_same : AreUnitsKept start_up system w m
  kept_same = record {
    free = still_free;
    underway = λ free steady. begun_underway start_up system is_system w m same_beside same_current listed_there (same.manager refl) (still_free free) still_short steady;
  }

  -- the same is owed
  pub owed_same : (owed : Owed) → IsOwedBy start_up system w owed → IsOwedBy start_up system m owed
  owed_same = owed_after start_up system is_system w m same_beside same_current listed_there (same.manager refl)

  -- and the same has to be written to record it
  pub write_there : (lists : Lists) (write : LogWrite) → IsWriteFor w.leaves lists write → IsWriteFor m.leaves lists write
  write_there = write_same w.leaves m.leaves same_log

  -- and the starts are in the same order
  pub order_same : (owed : Owed) (order : List Name) → IsOrderedAt w.leaves system owed order → IsOrderedAt m.leaves system owed order
  order_same owed order (ordered, are, is) = (ordered, ordered_there w.leaves m.leaves system owed ordered (λ q inside. sym (same_store w m same_beside q inside)) is_system.inside are, is)

pub units_part_law : UnitsPartLaw
units_part_law start_up system is_system = record {
  keeps_self = λ w. kept_same start_up system w w is_system (record { leaves = λ q read. refl; manager = λ call. refl });
  keeps_then = kept_then start_up system;
  same_end = λ w m keeps q own. refl;
  stays_free = λ w m keeps free. let kept = keeps.free (record { way = free.way; refusal = free.refusal }) in record { way = kept.way; refusal = kept.refusal; short = refl };
  frame = λ w m same. kept_same start_up system w m is_system same;
  reads_own = reads_own;
  no_stage = not_reads_stage;
}

-- ---- moments

-- what isn't owned and isn't the stage has not changed, and so what is looked at
pub beside_of : (start_up : Bool) (system : Name) (w m : WorldState) → IsOnly (units_part start_up system) w m → AreSameBeside w m
beside_of start_up system w m only q read none = only.leaves q none (λ same. both_ways _ not_reads_stage (subst (λ x. reads_units x ≡ true) same read))

pub unit_moment_law : UnitMomentLaw
unit_moment_law start_up system owed order w m is_system owes arranges moment only =
    let beside = beside_of start_up system w m only in
    record {
      keeps = record {
        free = λ free. free_law start_up system owed order w m is_system owes moment beside free;
        underway = λ free steady. underway_law start_up system owed order w m is_system owes arranges free steady moment beside;
      };
      only = only;
    }
