-- Where the work of a command's parts has come to a moment, the command is underway.
use Rattle.std.proofs.Common.{◌≡◌, ◌≢◌, ◌↔◌, ◌&&◌, ℕ, Bool, true, false, cond, List, [], length, nat_lt, unwrap_or, Option, None, Some, is_none, option_map, refl, sym, ap, subst, ◌∙◌}
use Rattle.std.proofs.lemmas.Bool.{both_ways}
use Rattle.std.specs.FinMap.{get}
use Rattle.activation_stage.specs.ActivationPart.{activation_part}
use Rattle.activation_stage.specs.Owners.{owners_after}
use Rattle.boot_entries.specs.Entries.{version_path}
use Rattle.etc_manifest.specs.Owners.{OwnerIds}
use Rattle.generations.specs.declared.gens.Gens.{Gens}
use Rattle.generations.specs.declared.moving.Move.{Move}
use Rattle.generations.specs.Move.{gens_moved}
use Rattle.host_trait.specs.declared.manager_state.ManagerState.{ManagerState}
use Rattle.host_trait.specs.States.{state_of}
use Rattle.host_trait.specs.World.{Leaves, WorldState, content_of, stage}
use Rattle.owed_log.specs.Lengths.{AreOwedShort}
use Rattle.owed_plan.specs.Store.{AreSameInStore}
use Rattle.owed_plan.proofs.StoreLemmas.{content_same}
use Rattle.switch_engine.specs.declared.command.Command.{Command}
use Rattle.switch_engine.specs.declared.row.Row.{Row}
use Rattle.switch_engine.specs.Commands.{brought_by, brought_to, if_so, lacks_system, missing, new_system, row, switched_by, switched_to}
use Rattle.switch_engine.specs.Final.{AreFinalUnits}
use Rattle.switch_engine.specs.Owing.{IsSteadyFor, IsSteadyTo, IsUnderway}
use Rattle.switch_engine.specs.Rows.{default_if, final, gens_to, part_of, parts, parts_in, refusal, refusal_before_length, refusal_by, refusal_in_parts, switch_part, system_refusal, too_many_by, too_much_by}
use Rattle.leaf_limits.specs.Limits.{is_long, leaf_max}
use Rattle.switch_engine.specs.Lengths.{too_long_by}
use Rattle.activation_stage.proofs.ActivationLemmas.{owners_law}
use Rattle.boot_entries.proofs.DefaultLemmas.{default_stays_law}
use Rattle.boot_entries.proofs.OwnLemmas.{version_stored}
use Rattle.switch_engine.proofs.ShortLemmas.{owed_short, parts_little, version_short}
use Rattle.switch_engine.proofs.PartsLemmas.{gens_to_law, not_in_store, parts_are}
use Rattle.tree_put.specs.First.{first_in_the_way}
use Rattle.tree_put.proofs.FirstLemmas.{none_as_listed}
use Rattle.switch_names.specs.Names.{Name}
use Rattle.switch_names.specs.SystemName.{IsSystemPath}
use Rattle.switch_names.proofs.Outcomes.{option_or_parts, option_or_nothing, none_mapped}
use Rattle.switch_parts.specs.declared.refusal.Refusal.{Refusal}
use Rattle.switch_parts.specs.declared.refusal.Refusal.TheVariants.{InTheWay, NoSystem}
use Rattle.switch_engine.proofs.LongLemmas.{none_refused, unless}
use Rattle.switch_parts.specs.Limits.{long_refusal}
use Rattle.switch_parts.specs.Part.{IsFree, IsPartMoment, IsPart, final_leaf}
use Rattle.switch_parts.proofs.Parts.{ends_alike, first_free}
use Rattle.switch_parts.proofs.StoreLemmas.{store_not_stage}
use Rattle.unit_stage.specs.Owes.{HasGoneOn, IsSteadyWorld}
use Rattle.unit_stage.specs.Units.{AreUnitsUnderway, units_part}
use Rattle.unit_stage.proofs.GoneOnLemmas.{no_call}

-- ---- why a command isn't refused

-- what a command has that isn't refused: its system's file stands and isn't too long, nor is what is read of what is owed, and its parts
-- are free
pub record IsFreeBy (start_up switches : Bool) (moves : Option Move) (system : Name) (leaves : Leaves) : Type 0 where
  pub version : is_none (content_of leaves (version_path system)) ≡ false
  pub short : is_long leaves (version_path system) ≡ false
  pub owed : switches ≡ true → AreOwedShort leaves
  pub parts : IsFree (parts_in start_up switches moves system leaves) leaves

abbrev refused_by : Bool → Bool → Option Move → Name → Leaves → Option Refusal
refused_by start_up switches moves system leaves = cond (is_none (content_of leaves (version_path system))) (Some NoSystem) (refusal_by None start_up switches moves system leaves)

free_by : (start_up switches : Bool) (moves : Option Move) (system : Name) (leaves : Leaves) → refused_by start_up switches moves system leaves ≡ None → IsFreeBy start_up switches moves system leaves
free_by start_up switches moves system leaves none =
    let first = unless (is_none (content_of leaves (version_path system))) NoSystem (refusal_by None start_up switches moves system leaves) none in
    let within = option_or_parts (too_much_by switches moves system leaves) (refusal_in_parts None start_up switches moves system leaves) first.1 in
    let taken = (option_or_parts (too_long_by switches moves system (gens_to moves system leaves) leaves) (too_many_by switches system leaves) within.0).0 in
    let before = option_or_parts (refusal_before_length start_up switches moves system leaves) (long_refusal ((parts_in start_up switches moves system leaves).long leaves)) within.1 in
    let second = option_or_parts (option_map InTheWay (first_in_the_way ((parts_in start_up switches moves system leaves).places leaves) leaves)) ((parts_in start_up switches moves system leaves).refusal leaves) before.0 in
    record {
      version = first.0;
      short = version_short switches moves system leaves taken;
      owed = owed_short switches moves system leaves taken;
      parts = record { way = (none_as_listed ((parts_in start_up switches moves system leaves).places leaves) leaves).0 (none_mapped InTheWay (first_in_the_way ((parts_in start_up switches moves system leaves).places leaves) leaves) second.0); refusal = second.1; short = none_refused ((parts_in start_up switches moves system leaves).long leaves) before.1 };
    }

by_free : (start_up switches : Bool) (moves : Option Move) (system : Name) (leaves : Leaves) → IsSystemPath system → IsFreeBy start_up switches moves system leaves → refused_by start_up switches moves system leaves ≡ None
by_free start_up switches moves system leaves named free =
    ap (λ b. cond b (Some NoSystem) (refusal_by None start_up switches moves system leaves)) free.version
    ∙ option_or_nothing (too_much_by switches moves system leaves) (refusal_in_parts None start_up switches moves system leaves) (parts_little start_up moves system named leaves free.short switches free.owed free.parts.refusal)
    (option_or_nothing (refusal_before_length start_up switches moves system leaves) (long_refusal ((parts_in start_up switches moves system leaves).long leaves))
    (option_or_nothing (option_map InTheWay (first_in_the_way ((parts_in start_up switches moves system leaves).places leaves) leaves)) ((parts_in start_up switches moves system leaves).refusal leaves)
    (ap (option_map InTheWay) ((none_as_listed ((parts_in start_up switches moves system leaves).places leaves) leaves).1 free.parts.way)) free.parts.refusal)
    (ap long_refusal free.parts.short))

abbrev pub IsFreeCommand : Command → Leaves → Type 0
IsFreeCommand command leaves = IsFreeBy (row command leaves).start_up (row command leaves).switches (row command leaves).moves (new_system command leaves) leaves

-- what it has of its goal too
pub has_a_system : (command : Command) (leaves : Leaves) → refusal command leaves ≡ None → lacks_system command leaves ≡ false
has_a_system command leaves none = (unless (lacks_system command leaves) (missing command) (system_refusal None command leaves) none).0

pub free_command : (command : Command) (leaves : Leaves) → refusal command leaves ≡ None → IsFreeCommand command leaves
free_command command leaves none =
    free_by (row command leaves).start_up (row command leaves).switches (row command leaves).moves (new_system command leaves) leaves (unless (lacks_system command leaves) (missing command) (system_refusal None command leaves) none).1

-- ---- what a moment keeps for the units

-- what a moment keeps of a switch of the units to a system, or of none: it leaves the same states, and has gone on to there
record IsSince (start_up : Bool) (to : Option Name) (w m : WorldState) : Type 0 where
  units : (v : WorldState) → AreFinalUnits start_up to m v ↔ AreFinalUnits start_up to w v
  same_bad : m.manager.bad ≡ w.manager.bad
  gone_on : HasGoneOn start_up to w m
  steady : IsSteadyTo start_up to m

since_none : (start_up : Bool) (w m : WorldState) → m.manager ≡ w.manager → IsSince start_up None w m
since_none start_up w m same = record {
  units = λ v. (
    λ is. (is.0 ∙ ap (λ (k : ManagerState). k.states) same, is.1 ∙ ap (λ (k : ManagerState). k.loaded) same),
    λ is. (is.0 ∙ sym (ap (λ (k : ManagerState). k.states) same), is.1 ∙ sym (ap (λ (k : ManagerState). k.loaded) same)),
  );
  same_bad = ap (λ (k : ManagerState). k.bad) same;
  gone_on = no_call start_up None w m same (λ act unit owed. absurd owed) (λ unit owed. absurd owed.1);
  steady = tt;
}

units_by : (start_up : Bool) (moves : Option Move) (system : Name) (owners : OwnerIds) (gens : Gens) (w m : WorldState) → IsFree (parts start_up true moves system owners gens) w.leaves → IsPartMoment (parts start_up true moves system owners gens) w m → IsSteadyWorld start_up system w →
    AreUnitsUnderway start_up system w m
units_by start_up moves system owners gens w m free moment steady =
    let both = first_free (switch_part start_up system owners) (default_if moves system gens) w.leaves free in
    let units = first_free (units_part start_up system) (activation_part system owners) w.leaves both in
    moment.keeps.0.0.underway (record { way = units.way; refusal = units.refusal }) steady

-- what is read of what is owed is short enough, where it was and the units are switched
short_by : (start_up switches : Bool) (moves : Option Move) (system : Name) (owners : OwnerIds) (gens : Gens) (w m : WorldState) → IsFree (parts start_up switches moves system owners gens) w.leaves → IsPartMoment (parts start_up switches moves system owners gens) w m → IsSteadyTo start_up (if_so switches system) w →
    (switches ≡ true → AreOwedShort w.leaves) → switches ≡ true → AreOwedShort m.leaves
short_by start_up true moves system owners gens w m free moment steady owed on = (units_by start_up moves system owners gens w m free moment steady).short (owed refl)
short_by start_up false moves system owners gens w m free moment steady owed on = absurd (both_ways false refl on)

since_by : (start_up switches : Bool) (moves : Option Move) (system : Name) (owners : OwnerIds) (gens : Gens) (w m : WorldState) → IsFree (parts start_up switches moves system owners gens) w.leaves → IsPartMoment (parts start_up switches moves system owners gens) w m → IsSteadyTo start_up (if_so switches system) w →
    IsSince start_up (if_so switches system) w m
since_by start_up true moves system owners gens w m free moment steady =
    let is = units_by start_up moves system owners gens w m free moment steady in
    record {
      units = λ v. (λ end. ((is.same_states (state_of v.manager.states)).0 end.0, end.1), λ end. ((is.same_states (state_of v.manager.states)).1 end.0, end.1));
      same_bad = is.same_bad;
      gone_on = is.gone_on;
      steady = is.steady;
    }
since_by start_up false (Some move) system owners gens w m free moment steady = since_none start_up w m (moment.only.manager refl)
since_by start_up false None system owners gens w m free moment steady = since_none start_up w m (moment.only.manager refl)

-- ---- the owners of what is put below /etc, and the generations that stand after a set

-- A moment of the parts keeps the owners where the units are switched, and without that nothing asks for them. It keeps the
-- generations where the profile is set, and without that nothing asks for these.
module _ (start_up : Bool) (system : Name) (w m : WorldState) where
  final_owners : (switches : Bool) (moves : Option Move) → IsPartMoment (parts_in start_up switches moves system w.leaves) w m → (q : Name) →
      final_leaf (parts_in start_up switches moves system m.leaves) m.leaves q ≡ final_leaf (parts start_up switches moves system (owners_after system w.leaves) (gens_to moves system m.leaves)) m.leaves q
  final_owners true moves moment q =
      ap (λ (o : OwnerIds). final_leaf (parts start_up true moves system o (gens_to moves system m.leaves)) m.leaves q) (owners_law system (owners_after system w.leaves) w m moment.keeps.0.1)
  final_owners false moves moment q = refl

  final_gens : (switches : Bool) (moves : Option Move) → IsPartMoment (parts_in start_up switches moves system w.leaves) w m → (q : Name) →
      final_leaf (parts start_up switches moves system (owners_after system w.leaves) (gens_to moves system m.leaves)) m.leaves q ≡ final_leaf (parts_in start_up switches moves system w.leaves) m.leaves q
  final_gens switches (Some move) moment q =
      ap (λ (gens : Gens). final_leaf (parts start_up switches (Some move) system (owners_after system w.leaves) gens) m.leaves q) (default_stays_law move system (gens_moved move system w.leaves) w m moment.keeps.1.0)
  final_gens switches None moment q = refl

  free_owners : (switches : Bool) (moves : Option Move) → IsPartMoment (parts_in start_up switches moves system w.leaves) w m →
      IsFree (parts start_up switches moves system (owners_after system w.leaves) (gens_to moves system m.leaves)) m.leaves → IsFree (parts_in start_up switches moves system m.leaves) m.leaves
  free_owners true moves moment free =
      subst (λ (o : OwnerIds). IsFree (parts start_up true moves system o (gens_to moves system m.leaves)) m.leaves) (sym (owners_law system (owners_after system w.leaves) w m moment.keeps.0.1)) free
  free_owners false moves moment free = free

  free_gens : (switches : Bool) (moves : Option Move) → IsPartMoment (parts_in start_up switches moves system w.leaves) w m → IsFree (parts_in start_up switches moves system w.leaves) m.leaves →
      IsFree (parts start_up switches moves system (owners_after system w.leaves) (gens_to moves system m.leaves)) m.leaves
  free_gens switches (Some move) moment free =
      subst (λ (gens : Gens). IsFree (parts start_up switches (Some move) system (owners_after system w.leaves) gens) m.leaves)
      (sym (default_stays_law move system (gens_moved move system w.leaves) w m moment.keeps.1.0)) free
  free_gens switches None moment free = free

-- ---- a command is underway

module _ (command : Command) (w m : WorldState) (on : (row command w.leaves).changes ≡ true) (same : row command m.leaves ≡ row command w.leaves)
    (has : lacks_system command m.leaves ≡ false) (named : IsSystemPath (new_system command w.leaves)) (free : IsFreeCommand command w.leaves) (moment : IsPartMoment (part_of command w.leaves) w m) where
  abbrev start_up : Bool
  start_up = (row command w.leaves).start_up

  abbrev switches : Bool
  switches = (row command w.leaves).switches

  abbrev moves : Option Move
  moves = (row command w.leaves).moves

  abbrev system : Name
  system = new_system command w.leaves

  same_store : AreSameInStore m.leaves w.leaves
  same_store q inside = moment.only.leaves q (not_in_store start_up switches moves system (owners_after system w.leaves) (gens_to moves system w.leaves) q inside) (store_not_stage q inside)

  parts_is : IsPart (parts_in start_up switches moves system w.leaves)
  parts_is = parts_are start_up switches moves system named (owners_after system w.leaves) (gens_to moves system w.leaves) (gens_to_law moves system w.leaves named)

  brought_first : brought_to command w.leaves ≡ switched_to command w.leaves
  brought_first = ap (λ b. if_so (b && switches) system) on

  -- the units at the end by the row there
  units_here : (v : WorldState) → AreFinalUnits (row command m.leaves).start_up (brought_to command m.leaves) m v ↔ AreFinalUnits start_up (switched_to command w.leaves) m v
  units_here v = (
    λ is. subst (λ to. AreFinalUnits start_up to m v) brought_first (subst (λ (r : Row). AreFinalUnits r.start_up (brought_by r) m v) same is),
    λ is. subst (λ (r : Row). AreFinalUnits r.start_up (brought_by r) m v) (sym same) (subst (λ to. AreFinalUnits start_up to m v) (sym brought_first) is),
  )

  final_same : (q : Name) → q ≢ stage → final command m.leaves q ≡ final command w.leaves q
  final_same q ne =
      ap (λ (r : Row). cond r.changes (final_leaf (parts_in r.start_up r.switches r.moves r.system m.leaves) m.leaves q) (get m.leaves q)) same
      ∙ ap (λ b. cond b (final_leaf (parts_in start_up switches moves system m.leaves) m.leaves q) (get m.leaves q)) on
      ∙ final_owners start_up system w m switches moves moment q
      ∙ final_gens start_up system w m switches moves moment q
      ∙ ends_alike (parts_in start_up switches moves system w.leaves) parts_is w m moment q ne
      ∙ sym (ap (λ b. cond b (final_leaf (part_of command w.leaves) w.leaves q) (get w.leaves q)) on)

  still_free : IsSteadyFor command w → IsFreeBy start_up switches moves system m.leaves
  still_free steady = record {
    version = ap is_none (content_same m.leaves w.leaves same_store (version_path system) (version_stored system named)) ∙ free.version;
    short = ap (λ (content : Option (List ℕ)). nat_lt leaf_max (length (unwrap_or content []))) (content_same m.leaves w.leaves same_store (version_path system) (version_stored system named)) ∙ free.short;
    owed = short_by start_up switches moves system (owners_after system w.leaves) (gens_to moves system w.leaves) w m free.parts moment steady free.owed;
    parts = free_owners start_up system w m switches moves moment (free_gens start_up system w m switches moves moment (parts_is.stays_free w m moment.keeps free.parts));
  }

  still_not_refused : IsSteadyFor command w → refusal command m.leaves ≡ None
  still_not_refused steady =
      ap (λ b. cond b (Some (missing command)) (system_refusal None command m.leaves)) has
      ∙ ap (λ (r : Row). refused_by r.start_up r.switches r.moves r.system m.leaves) same ∙ by_free start_up switches moves system m.leaves named (still_free steady)

  pub underway : IsSteadyFor command w → IsUnderway command w m
  underway steady =
      let since = since_by start_up switches moves system (owners_after system w.leaves) (gens_to moves system w.leaves) w m free.parts moment steady in
      record {
        same_row = same;
        same_end = λ v. (
          λ is. record {
            leaves = λ q ne. is.leaves q ne ∙ final_same q ne;
            units = subst (λ to. AreFinalUnits start_up to w v) (sym brought_first) ((since.units v).0 ((units_here v).0 is.units));
            bad = is.bad ∙ since.same_bad;
          },
          λ is. record {
            leaves = λ q ne. is.leaves q ne ∙ sym (final_same q ne);
            units = (units_here v).1 ((since.units v).1 (subst (λ to. AreFinalUnits start_up to w v) brought_first is.units));
            bad = is.bad ∙ sym since.same_bad;
          },
        );
        gone_on = since.gone_on;
        not_refused = still_not_refused steady;
        steady = subst (λ (r : Row). IsSteadyTo r.start_up (switched_by r) m) (sym same) since.steady;
      }
