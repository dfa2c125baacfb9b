-- A reboot keeps what a switch makes of accounts and of /etc.
use Rattle.std.proofs.Common.{◌≡◌, ◌≢◌, ◌⊎◌, ◌||◌, Bool, List, [], ◌∷◌, true, false, cond, Option, None, Some, unwrap_or, refl, sym, ap, subst, ◌∙◌, inl, inr, ⊎_elim}
use Rattle.std.proofs.lemmas.Bool.{both_ways, cases_Bool, or_from, or_right}
use Rattle.std.specs.FinMap.{get}
use Rattle.accounts_stage.specs.Places.{owns_accounts}
use Rattle.activation_stage.specs.ActivationPart.{activation_in, activation_part}
use Rattle.activation_stage.specs.Reboot.{IsAfterReboot}
use Rattle.activation_stage.specs.Owners.{owners_after}
use Rattle.activation_stage.proofs.ActivationLemmas.{activation_part_law, owners_law}
use Rattle.activation_stage.proofs.AgainLemmas.{activation_again_law}
use Rattle.activation_stage.proofs.RebootLemmas.{reboot_end_law}
use Rattle.etc_farm.specs.FarmPart.{owns_farm}
use Rattle.etc_manifest.specs.Owners.{OwnerIds}
use Rattle.generations.specs.Boot.{boot_system}
use Rattle.generations.proofs.BootLemmas.{boot_stays_law}
use Rattle.generations.specs.declared.moving.Move.{Move}
use Rattle.generations.specs.declared.moving.Move.TheVariants.{Set}
use Rattle.host_trait.specs.declared.leaf.LeafKind.{LeafKind}
use Rattle.host_trait.specs.World.{IsSound, Leaves, WorldState, seen, stage}
use Rattle.host_trait.proofs.Seen.{seen_at}
use Rattle.switch_engine.specs.declared.command.Command.TheVariants.{StartUp, Switch}
use Rattle.switch_engine.specs.Final.{IsFinalOf}
use Rattle.switch_engine.specs.Commands.{new_system}
use Rattle.switch_engine.specs.Moments.{IsMomentOf, IsStepTo, IsSwitchEnd, IsSwitchStep}
use Rattle.switch_engine.specs.Moments.IsStepTo.{Clearing, Recording, Setting, Switching}
use Rattle.switch_engine.specs.Owing.{IsOver, IsUnderway}
use Rattle.switch_engine.specs.Reboot.{HasBegunToStart, IsCutStartUp, LeadsByStartUps, SwitchRebootLaw}
use Rattle.switch_engine.specs.Rows.{default_if, gens_to, parts_in, refusal, switch_in, switch_part, switched_leaf}
use Rattle.switch_engine.proofs.ActivationApart.{units_parted}
use Rattle.switch_engine.proofs.BootLemmas.{boots_into}
use Rattle.switch_engine.proofs.PartsLemmas.{default_parted, switch_is}
use Rattle.switch_engine.proofs.SwitchLemmas.{switch_part_moment}
use Rattle.switch_engine.proofs.UnderwayLemmas.{free_command}
use Rattle.switch_names.specs.Names.{Name}
use Rattle.switch_names.specs.SystemName.{IsSystemPath}
use Rattle.switch_parts.specs.Part.{IsDone, IsFree, IsPart, IsSameFor, Part, final_leaf}
use Rattle.switch_parts.proofs.Parts.{first_free, second_free}
use Rattle.unit_stage.specs.Owned.{owns_units}
use Rattle.unit_stage.specs.Units.{units_part}
use Rattle.unit_stage.proofs.OrderLemmas.{arranges}
use Rattle.unit_stage.proofs.StepLemmas.{manager_seen}

-- what a part looks at isn't owned by one that doesn't own what that looks at
unowned : (p q : Part) → ((at : Name) → p.owns at ≡ true → q.reads at ≡ false) → (at : Name) → q.reads at ≡ true → p.owns at ≡ false
unowned p q apart at read = elim (cases_Bool (p.owns at)) [
  | inl own ↦ absurd (both_ways _ (apart at own) read)
  | inr other ↦ other
]

module _ (start_up : Bool) (system : Name) (moves : Option Move) (leaves : Leaves) (q : Name) where
  abbrev units : Part
  units = units_part start_up system

  abbrev activation : Part
  activation = activation_in system leaves

  abbrev default : Part
  default = default_if moves system (gens_to moves system leaves)

  no_units : activation.reads q ≡ true → units.owns q ≡ false
  no_units read = unowned units activation (units_parted start_up system (owners_after system leaves)).first q read

  no_default : activation.reads q ≡ true → default.owns q ≡ false
  no_default read = unowned default activation (default_parted moves system (owners_after system leaves) (gens_to moves system leaves)).first q read

  -- a command that switches the units leaves an activation's places at its end
  end_there : activation.owns q ≡ true → activation.reads q ≡ true → final_leaf (parts_in start_up true moves system leaves) leaves q ≡ activation.end leaves q
  end_there own read =
      ap (λ b. cond (b || default.owns q) (cond b (cond (units.owns q) (units.end leaves q) (activation.end leaves q)) (default.end leaves q)) (get leaves q)) (or_right (units.owns q) (activation.owns q) own)
      ∙ ap (λ b. cond b (units.end leaves q) (activation.end leaves q)) (no_units read)

  -- and what an activation looks at and doesn't own as it was
  beside_there : activation.reads q ≡ true → activation.owns q ≡ false → final_leaf (parts_in start_up true moves system leaves) leaves q ≡ get leaves q
  beside_there read none =
      ap (λ b. cond b ((parts_in start_up true moves system leaves).end leaves q) (get leaves q))
      (or_from (units.owns q || activation.owns q) (default.owns q) (or_from (units.owns q) (activation.owns q) (no_units read) none) (no_default read))

module _ (system : Name) (named : IsSystemPath system) (leaves : Leaves) where
  is_part : IsPart (activation_in system leaves)
  is_part = activation_part_law system (owners_after system leaves) named

  read_of : (q : Name) → (owns_accounts q || owns_farm q) ≡ true → (activation_in system leaves).reads q ≡ true
  read_of = is_part.reads_own

  not_stage : (q : Name) → (activation_in system leaves).reads q ≡ true → q ≢ stage
  not_stage q read same = both_ways _ is_part.no_stage (subst (λ x. (activation_in system leaves).reads x ≡ true) same read)

  -- an activation is free where a switch isn't refused
  activation_free : refusal (Switch system) leaves ≡ None → IsFree (activation_in system leaves) leaves
  activation_free none =
      second_free (units_part false system) (activation_in system leaves) leaves
      (first_free (switch_part false system (owners_after system leaves)) (default_if (Some Set) system (gens_to (Some Set) system leaves)) leaves
      (free_command (Switch system) leaves none).parts)

module _ (system : Name) (named : IsSystemPath system) (first w u : WorldState) (final : IsFinalOf (Switch system) first u) (q : Name) (own : (owns_accounts q || owns_farm q) ≡ true) where
  read : (activation_in system w.leaves).reads q ≡ true
  read = read_of system named w.leaves q own

  underway_end : IsUnderway (Switch system) first w → get u.leaves q ≡ (activation_in system w.leaves).end w.leaves q
  underway_end is = ((is.same_end u).1 final).leaves q (not_stage system named w.leaves q read) ∙ end_there false system (Some Set) w.leaves q own read

done_there : (system : Name) (named : IsSystemPath system) (first w : WorldState) → IsFinalOf (Switch system) first w → IsDone (activation_in system first.leaves) first w
done_there system named first w final = record {
  end = λ q own.
      let read = read_of system named first.leaves q own in
      final.leaves q (not_stage system named first.leaves q read) ∙ end_there false system (Some Set) first.leaves q own read;
  beside = λ q read none. final.leaves q (not_stage system named first.leaves q read) ∙ beside_there false system (Some Set) first.leaves q read none;
}

-- ---- what a start-up leaves

-- where nothing but the stage has changed an activation finds what it found
same_for : (system : Name) → IsSystemPath system → (w m : WorldState) → seen m ≡ seen w → IsSameFor (activation_in system w.leaves) w m
same_for system named w m same = record {
  leaves = λ q read. seen_at m w same q (not_stage system named w.leaves q read);
  manager = λ calls. absurd (both_ways false refl calls);
}

-- what an activation leaves is the same where its work has been kept
end_kept : (system : Name) → IsSystemPath system → (w m : WorldState) → (activation_in system w.leaves).Keeps w m → (q : Name) → (owns_accounts q || owns_farm q) ≡ true →
    (activation_in system m.leaves).end m.leaves q ≡ (activation_in system w.leaves).end w.leaves q
end_kept system named w m keeps q own =
    ap (λ (ids : OwnerIds). (activation_part system ids).end m.leaves q) (owners_law system (owners_after system w.leaves) w m keeps)
    ∙ (is_part system named w.leaves).same_end w m keeps q own

-- what is left at a place of an activation by a switch of the units
module _ (system : Name) (leaves : Leaves) (q : Name) (read : (activation_in system leaves).reads q ≡ true) where
  no_unit : owns_units q ≡ false
  no_unit = unowned (units_part false system) (activation_in system leaves) (units_parted false system (owners_after system leaves)).first q read

  switched_there : (activation_in system leaves).owns q ≡ true → switched_leaf system leaves q ≡ (activation_in system leaves).end leaves q
  switched_there own =
      let part = activation_in system leaves in
      ap (λ b. cond (b || part.owns q) (cond b ((units_part false system).end leaves q) (part.end leaves q)) (get leaves q)) no_unit
      ∙ ap (λ b. cond b (part.end leaves q) (get leaves q)) own

  switched_beside : (activation_in system leaves).owns q ≡ false → switched_leaf system leaves q ≡ get leaves q
  switched_beside none = ap (λ b. cond b ((switch_in false system leaves).end leaves q) (get leaves q)) (or_from (owns_units q) ((activation_in system leaves).owns q) no_unit none)

module _ (r : WorldState) (named : IsSystemPath (new_system StartUp r.leaves)) (sound : IsSound r.leaves) (none : refusal StartUp r.leaves ≡ None) where
  abbrev system : Name
  system = new_system StartUp r.leaves

  abbrev owners : OwnerIds
  owners = owners_after system r.leaves

  abbrev part : Part
  part = activation_in system r.leaves

  abbrev whole : Part
  whole = switch_in true system r.leaves

  whole_is : IsPart whole
  whole_is = switch_is true system named owners

  whole_free : IsFree whole r.leaves
  whole_free = first_free whole (default_if None system (gens_to None system r.leaves)) r.leaves (free_command StartUp r.leaves none).parts

  abbrev IsKept : WorldState → Type 0
  IsKept m = (q : Name) → (owns_accounts q || owns_farm q) ≡ true → (activation_in system m.leaves).end m.leaves q ≡ part.end r.leaves q

  seen_keeps : (m : WorldState) → seen m ≡ seen r → part.Keeps r m
  seen_keeps m same = (is_part system named r.leaves).frame r m (same_for system named r m same)

  kept_seen : (m : WorldState) → seen m ≡ seen r → IsKept m
  kept_seen m same = end_kept system named r m (seen_keeps m same)

  module _ (u : WorldState) (same : seen u ≡ seen r) where
    same_owners : owners_after system u.leaves ≡ owners
    same_owners = owners_law system owners r u (seen_keeps u same)

    still_free : IsFree (switch_in true system u.leaves) u.leaves
    still_free =
        subst (λ (ids : OwnerIds). IsFree (switch_part true system ids) u.leaves) (sym same_owners)
        (whole_is.stays_free r u (whole_is.frame r u (record {
          leaves = λ q read. seen_at u r same q (λ at. both_ways _ whole_is.no_stage (subst (λ x. whole.reads x ≡ true) at read));
          manager = λ calls. manager_seen u r same;
        })) whole_free)

    -- as the units are switched
    kept_switching : (m : WorldState) → IsSwitchStep true (Some system) u m → IsKept m
    kept_switching m step =
        let moment = switch_part_moment true system named step.0 u step.2 step.1 (arranges u.leaves system step.0 step.1 step.3) still_free m step.4 in
        let keeps = subst (λ (ids : OwnerIds). (activation_part system ids).Keeps u m) same_owners moment.keeps.1 in
        end_kept system named r m ((is_part system named r.leaves).keeps_then r u m (seen_keeps u same) keeps)

    -- when they are switched
    module _ (v : WorldState) (end : IsSwitchEnd true (Some system) u v) where
      left_there : (q : Name) → part.reads q ≡ true → get v.leaves q ≡ switched_leaf system u.leaves q
      left_there q read = end.4.leaves q (not_stage system named r.leaves q read)

      done : IsDone part r v
      done = record {
        end = λ q own.
            let read = read_of system named r.leaves q own in
            left_there q read ∙ switched_there system u.leaves q read own ∙ kept_seen u same q own;
        beside = λ q read other. left_there q read ∙ switched_beside system u.leaves q read other ∙ seen_at u r same q (not_stage system named r.leaves q read);
      }

      kept_switched : IsKept v
      kept_switched q own =
          let free = second_free (units_part true system) part r.leaves whole_free in
          sym (activation_again_law system r v named sound free done q own) ∙ done.end q own

  -- at each moment an activation of its system leaves what it leaves from the beginning
  pub start_up_keeps : (m : WorldState) → IsMomentOf StartUp r m → IsKept m
  start_up_keeps m moment = by moment.step
    where
      by : IsStepTo true None system (Some system) r m → IsKept m
      by (Recording same) = kept_seen m same
      by (Setting b recorded same) = kept_seen m (same ∙ recorded)
      by (Switching b u recorded set step) = kept_switching u (set ∙ recorded) m step
      by (Clearing b u v recorded set end same) = subst IsKept (sym same) (kept_switched u (set ∙ recorded) v end)

-- ---- start-ups after a reboot

-- a reboot leaves what the machine boots into
boots_after : (w r : WorldState) → IsAfterReboot w r → boot_system r.leaves ≡ boot_system w.leaves
boots_after w r (inl is) = ap (λ (x : WorldState). boot_system x.leaves) is ∙ (boot_stays_law w).0
boots_after w r (inr is) = ap (λ (x : WorldState). boot_system x.leaves) is ∙ (boot_stays_law w).1

-- and so does each moment of a start-up
boots_still : (r m : WorldState) → HasBegunToStart r m → boot_system m.leaves ≡ boot_system r.leaves
boots_still r m (inl same) = ap (λ (x : WorldState). boot_system x.leaves) same
boots_still r m (inr begun) = ⊎_elim (λ same. same) (λ moved. absurd (both_ways false refl moved.0)) (boots_into None r m begun.1.named)

module _ (system : Name) (named : IsSystemPath system) (q : Name) (own : (owns_accounts q || owns_farm q) ≡ true) where
  -- what an activation leaves there from a world
  abbrev left_from : WorldState → Option LeafKind
  left_from w = (activation_in system w.leaves).end w.leaves q

  -- a start-up into the system leaves that
  started : (r v : WorldState) → boot_system r.leaves ≡ Some system → IsFinalOf StartUp r v → get v.leaves q ≡ left_from r
  started r v boots final =
      let read = read_of system named r.leaves q own in
      final.leaves q (not_stage system named r.leaves q read)
      ∙ ap (λ o. final_leaf (parts_in true true None (unwrap_or o []) r.leaves) r.leaves q) boots
      ∙ end_there true system None r.leaves q own read

  -- and so does each world in which one was cut
  cut_start_up : (r m again : WorldState) → boot_system r.leaves ≡ Some system → IsCutStartUp r m again → left_from again ≡ left_from r
  cut_start_up r m again boots cut = ⊎_elim
      (λ same. ap left_from same ∙ kept)
      (λ after. reboot_end_law system m again named after q own ∙ kept)
      cut.after
    where
      about : new_system StartUp r.leaves ≡ system
      about = ap (λ o. unwrap_or o []) boots

      kept : left_from m ≡ left_from r
      kept = ⊎_elim
          (λ same. ap left_from same)
          (λ begun.
          subst (λ s. (activation_in s m.leaves).end m.leaves q ≡ (activation_in s r.leaves).end r.leaves q) about
          (start_up_keeps r (subst IsSystemPath (sym about) named) cut.sound begun.0 m begun.1 q own))
          cut.moment

  boots_again : (r m again : WorldState) → IsCutStartUp r m again → boot_system again.leaves ≡ boot_system r.leaves
  boots_again r m again cut = ⊎_elim
      (λ same. ap (λ (x : WorldState). boot_system x.leaves) same ∙ boots_still r m cut.moment)
      (λ after. boots_after m again after ∙ boots_still r m cut.moment)
      cut.after

  all_started : (cuts : List (WorldState × WorldState)) (r v : WorldState) → boot_system r.leaves ≡ Some system → LeadsByStartUps cuts r v → get v.leaves q ≡ left_from r
  all_started [] r v boots led = started r v boots led
  all_started (cut ∷ cuts) r v boots led =
      all_started cuts cut.1 v (boots_again r cut.0 cut.1 led.0 ∙ boots) led.1 ∙ cut_start_up r cut.0 cut.1 boots led.0

  -- what a switch leaves there is what an activation leaves from each of its moments, and from its end
  switched_left : (first w u : WorldState) → IsSound first.leaves → refusal (Switch system) first.leaves ≡ None → IsUnderway (Switch system) first w ⊎ IsOver (Switch system) first w → IsFinalOf (Switch system) first u → get u.leaves q ≡ left_from w
  switched_left first w u sound free (inl is) final = underway_end system named first w u final q own is
  switched_left first w u sound free (inr is) final =
      let ne = not_stage system named w.leaves q (read_of system named w.leaves q own) in
      final.leaves q ne ∙ sym (is.final.leaves q ne)
      ∙ activation_again_law system first w named sound (activation_free system named first.leaves free) (done_there system named first w is.final) q own

pub switch_reboot_law : SwitchRebootLaw
switch_reboot_law system cuts first w r u v named sound free is boots after final led q own =
    all_started system named q own cuts r v (boots_after w r after ∙ boots) led
    ∙ reboot_end_law system w r named after q own
    ∙ sym (switched_left system named q own first w u sound free is final)
