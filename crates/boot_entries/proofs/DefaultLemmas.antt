-- What holds of making a system the boot default.
use Rattle.std.proofs.Common.{◌≡◌, ℕ, true, false, List, [], ◌∷◌, length, Option, None, Some, IfSome, option_map, refl, sym, ap, ◌∙◌, inr, arith, rules}
use Rattle.std.proofs.lemmas.Bool.{both_ways, or_left, or_right}
use Rattle.std.proofs.lemmas.List.{take_all}
use Rattle.std.specs.FinMap.{gets}
use Rattle.std.specs.List.{AllByRecursion, cons_option}
use Rattle.generations.proofs.MoveLemmas.{gens_stay, move_at_end, move_is, move_moment, move_names}
use Rattle.generations.proofs.Numbers.{below_bound}
use Rattle.generations.proofs.ProfileApart.{owned_read}
use Rattle.generations.proofs.SetLaws.{number_same}
use Rattle.generations.specs.declared.gens.Gen.{Gen}
use Rattle.generations.specs.declared.gens.Gens.{Gens}
use Rattle.generations.specs.declared.moving.Move.{Move}
use Rattle.generations.specs.declared.moving.Move.TheVariants.{Point, Set}
use Rattle.generations.specs.Gens.{IsGensOf}
use Rattle.generations.specs.Move.{IsMoveMoment, gens_moved, move_part, move_world, number_moved}
use Rattle.generations.specs.Places.{IsCurrent, is_number, number_after, with_generation, with_profile}
use Rattle.generations.specs.ProfilePart.{reads_profile}
use Rattle.host_trait.proofs.Places.{alike}
use Rattle.host_trait.specs.World.{Leaves, WorldState, seen}
use Rattle.switch_names.specs.Names.{Name}
use Rattle.switch_names.specs.SystemName.{IsSystemPath}
use Rattle.switch_parts.proofs.Parts.{both_part, first_free, first_moment, moment_then, only_beside, second_moment, ends_both}
use Rattle.switch_parts.specs.Part.{IsAtEnd, IsFree, IsPartMoment, IsPart, IsSameFor}
use Rattle.boot_entries.specs.declared.boot_texts.BootTexts.{BootTexts}
use Rattle.boot_entries.specs.BootDefault.{boot_default_part, menu_after, menu_end}
use Rattle.boot_entries.specs.BootDefault.IsMakingDefault.{Listing, Moving}
use Rattle.boot_entries.specs.BootPart.{boot_part, reads_boot}
use Rattle.boot_entries.specs.DefaultLaws.{DefaultEndLaw, DefaultMomentLaw, DefaultNamesLaw, DefaultPartLaw, DefaultPlanLaw, DefaultStaysLaw, IsSameProfile}
use Rattle.boot_entries.specs.Laws.{IsBootGens}
use Rattle.tree_put.specs.Sequence.{with_puts, without_places}
use Rattle.boot_entries.specs.Steps.{AreEntries, IsBootMoment, boot_puts}
use Rattle.boot_entries.specs.Texts.{entries_of, entry_of, menu_of}
use Rattle.boot_entries.proofs.GensLemmas.{gens_after_law}
use Rattle.boot_entries.proofs.AtEndLemmas.{end_law}
use Rattle.boot_entries.proofs.KeptLemmas.{current_kept, generation_kept, names_on, profile_kept, same_back}
use Rattle.boot_entries.proofs.PartedLemmas.{are_parted}
use Rattle.boot_entries.proofs.PartLemmas.{moment_law, part_law}
use Rattle.boot_entries.proofs.PlanLawLemmas.{plan_law}

-- ---- the boot menu of some generations

entries_are : (leaves : Leaves) (list : List Gen) → AllByRecursion (λ (gen : Gen). is_number gen.number ≡ true) list → AreEntries (entries_of leaves list)
entries_are leaves [] numbers = tt
entries_are leaves (gen ∷ list) numbers = by gen.target (entries_are leaves list numbers.1)
  where
    by : (target : Option Name) → AreEntries (entries_of leaves list) → AreEntries (cons_option (option_map (entry_of leaves gen.number) target) (entries_of leaves list))
    by None rest = rest
    by (Some system) rest = ((gen.number, below_bound gen.number numbers.0, refl), rest)

pub menu_entries : (gens : Gens) (leaves : Leaves) → IsBootGens gens → AreEntries (menu_of gens leaves).entries
menu_entries gens leaves is = entries_are leaves gens.list is.list.numbers

last_moment : (texts : BootTexts) (u v : WorldState) → seen v ≡ menu_end texts u → IsBootMoment texts u v
last_moment texts u v is = inr (record {
  count = length texts.gone;
  some = omega arith;
  world = is ∙ ap (λ (places : List Name). seen (without_places places (with_puts (boot_puts texts) u))) (sym (take_all (length texts.gone) texts.gone (omega arith)));
})

-- ---- the profile is moved, and then the boot menu is made

seen_twice : (w : WorldState) → seen (seen w) ≡ seen w
seen_twice w = ap (λ (l : Leaves). record w { leaves = l; written = [] }) (alike _ _ (λ q. grind (gets, rules)))

pub moved_is_seen : (move : Move) (system : Name) (w : WorldState) → seen (move_world move system w) ≡ move_world move system w
moved_is_seen Set system w = seen_twice (with_profile (number_after w.leaves system) (with_generation system (number_after w.leaves system) w))
moved_is_seen (Point n) system w = seen_twice (with_profile n w)

-- the move that has come to its end is a moment of it
pub moved_moment : (move : Move) (system : Name) (w u : WorldState) → seen u ≡ move_world move system w → IsMoveMoment move system w u
moved_moment Set system w u moved = inr (inr moved)
moved_moment (Point n) system w u moved = inr moved

module _ (move : Move) (system : Name) (gens : Gens) (is : IsBootGens gens) where
  pub default_is : IsPart (boot_default_part move system gens)
  default_is = both_part (move_part move system) (boot_part gens) (move_is move system) (part_law gens is)

  moving : (w m : WorldState) → IsPartMoment (move_part move system) w m → IsPartMoment (boot_default_part move system gens) w m
  moving w m moment = first_moment (move_part move system) (boot_part gens) (move_is move system) (part_law gens is) (are_parted move system gens) w m moment

  listing : (w m : WorldState) → IsPartMoment (boot_part gens) w m → IsPartMoment (boot_default_part move system gens) w m
  listing w m moment = second_moment (move_part move system) (boot_part gens) (move_is move system) (part_law gens is) (are_parted move system gens) w m moment

module _ (move : Move) (system : Name) (named : IsSystemPath system) (gens : Gens) (is : IsBootGens gens) (w : WorldState) (free : IsFree (boot_default_part move system gens) w.leaves) where
  pub profile_free : IsFree (move_part move system) w.leaves
  profile_free = first_free (move_part move system) (boot_part gens) w.leaves free

  pub moving_moment : (m : WorldState) → IsMoveMoment move system w m → IsPartMoment (move_part move system) w m
  moving_moment m moment = move_moment move system w m named profile_free moment

  module _ (u : WorldState) (moved : seen u ≡ move_world move system w) where
    pub moved_is : IsPartMoment (move_part move system) w u
    moved_is = moving_moment u (moved_moment move system w u moved)

    -- nothing has changed that the boot menu looks at
    pub menu_still : IsSameFor (boot_part gens) w u
    menu_still = only_beside (move_part move system) (boot_part gens) (part_law gens is) (are_parted move system gens).first refl w u moved_is.only

    pub planned_still : menu_of gens w.leaves ≡ menu_of gens u.leaves
    planned_still = plan_law gens (menu_of gens w.leaves) w u is menu_still refl

    pub listed : (m : WorldState) → IsBootMoment (menu_of gens w.leaves) u m → IsPartMoment (boot_part gens) u m
    listed m moment = moment_law gens (menu_of gens w.leaves) u m is (menu_entries gens w.leaves is) planned_still moment

    both_moment : (m : WorldState) → IsBootMoment (menu_of gens w.leaves) u m → IsPartMoment (boot_default_part move system gens) w m
    both_moment m moment =
        moment_then (boot_default_part move system gens) (default_is move system gens is) w u m (moving move system gens is w u moved_is) (listing move system gens is u m (listed m moment))

    both_end : (v : WorldState) → seen v ≡ menu_end (menu_of gens w.leaves) u → IsAtEnd (boot_default_part move system gens) w v
    both_end v made =
        let end = end_law gens (menu_of gens w.leaves) u v is.list (menu_entries gens w.leaves is) planned_still made in
        ends_both (move_part move system) (boot_part gens) (move_is move system) (part_law gens is) (are_parted move system gens).first w u v (move_at_end move system w u moved) menu_still end.0 end.1

-- ---- the laws

pub default_part_law : DefaultPartLaw
default_part_law move system gens is = default_is move system gens is

pub default_moment_law : DefaultMomentLaw
default_moment_law move system w m named free (Moving moment) =
    let gens = gens_moved move system w.leaves in let is = gens_after_law move system w.leaves named in
    moving move system gens is w m (moving_moment move system named gens is w free m moment)
default_moment_law move system w m named free (Listing u moved moment) =
    both_moment move system named (gens_moved move system w.leaves) (gens_after_law move system w.leaves named) w free u moved m moment

pub default_end_law : DefaultEndLaw
default_end_law move system w v named free made =
    let u = move_world move system w in let moved = moved_is_seen move system w in (
      Listing u moved (last_moment (menu_after move system w.leaves) u v made),
      both_end move system named (gens_moved move system w.leaves) (gens_after_law move system w.leaves named) w free u moved v made,
    )

pub default_stays_law : DefaultStaysLaw
default_stays_law move system gens w m keeps = gens_stay move system w m keeps.0

pub default_names_law : DefaultNamesLaw
default_names_law move system w m named to free (Moving moment) =
    move_names move system w m named to (first_free (move_part move system) (boot_part (gens_moved move system w.leaves)) w.leaves free) moment
default_names_law move system w m named to free (Listing u moved moment) =
    let gens = gens_moved move system w.leaves in let is = gens_after_law move system w.leaves named in
    names_on system w u m (profile_kept move system gens u m (listed move system named gens is w free u moved m moment).only)
    (move_names move system w u named to (first_free (move_part move system) (boot_part gens) w.leaves free) (moved_moment move system w u moved))

-- ---- a plan stays one

module _ (w u : Leaves) (same : IsSameProfile w u) where
  gens_kept : (gens : Gens) → IsGensOf w gens → IsGensOf u gens
  gens_kept gens is = record {
    rising = is.rising;
    exact = λ n. is.exact n ∙ sym (generation_kept w u same n);
    current = by gens.current is.current;
    only_current = λ n current. is.only_current n (current_kept u w (same_back w u same) n current);
  }
    where
      by : (current : Option ℕ) → IfSome current (IsCurrent w) → IfSome current (IsCurrent u)
      by None is = tt
      by (Some n) is = current_kept w u same n is

  number_kept : (move : Move) (system : Name) → number_moved move system u ≡ number_moved move system w
  number_kept Set system = number_same u w system (generation_kept w u same)
  number_kept (Point n) system = refl

pub default_plan_law : DefaultPlanLaw
default_plan_law move system w u plan named same planned =
    let gens = gens_moved move system w.leaves in
    let is = gens_after_law move system w.leaves named in
    let profile : IsSameProfile w.leaves u.leaves = λ q own. same.leaves q (or_left (reads_profile q) (reads_boot q) (owned_read q own)) in
    let menu : IsSameFor (boot_part gens) w u = record { leaves = λ q read. same.leaves q (or_right (reads_profile q) (reads_boot q) read); manager = λ call. absurd (both_ways false refl call) } in
    let stays = gens_stay move system w u ((move_is move system).frame w u (record { leaves = λ q read. same.leaves q (or_left (reads_profile q) (reads_boot q) read); manager = λ call. absurd (both_ways false refl call) })) in
    record {
      to = planned.to;
      gens = gens_kept w.leaves u.leaves profile plan.gens planned.gens;
      number = planned.number ∙ sym (number_kept w.leaves u.leaves profile move system);
      menu = planned.menu ∙ plan_law gens (menu_of gens w.leaves) w u is menu refl ∙ ap (λ (gs : Gens). menu_of gs u.leaves) (sym stays);
    }
