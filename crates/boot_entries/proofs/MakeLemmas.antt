-- A system is made the boot default as it is planned.
use Rattle.std.proofs.Common.{◌≡◌, ℕ, Option, None, Some, option_map, refl, sym, ap, subst, ◌∙◌}
use Rattle.std.specs.Option.{option_or}
use Rattle.generations.specs.declared.gens.Gens.{Gens}
use Rattle.generations.specs.declared.moving.Move.{Move}
use Rattle.generations.specs.Gens.{IsGensOf}
use Rattle.generations.specs.Move.{gens_moved, move_part, move_refusal, move_world, number_moved}
use Rattle.host_trait.specs.World.{Leaves, WorldState, seen}
use Rattle.leaf_limits.specs.declared.too_long.TooLong.{TooLong}
use Rattle.leaf_limits.specs.Limits.{IsFirstOf}
use Rattle.leaf_limits.proofs.PastLemmas.{first_past}
use Rattle.switch_names.specs.Names.{Name, has}
use Rattle.switch_parts.proofs.Parts.{second_free}
use Rattle.switch_parts.specs.declared.refusal.Refusal.{Refusal}
use Rattle.switch_parts.specs.declared.refusal.What.TheVariants.{LeafBytes}
use Rattle.switch_parts.specs.Limits.{too_many}
use Rattle.switch_parts.specs.Part.{IsFree}
use Rattle.boot_entries.specs.declared.boot_default.BootDefaultPlan.{BootDefaultPlan}
use Rattle.boot_entries.specs.declared.boot_texts.BootTexts.{BootTexts}
use Rattle.boot_entries.specs.BootDefault.{CanMakeDefault, IsDefaultPlanOf, IsMakingDefault, boot_default_in, default_end, menu_after}
use Rattle.boot_entries.specs.BootDefault.IsMakingDefault.{Listing}
use Rattle.boot_entries.specs.BootPart.{boot_part}
use Rattle.boot_entries.specs.Laws.{IsBootGens}
use Rattle.boot_entries.specs.Sources.{menu_too_long, taken_of}
use Rattle.boot_entries.specs.Steps.{CanApplyBoot, IsBootMoment, IsBootSet, boot_puts}
use Rattle.boot_entries.specs.Texts.{menu_of}
use Rattle.tree_put.specs.Sequence.{with_puts}
use Rattle.tree_put.proofs.SequenceLemmas.{seen_with_puts, seen_without_places}
use Rattle.boot_entries.proofs.DefaultLemmas.{menu_still, moved_is_seen, planned_still, profile_free}
use Rattle.boot_entries.proofs.GensLemmas.{gens_after_law}
use Rattle.boot_entries.proofs.PartLemmas.{part_law}

-- ---- a plan is carried out

module _ (system : Name) (plan : BootDefaultPlan) (w : WorldState) (can : CanMakeDefault system plan w) where
  abbrev gens : Gens
  gens = gens_moved plan.to system w.leaves

  gens_are : IsBootGens gens
  gens_are = gens_after_law plan.to system w.leaves can.named

  -- the boot menu that is planned
  menu_is : plan.menu ≡ menu_after plan.to system w.leaves
  menu_is = can.planned.menu

  pub can_move : IsFree (move_part plan.to system) w.leaves
  can_move = profile_free plan.to system can.named gens gens_are w can.free

  module _ (u : WorldState) (moved : seen u ≡ move_world plan.to system w) where
    pub can_apply : CanApplyBoot plan.menu u
    can_apply = subst (λ (texts : BootTexts). CanApplyBoot texts u) (sym menu_is) (record {
      gens = gens;
      planned = planned_still plan.to system can.named gens gens_are w can.free u moved;
      free = (part_law gens gens_are).stays_free w u ((part_law gens gens_are).frame w u (menu_still plan.to system can.named gens gens_are w can.free u moved))
          (second_free (move_part plan.to system) (boot_part gens) w.leaves can.free);
    })

    pub listing_moment : (m : WorldState) → IsBootMoment plan.menu u m → IsMakingDefault plan.to system w m
    listing_moment m moment = Listing u moved (subst (λ (texts : BootTexts). IsBootMoment texts u m) menu_is moment)

    pub default_made : (v : WorldState) → IsBootSet plan.menu u v → seen v ≡ default_end plan.to system w
    default_made v made =
        let texts = menu_after plan.to system w.leaves in
        let same = moved ∙ sym (moved_is_seen plan.to system w) in
        subst (λ (ts : BootTexts). IsBootSet ts u v) menu_is made
        ∙ seen_without_places texts.gone (with_puts (boot_puts texts) u) (with_puts (boot_puts texts) (move_world plan.to system w))
        (seen_with_puts (boot_puts texts) u (move_world plan.to system w) same)

-- ---- a plan is made

-- the length that is noted of its files refuses it, where nothing refuses the move
pub default_refusal : (move : Move) (system : Name) (leaves : Leaves) (after : Gens) (noted : Option TooLong) → after ≡ gens_moved move system leaves →
    move_refusal move system leaves ≡ None → IsFirstOf (taken_of after) leaves noted →
    (boot_default_in move system leaves).refusal leaves ≡ too_many LeafBytes (option_map (λ (long : TooLong). long.count) noted)
default_refusal move system leaves after noted same none first =
    ap (λ (o : Option Refusal). option_or o (menu_too_long (gens_moved move system leaves) leaves)) none ∙ ap (λ (gens : Gens). menu_too_long gens leaves) (sym same)
    ∙ ap (too_many LeafBytes) (sym (first_past (taken_of after) (has (taken_of after)) leaves (λ q there. refl) noted first))

-- what refuses the move refuses it
pub move_refused : (move : Move) (system : Name) (leaves : Leaves) (why : Refusal) → move_refusal move system leaves ≡ Some why → (boot_default_in move system leaves).refusal leaves ≡ Some why
move_refused move system leaves why is = ap (λ (o : Option Refusal). option_or o (menu_too_long (gens_moved move system leaves) leaves)) is

pub default_planned : (move : Move) (system : Name) (leaves : Leaves) (gens after : Gens) (menu : BootTexts) (number : ℕ) → IsGensOf leaves gens → number ≡ number_moved move system leaves →
    after ≡ gens_moved move system leaves → menu ≡ menu_of after leaves → IsDefaultPlanOf move system leaves (record { to = move; gens = gens; number = number; menu = menu })
default_planned move system leaves gens after menu number is given same planned = record {
  to = refl;
  gens = is;
  number = given;
  menu = planned ∙ ap (λ (gs : Gens). menu_of gs leaves) same;
}
