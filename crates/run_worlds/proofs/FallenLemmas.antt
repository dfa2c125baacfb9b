-- The parts of a switch on a host without leaves.
use Rattle.std.proofs.Common.{◌≡◌, ◌&&◌, ◌||◌, ℕ, Bool, true, false, List, [], ◌∷◌, Option, None, Some, cond, is_none, is_some, length, nat_lt, option_map, unwrap_or, refl, sym, ap, subst, ◌∙◌}
use Rattle.std.specs.FinMap.{get, get-empty}
use Rattle.std.specs.List.{find}
use Rattle.host_trait.specs.Host.{HostState, Told}
use Rattle.host_trait.specs.World.{Leaves, WorldState, bytes_cmp, content_of, empty_world, leaf_content}
use Rattle.host_trait.proofs.Moments.{told_as}
use Rattle.boot_entries.specs.BootPart.{boot_part}
use Rattle.boot_entries.specs.declared.boot_texts.BootTexts.{BootTexts}
use Rattle.boot_entries.specs.Sources.{menu_too_long, taken_of}
use Rattle.boot_entries.specs.Steps.{CanApplyBoot}
use Rattle.boot_entries.specs.Texts.{menu_of}
use Rattle.etc_clean.specs.declared.sorting.Sorted.{Sorted}
use Rattle.etc_clean.specs.Etc.{Farm}
use Rattle.etc_clean.specs.Obsolete.{IsSortedOf}
use Rattle.etc_farm.specs.FarmPart.{CanApply, farm_part}
use Rattle.etc_manifest.specs.Manifest.{AreApart, places}
use Rattle.generations.specs.declared.gens.Gens.{Gens}
use Rattle.generations.specs.Gens.{IsGensOf}
use Rattle.generations.specs.Set.{CanSet}
use Rattle.leaf_limits.specs.Limits.{is_long, leaf_max}
use Rattle.leaf_limits.proofs.PastLemmas.{nothing_past}
use Rattle.switch_names.specs.Names.{Name, has}
use Rattle.switch_parts.specs.declared.refusal.What.TheVariants.{LeafBytes}
use Rattle.switch_parts.specs.Limits.{too_many}
use Rattle.switch_parts.specs.Part.{IsFree, Part}
use Rattle.tree_put.specs.declared.written_place.WrittenPlace.{WrittenPlace}
use Rattle.tree_put.specs.Put.{CanPut, is_blocked}
use Rattle.tree_put.specs.WrittenPlace.{in_the_way, is_in_the_way, lacks_content}
use Rattle.host_trait.specs.declared.leaf.LeafKind.{LeafKind}
use Rattle.tree_put.proofs.BlockedLemmas.{free_of_clear}
use Rattle.world_text.specs.Leafless.{HasNoLeaf}
use Rattle.world_text.proofs.FallenLemmas.{clear_of_none}

-- nothing is in the way of any place
and_none : (b : Bool) → (b && false) ≡ false
and_none true = refl
and_none false = refl

none_in_the_way : (w : WorldState) → HasNoLeaf w → (all : List WrittenPlace) → in_the_way all w.leaves ≡ None
none_in_the_way w none all = ap (λ (found : Option WrittenPlace). option_map (λ (place : WrittenPlace). place.at) found) (not_found all)
  where
    lacks : (at : List ℕ) → lacks_content w.leaves at ≡ false
    lacks at = subst (λ (leaves : Leaves). lacks_content leaves at ≡ false) (sym none) (ap (λ (leaf : Option LeafKind). is_some leaf && is_none (content_of empty_world.leaves at)) (get-empty bytes_cmp at))

    free : (place : WrittenPlace) → is_in_the_way w.leaves place ≡ false
    free place =
        ap (λ b. b || (place.is_read && lacks_content w.leaves place.at)) (free_of_clear w.leaves place.at (clear_of_none w none place.at))
        ∙ ap (λ b. place.is_read && b) (lacks place.at) ∙ and_none place.is_read

    not_found : (all : List WrittenPlace) → find (is_in_the_way w.leaves) all ≡ None
    not_found [] = refl
    not_found (place ∷ rest) = ap (λ b. cond b (Some place) (find (is_in_the_way w.leaves) rest)) (free place) ∙ not_found rest

-- no content is too long
none_too_long : (w : WorldState) → HasNoLeaf w → (gens : Gens) → menu_too_long gens w.leaves ≡ None
none_too_long w none gens = subst (λ (leaves : Leaves). menu_too_long gens leaves ≡ None) (sym none) (ap (too_many LeafBytes) (nothing_past (has (taken_of gens)) empty_world.leaves short))
  where
    short : (q : Name) → has (taken_of gens) q ≡ true → is_long empty_world.leaves q ≡ false
    short q taken = ap (λ (leaf : Option LeafKind). nat_lt leaf_max (length (unwrap_or (leaf_content empty_world.leaves leaf) []))) (get-empty bytes_cmp q)

module _ (host : HostState) (told : Told host HasNoLeaf) where
  pub nothing_in_the_way : (places : List WrittenPlace) → Told host (λ w. in_the_way places w.leaves ≡ None)
  nothing_in_the_way places = told_as told (λ w. in_the_way places w.leaves ≡ None) (λ w is none. none_in_the_way w none places)

  pub can_put : (at : List ℕ) → Told host (CanPut at)
  can_put at = told_as told (CanPut at) (λ w is none. record { stage = clear_of_none w none _; place = clear_of_none w none at })

  pub can_set : (system : List ℕ) → Told host (CanSet system)
  can_set system = told_as told (CanSet system) (λ w is none. record { stage = clear_of_none w none _; profile = clear_of_none w none _; link = λ other. clear_of_none w none _ })

-- what is told of one host without leaves is told of another
module _ (empty host : HostState) (w : WorldState) (stands : empty.world ≡ Some w) (no_leaf : Told empty HasNoLeaf) (told : Told host HasNoLeaf) where
  same_leaves : (v : WorldState) → host.world ≡ Some v → w.leaves ≡ v.leaves
  same_leaves v is = no_leaf.has w stands ∙ sym (told.has v is)

  pub same_gens : (gens : Gens) → Told empty (λ w. IsGensOf w.leaves gens) → Told host (λ w. IsGensOf w.leaves gens)
  same_gens gens are = record { has = λ v is. subst (λ (leaves : Leaves). IsGensOf leaves gens) (same_leaves v is) (are.has w stands) }

  pub can_apply : (farm : Farm) (sorted : Sorted) → AreApart (places farm.items) → Told empty (λ w. IsSortedOf farm.items w.leaves sorted) → Told host (CanApply farm sorted)
  can_apply farm sorted apart are = record {
    has = λ v is. record {
      free = record { way = none_in_the_way v (told.has v is) ((farm_part farm).places v.leaves); refusal = refl; short = refl };
      apart = apart;
      sorted = subst (λ (leaves : Leaves). IsSortedOf farm.items leaves sorted) (same_leaves v is) (are.has w stands);
    };
  }

  pub can_apply_boot : (gens : Gens) (texts : BootTexts) → Told empty (λ w. texts ≡ menu_of gens w.leaves) → Told host (CanApplyBoot texts)
  can_apply_boot gens texts are = record {
    has = λ v is. record {
      gens = gens;
      planned = are.has w stands ∙ ap (menu_of gens) (same_leaves v is);
      free = record { way = none_in_the_way v (told.has v is) ((boot_part gens).places v.leaves); refusal = none_too_long v (told.has v is) gens; short = refl };
    };
  }
