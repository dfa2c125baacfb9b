-- The systems and the lists at the moments of a switch of the units.
use Rattle.std.proofs.Common.{◌≡◌, ◌∷◌, ℕ, List, Option, None, Some, is_none, cond, option_and_then, refl, ap, subst, ◌∙◌}
use Rattle.std.specs.FinMap.{get}
use Rattle.generations.specs.Places.{target_of}
use Rattle.host_trait.specs.declared.leaf.LeafKind.{LeafKind}
use Rattle.host_trait.specs.declared.leaf.LeafKind.TheVariants.{File, Link}
use Rattle.host_trait.specs.World.{Leaves, WorldState, content_of, leaf_content}
use Rattle.owed_plan.specs.Store.{IsInStore, IsOldInStore}
use Rattle.owed_plan.specs.Systems.{systems_at}
use Rattle.owed_plan.proofs.StoreLemmas.{leaf_same, systems_law}
use Rattle.switch_names.specs.declared.name_fault.NameFault.{NameFault}
use Rattle.switch_names.specs.Names.{Name}
use Rattle.switch_names.specs.Path.{slash}
use Rattle.switch_names.specs.SystemName.{IsSystemPath, store_name, system_fault, system_path, named_system}
use Rattle.switch_names.proofs.StorePaths.{IsStorePath-from_named, NamesSystem-with_slash, store_path_is}
use Rattle.switch_parts.specs.Store.{is_in_store}
use Rattle.switch_parts.proofs.StoreLemmas.{store_begins}
use Rattle.unit_stage.specs.Laws.{AreSameBeside}
use Rattle.unit_stage.specs.System.{IsSystem, current_place, current_system, system_leaf}
use Rattle.unit_stage.proofs.OwnedLemmas.{same_store}

-- what a text names lies in the store
named_inside : (text : List ℕ) → system_fault text ≡ None → IsInStore (system_path text)
named_inside text none =
    let path = store_path_is (system_path text) (IsStorePath-from_named text none).begins in
    ap is_in_store path ∙ store_begins (store_name (system_path text))

text_inside : (text : List ℕ) → IsOldInStore (named_system text)
text_inside text = by (system_fault text) refl
  where
    by : (o : Option NameFault) → system_fault text ≡ o → IsOldInStore (cond (is_none o) (Some (system_path text)) None)
    by None is = named_inside text is
    by (Some fault) is = tt

leaf_inside : (leaf : Option LeafKind) → IsOldInStore (option_and_then target_of leaf)
leaf_inside None = tt
leaf_inside (Some (File bytes mode uid gid)) = tt
leaf_inside (Some (Link target)) = text_inside target

-- a path that names a system is that of one
pub is_system : (system : Name) → IsSystemPath system → IsSystem system
is_system system is =
    let linked = NamesSystem-with_slash system is in
    record {
      inside = subst IsInStore is.same (named_inside system is.no_fault);
      named = ap (λ fault. cond (is_none fault) (Some (system_path (slash ∷ system))) None) linked.no_fault ∙ ap Some linked.same;
    }

-- the system in use lies in the store, where there is one
pub current_inside : (leaves : Leaves) → IsOldInStore (current_system leaves)
current_inside leaves = leaf_inside (get leaves current_place)

module _ (system : Name) (is_system : IsSystem system) (w m : WorldState) (same : AreSameBeside w m) where
  -- before the link moves
  pub systems_before : get m.leaves current_place ≡ get w.leaves current_place → systems_at m.leaves (current_system m.leaves) system ≡ systems_at w.leaves (current_system w.leaves) system
  systems_before link =
      ap (λ old. systems_at m.leaves old system) (ap (option_and_then target_of) link)
      ∙ systems_law m.leaves w.leaves (current_system w.leaves) system (same_store w m same) (current_inside w.leaves) is_system.inside

  -- and after it
  pub systems_after : get m.leaves current_place ≡ Some (system_leaf system) → systems_at m.leaves (current_system m.leaves) system ≡ systems_at w.leaves (Some system) system
  systems_after link =
      ap (λ old. systems_at m.leaves old system) (ap (option_and_then target_of) link ∙ is_system.named)
      ∙ systems_law m.leaves w.leaves (Some system) system (same_store w m same) is_system.inside is_system.inside

-- what has the same leaf has the same content
pub same_content : (w m : WorldState) → AreSameBeside w m → (at : Name) → get m.leaves at ≡ get w.leaves at → content_of m.leaves at ≡ content_of w.leaves at
same_content w m same at there = ap (leaf_content m.leaves) there ∙ leaf_same m.leaves w.leaves (same_store w m same) (get w.leaves at)
