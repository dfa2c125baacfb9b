-- The farm is a part of a switch.
use Rattle.std.proofs.Common.{◌≡◌, ℕ, ◌&&◌, true, List, Option, is_none, is_some, refl, ap, ◌∙◌, inl, inr, ⊎_elim}
use Rattle.std.specs.FinMap.{get}
use Rattle.switch_names.specs.Names.{Name, has}
use Rattle.host_trait.specs.declared.leaf.LeafKind.{LeafKind}
use Rattle.host_trait.specs.World.{Leaves, WorldState, content_of}
use Rattle.switch_parts.specs.Part.{IsPart, IsSameFor}
use Rattle.etc_manifest.specs.declared.item.Item.{Item}
use Rattle.etc_clean.specs.CleanList.{clean_name, names_in}
use Rattle.etc_clean.specs.Etc.{Farm, is_owned}
use Rattle.etc_clean.specs.Farm.{placed}
use Rattle.etc_clean.specs.Keeps.{AreAlike, AreFree, Keeps}
use Rattle.etc_clean.specs.Names.{name_of, place}
use Rattle.etc_clean.proofs.FarmLemmas.{placed_kept, placed_known}
use Rattle.etc_clean.proofs.KeepsLemmas.{alike_law, clean_owned, end_law, keeps_self, owned_name, steps_law}
use Rattle.etc_farm.specs.FarmPart.{AreListed, KeepsFarm, farm_part}
use Rattle.switch_parts.proofs.StoreLemmas.{store_content_kept}
use Rattle.etc_farm.proofs.PlaceLemmas.{IsWayFree, free_way, near_clean, near_read, near_stage, near_static, owned_place, owned_read, place_of_owned, stage_unread, store_read, way_free}
use Rattle.etc_farm.proofs.ShortLemmas.{short_beside, short_self, short_then}

-- ---- what is listed

pub listed_self : (items : List Item) (w : Leaves) → AreListed items w w
listed_self items w = record { stays = λ q is there. there; changed = λ q is. inl refl }

pub listed_then : (items : List Item) (w v m : Leaves) → Keeps items w v → AreListed items w v → AreListed items v m → AreListed items w m
listed_then items w v m keeps first then =
    let there = λ (q : Name) (is : has (placed items w) q ≡ true). ap (λ (names : List Name). has names q) (placed_kept items w v keeps.foreign) ∙ is in
    record {
      stays = λ q is listed. then.stays q (there q is) (first.stays q is listed);
      changed = λ q is. ⊎_elim
          (λ same. ⊎_elim (λ before. inl (same ∙ before)) (λ listed. inr (then.stays q (there q is) listed)) (first.changed q is))
          (λ listed. inr listed)
          (then.changed q (there q is));
    }

-- a placed name is the farm's to write
pub placed_owned : (items : List Item) (leaves : Leaves) → AreFree items → (q : Name) → has (placed items leaves) q ≡ true → is_owned q ≡ true
placed_owned items leaves free q is = owned_name q (free q (placed_known items leaves q is))

-- ---- where the same stands wherever a farm looks

module _ (farm : Farm) (w m : WorldState) (free : AreFree farm.items) (same : IsSameFor (farm_part farm) w m) where
  pub frame_alike : AreAlike w.leaves m.leaves
  frame_alike = record {
    leaves = λ q own. same.leaves (place q) (owned_read (place q) (owned_place q own));
    clean = ap names_in
        (store_content_kept w.leaves m.leaves (λ p is. same.leaves p (store_read p is)) (place clean_name)
        (same.leaves (place clean_name) (owned_read (place clean_name) (owned_place clean_name clean_owned))));
  }

  pub frame_content : content_of m.leaves (place clean_name) ≡ content_of w.leaves (place clean_name)
  frame_content =
      store_content_kept w.leaves m.leaves (λ p is. same.leaves p (store_read p is)) (place clean_name)
      (same.leaves (place clean_name) (owned_read (place clean_name) (owned_place clean_name clean_owned)))

  frame_way : IsWayFree w.leaves → IsWayFree m.leaves
  frame_way way = record {
    clean = λ q line. same.leaves q (near_read q (near_clean q line)) ∙ way.clean q line;
    fixed_link = λ q line. same.leaves q (near_read q (near_static q line)) ∙ way.fixed_link q line;
    stage = λ q line. same.leaves q (near_read q (near_stage q line)) ∙ way.stage q line;
    content =
        ap (λ (o : Option LeafKind). is_some o && is_none (content_of m.leaves (place clean_name))) (same.leaves (place clean_name) (owned_read (place clean_name) (owned_place clean_name clean_owned)))
        ∙ ap (λ (o : Option (List ℕ)). is_some (get w.leaves (place clean_name)) && is_none o) frame_content ∙ way.content;
  }

  frame_keeps : KeepsFarm farm.items w m
  frame_keeps = record {
    keeps = alike_law farm.items w.leaves m.leaves free frame_alike;
    listed = record {
      stays = λ q is listed. ap (λ (names : List Name). has names q) frame_alike.clean ∙ listed;
      changed = λ q is. inl (frame_alike.leaves q (placed_owned farm.items w.leaves free q is));
    };
    free = λ none. free_way m.leaves (frame_way (way_free w.leaves none));
    short = short_beside farm.items w.leaves m.leaves (alike_law farm.items w.leaves m.leaves free frame_alike) frame_content;
  }

pub keeps_farm_self : (items : List Item) (w : WorldState) → KeepsFarm items w w
keeps_farm_self items w = record { keeps = keeps_self items w.leaves; listed = listed_self items w.leaves; free = λ none. none; short = short_self items w.leaves }

pub keeps_farm_then : (items : List Item) (w v m : WorldState) → KeepsFarm items w v → KeepsFarm items v m → KeepsFarm items w m
keeps_farm_then items w v m first then = record {
  keeps = steps_law items w.leaves v.leaves m.leaves first.keeps then.keeps;
  listed = listed_then items w.leaves v.leaves m.leaves first.keeps first.listed then.listed;
  free = λ none. then.free (first.free none);
  short = short_then items w.leaves v.leaves m.leaves first.short then.short;
}

pub farm_is : (farm : Farm) → AreFree farm.items → IsPart (farm_part farm)
farm_is farm free = record {
  keeps_self = λ w. keeps_farm_self farm.items w;
  keeps_then = λ w v m first then. keeps_farm_then farm.items w v m first then;
  same_end = λ w m keeps q own. end_law farm w.leaves m.leaves keeps.keeps (name_of q) (place_of_owned q own).1;
  stays_free = λ w m keeps none. record { way = keeps.free none.way; refusal = refl; short = refl };
  frame = λ w m same. frame_keeps farm w m free same;
  reads_own = owned_read;
  no_stage = stage_unread;
}
