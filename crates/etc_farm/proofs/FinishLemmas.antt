-- The last clean list is put, and a farm is at its end.
use Rattle.std.proofs.Common.{◌≡◌, ◌≢◌, ℕ, Bool, true, false, cond, List, Option, None, Some, refl, sym, ap, subst, ◌∙◌}
use Rattle.std.proofs.lemmas.Bool.{both_ways}
use Rattle.std.specs.FinMap.{get}
use Rattle.std.specs.List.Sorted.{IsStrictlySortedBy}
use Rattle.switch_names.specs.Names.{Name, has, is_name}
use Rattle.host_trait.specs.declared.leaf.LeafKind.{LeafKind}
use Rattle.host_trait.specs.declared.leaf.LeafKind.TheVariants.{Link}
use Rattle.host_trait.specs.World.{WorldState, bytes_cmp, seen, with_leaf}
use Rattle.host_trait.proofs.Places.{at_same}
use Rattle.host_trait.proofs.NameOrder.{name_exact}
use Rattle.switch_parts.specs.Part.{IsAtEnd}
use Rattle.etc_manifest.specs.declared.item.Item.{Item}
use Rattle.etc_manifest.specs.declared.item.ItemKind.{ItemKind}
use Rattle.etc_manifest.specs.Manifest.{entry}
use Rattle.etc_manifest.specs.Place.{is_reserved}
use Rattle.etc_clean.specs.CleanList.{clean_leaf, clean_name, clean_names, clean_text}
use Rattle.etc_clean.specs.Etc.{Farm, at_entry, etc, is_owned, leaf_of, static_name}
use Rattle.etc_clean.specs.Farm.{at, is_blocked, placed}
use Rattle.etc_clean.specs.Keeps.{AreFree, IsLastList}
use Rattle.etc_clean.specs.Names.{name_of, place}
use Rattle.etc_clean.proofs.FarmLemmas.{blocked_kept, placed_kept}
use Rattle.etc_clean.proofs.KeepsLemmas.{clean_owned, inserted, other_name, owned_free, static_not_clean, static_owned}
use Rattle.etc_farm.specs.FarmPart.{farm_part}
use Rattle.etc_farm.specs.Steps.{CanPutEntries, IsNoneGone, placed_but}
use Rattle.etc_farm.proofs.FarmMoment.{ArePut, IsFarmMoment}
use Rattle.etc_farm.proofs.ClearLemmas.{gone_last}
use Rattle.etc_farm.proofs.EntryLemmas.{at_seen, manifest_free, none_gone_seen}
use Rattle.etc_farm.proofs.OrderLemmas.{placed_sorted}
use Rattle.etc_farm.proofs.PlaceLemmas.{place_of_owned}
use Rattle.etc_farm.proofs.StageLemmas.{end_from, placed_as}
use Rattle.etc_farm.proofs.StepLemmas.{moment_seen, put_last}

module _ (items : List Item) (blocked : List Name) (v : WorldState) (can : CanPutEntries items blocked v) (read : clean_names (clean_text (placed_but blocked items)) ≡ placed_but blocked items) where
  free : AreFree items
  free = manifest_free items can.manifest

  abbrev last_world : WorldState
  last_world = with_leaf (place clean_name) (clean_leaf (placed_but blocked items)) v

  placed_is : placed_but blocked items ≡ placed items v.leaves
  placed_is = placed_as items blocked v.leaves can.blocked_are

  is_last : IsLastList items v.leaves (placed_but blocked items)
  is_last = record {
    names_are = λ q. ap (λ (names : List Name). has names q) (read ∙ placed_is);
    none_gone = can.none_gone;
  }

  pub last_finished : IsFarmMoment items v last_world
  last_finished = put_last items free v (placed_but blocked items) placed_is read (subst (IsStrictlySortedBy bytes_cmp) (sym placed_is) (placed_sorted items v.leaves can.manifest.sorted)) is_last

  module _ (target : List ℕ) (m : WorldState) (new : seen m ≡ seen last_world) (put : ArePut items v.leaves) (fixed : at v.leaves static_name ≡ Some (Link target)) where
    last_seen : IsFarmMoment items v m
    last_seen = moment_seen items free v last_world m new last_finished

    none_gone : IsNoneGone items m.leaves
    none_gone = none_gone_seen items free last_world m new (gone_last items v.leaves (placed_but blocked items) is_last)

    beside : (q : Name) → is_owned q ≡ true → q ≢ clean_name → at m.leaves q ≡ at v.leaves q
    beside q own ne = at_seen last_world m q own new ∙ (inserted v.leaves clean_name (clean_leaf (placed_but blocked items))).others q ne

    clean_there : at m.leaves clean_name ≡ Some (clean_leaf (placed items m.leaves))
    clean_there =
        at_seen last_world m clean_name clean_owned new ∙ at_same v.leaves (place clean_name) (clean_leaf (placed_but blocked items))
        ∙ ap (λ names. Some (clean_leaf names)) (placed_is ∙ sym (placed_kept items v.leaves m.leaves last_seen.keeps.keeps.foreign))

    entry_there : (q : Name) (o : Option ItemKind) → is_owned q ≡ true → q ≢ clean_name → entry items q ≡ o → at m.leaves q ≡ at_entry items m.leaves q o
    entry_there q (Some kind) own ne is = by (is_blocked items m.leaves q) refl
      where
        by : (b : Bool) → is_blocked items m.leaves q ≡ b → at m.leaves q ≡ cond (is_blocked items m.leaves q) (at m.leaves q) (Some (leaf_of q kind))
        by true blocked = sym (ap (λ b. cond b (at m.leaves q) (Some (leaf_of q kind))) blocked)
        by false unblocked =
            beside q own ne
            ∙ put q kind is (sym (blocked_kept items v.leaves m.leaves last_seen.keeps.keeps.foreign q) ∙ unblocked)
            ∙ sym (ap (λ b. cond b (at m.leaves q) (Some (leaf_of q kind))) unblocked)
    entry_there q None own ne is = sym (ap (λ b. cond b None (at m.leaves q)) (none_gone q))

    abbrev rest : Name → Bool → Bool → Option LeafKind
    rest q c r = cond c (Some (clean_leaf (placed items m.leaves))) (cond r (at m.leaves q) (at_entry items m.leaves q (entry items q)))

    settled : (q : Name) → is_owned q ≡ true → at m.leaves q ≡ etc (record { items = items; target = target }) m.leaves q
    settled q own = by (is_name q static_name) (is_name q clean_name) (is_reserved q) refl refl refl
      where
        by : (s c r : Bool) → is_name q static_name ≡ s → is_name q clean_name ≡ c → is_reserved q ≡ r → at m.leaves q ≡ etc (record { items = items; target = target }) m.leaves q
        by true c r is_s is_c is_r =
            ap (at m.leaves) (name_exact q static_name is_s) ∙ beside static_name static_owned static_not_clean ∙ fixed
            ∙ sym (ap (λ b. cond b (Some (Link target)) (rest q (is_name q clean_name) (is_reserved q))) is_s)
        by false true r is_s is_c is_r =
            ap (at m.leaves) (name_exact q clean_name is_c) ∙ clean_there
            ∙ sym (ap (λ b. cond b (Some (Link target)) (rest q (is_name q clean_name) (is_reserved q))) is_s ∙ ap (λ b. rest q b (is_reserved q)) is_c)
        by false false true is_s is_c is_r = absurd (both_ways _ (owned_free (is_name q static_name) (is_name q clean_name) (is_reserved q) is_s is_c own) is_r)
        by false false false is_s is_c is_r =
            entry_there q (entry items q) own (other_name q clean_name is_c) refl
            ∙ sym (ap (λ b. cond b (Some (Link target)) (rest q (is_name q clean_name) (is_reserved q))) is_s ∙ ap (λ b. rest q b (is_reserved q)) is_c ∙ ap (λ b. rest q false b) is_r)

    pub end_there : IsAtEnd (farm_part (record { items = items; target = target })) v m
    end_there path own =
        let named = place_of_owned path own in
        let farm : Farm = record { items = items; target = target } in
        end_from farm v m m last_seen (λ p is_own. let name = place_of_owned p is_own in ap (λ (q : Name). get m.leaves q) name.0 ∙ settled (name_of p) name.1) path own
