-- No boot entry outlasts its generation's link.
use Rattle.std.proofs.Common.{IfSome, ◌≡◌, ℕ, ◌^◌, ◌<◌, Bool, true, false, cond, List, take, Option, None, Some, IsSome, option_map, refl, sym, ap, subst, ◌∙◌, inl, inr, arith}
use Rattle.std.specs.FinMap.{get}
use Rattle.std.specs.Option.{option_map_or}
use Rattle.std.specs.Prelude.{option_and_then}
use Rattle.generations.specs.declared.gens.Gen.{Gen}
use Rattle.generations.specs.declared.gens.Gens.{Gens}
use Rattle.generations.specs.Gens.{IsGensOf, listed_at}
use Rattle.generations.specs.Places.{is_number, link_path}
use Rattle.generations.proofs.Apart.{link_apart}
use Rattle.host_trait.specs.World.{Leaves, WorldState, stage}
use Rattle.host_trait.proofs.Seen.{seen_at}
use Rattle.switch_names.specs.Names.{Name, has}
use Rattle.switch_names.specs.SystemName.{IsSystemPath}
use Rattle.tree_put.specs.Sequence.{without_places}
use Rattle.tree_put.proofs.LeftLemmas.{gone_at}
use Rattle.tree_put.proofs.PutLemmas.{apart_ne}
use Rattle.boot_entries.specs.BootPart.{entry_end, loader_end, system_at}
use Rattle.boot_entries.specs.Laws.{IsBootGens}
use Rattle.boot_entries.specs.Places.{entry_path, numbered}
use Rattle.boot_entries.specs.Steps.{AreEntries, with_menu}
use Rattle.boot_entries.proofs.AtEndLemmas.{at_end, entry_not_loader}
use Rattle.boot_entries.proofs.DefaultLemmas.{menu_entries}
use Rattle.boot_entries.proofs.EndLemmas.{boot_owned, numbered_entry, only_law}
use Rattle.boot_entries.proofs.PutLemmas.{place_apart}
use Rattle.store_collect.specs.declared.collection.Collection.{Collection}
use Rattle.store_collect.specs.Collection.{IsCollectionOf}
use Rattle.store_collect.specs.Kept.{gens_kept}
use Rattle.store_collect.specs.Laws.{EntryLaw}
use Rattle.store_collect.specs.Steps.{IsCollecting, removals}
use Rattle.store_collect.proofs.BootSystemLemmas.{link_either}
use Rattle.store_collect.proofs.GenLists.{found_among, kept_all, kept_rising, kept_stays}
use Rattle.store_collect.proofs.OneLemmas.{of_numbers, of_systems}
use Rattle.store_collect.proofs.WholeLemmas.{link_unowned}

-- ---- the generations that are kept, and their entries

pub kept_gens : (keep : ℕ) (leaves : Leaves) (gens : Gens) → IsGensOf leaves gens → IsBootGens (gens_kept keep gens)
kept_gens keep leaves gens stand = record {
  list = record {
    rising = kept_rising keep gens stand.rising;
    numbers = kept_all keep gens (λ (gen : Gen). is_number gen.number ≡ true) (of_numbers leaves gens stand);
  };
  systems = kept_all keep gens (λ (gen : Gen). IfSome gen.target IsSystemPath) (of_systems leaves gens stand);
}

-- the entries of a collection are put at the places of entries
pub are_entries : (keep : ℕ) (w : WorldState) (collection : Collection) → IsCollectionOf keep w collection → AreEntries collection.texts.entries
are_entries keep w collection is =
    subst (λ texts. AreEntries texts.entries) (sym is.planned.texts) (menu_entries (gens_kept keep is.gens) w.leaves (kept_gens keep w.leaves is.gens is.stand))

some_system : {X : Type 0} (f : Name → X) (list : List Gen) (n : ℕ) → IsSome (option_map f (system_at list n)) → IsSome (listed_at list n)
some_system f list n = by (listed_at list n)
  where
    by : (o : Option (Option Name)) → IsSome (option_map f (option_and_then (λ target. target) o)) → IsSome o
    by None some = absurd cc
    by (Some target) some = refl

some_where : {X : Type 0} (b : Bool) (o : Option X) → IsSome (cond b None o) → IsSome o
some_where true o some = absurd cc
some_where false o some = some

-- ---- where an entry stands

module _ (keep : ℕ) (collection : Collection) (w m : WorldState) (is : IsCollectionOf keep w collection) (n : ℕ) (small : n < 2 ^ 32) where
  entries : AreEntries collection.texts.entries
  entries = are_entries keep w collection is

  -- once the boot menu is made, an entry that stands is that of a generation that is kept
  made_at : get (with_menu collection.texts w).leaves (entry_path n) ≡ entry_end (gens_kept keep is.gens).list w.leaves n
  made_at =
      at_end (gens_kept keep is.gens) collection.texts w (with_menu collection.texts w) (kept_gens keep w.leaves is.gens is.stand).list entries is.planned.texts refl (entry_path n)
      (boot_owned (entry_path n) (inr (n, small, refl)))
      ∙ ap (λ b. cond b (loader_end is.gens.current w.leaves) (option_map_or (entry_end (gens_kept keep is.gens).list w.leaves) (numbered (entry_path n)) (get w.leaves (entry_path n)))) (entry_not_loader n)
      ∙ ap (λ o. option_map_or (entry_end (gens_kept keep is.gens).list w.leaves) o (get w.leaves (entry_path n))) (numbered_entry n small)

  entry_kept : (moment : IsCollecting collection w m) → IsSome (get m.leaves (entry_path n)) → get m.leaves (link_path n) ≡ get w.leaves (link_path n)
  entry_kept (IsCollecting.Listing boot) stands =
      (only_law (gens_kept keep is.gens) collection.texts w m entries is.planned.texts boot).leaves (link_path n) (link_unowned n) (apart_ne (link_path n) stage (link_apart n))
  entry_kept (IsCollecting.Dropping drop) stands = elim (link_either keep collection w m entries is (IsCollecting.Dropping drop) n) [
    | inl same ↦ same
    | inr both ↦
        let gone = take drop.count (removals collection) in
        let u = with_menu collection.texts w in
        let after = seen_at m (without_places gone u) drop.world (entry_path n) (apart_ne (entry_path n) stage (place_apart (entry_path n) (inr (n, small, refl)))) ∙ gone_at gone u (entry_path n) in
        let made = subst IsSome made_at (some_where _ (get u.leaves (entry_path n)) (subst IsSome after stands)) in
        let among = found_among (gens_kept keep is.gens).list n (some_system _ (gens_kept keep is.gens).list n made) in
        absurd (kept_stays keep is.gens is.stand.rising n (omega (arith, small)) (of_numbers w.leaves is.gens is.stand) among (subst (λ l. has l (link_path n) ≡ true) is.planned.links both.0))
  ]

pub entry_law : EntryLaw
entry_law keep collection w m n is moment small stands = entry_kept keep collection w m is n small moment stands
