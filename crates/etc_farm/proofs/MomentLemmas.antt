-- Each moment at a step of a farm is one of its part.
use Rattle.std.proofs.Common.{◌≡◌, ◌||◌, ℕ, zero, suc, true, false, List, [], ◌∷◌, ◌++◌, map, take, Some, refl, sym, ap, subst, ◌∙◌, inl, inr, ⊎_elim, arith}
use Rattle.std.proofs.lemmas.Bool.{both_ways, or_right}
use Rattle.std.specs.List.{AllByRecursion}
use Rattle.switch_names.specs.Names.{IsListOf, Name, has}
use Rattle.host_trait.specs.declared.leaf.LeafKind.TheVariants.{Link}
use Rattle.host_trait.specs.World.{WorldState, seen, with_leaf}
use Rattle.host_trait.proofs.Places.{same_or_other}
use Rattle.tree_put.specs.declared.leaf_put.LeafPut.{LeafPut}
use Rattle.tree_put.specs.Sequence.{put_at, with_puts, without_places}
use Rattle.switch_parts.specs.Part.{IsAtEnd, IsPartMoment}
use Rattle.etc_manifest.specs.declared.item.Item.{Item}
use Rattle.etc_manifest.specs.Manifest.{IsManifest}
use Rattle.etc_clean.specs.declared.sorting.Sorted.{Sorted}
use Rattle.etc_clean.specs.CleanList.{AreCleanNames, clean_leaf, clean_name, clean_names, clean_of, clean_text, is_clean_name}
use Rattle.etc_clean.specs.Etc.{Farm, static_name}
use Rattle.etc_clean.specs.Farm.{at, is_gone, placed}
use Rattle.etc_clean.specs.Keeps.{AreFree}
use Rattle.etc_clean.specs.Names.{place}
use Rattle.etc_clean.proofs.CleanLemmas.{read_back_law}
use Rattle.etc_farm.specs.FarmPart.{CanApply, KeepsFarm, farm_part}
use Rattle.etc_farm.specs.Making.{IsAtStep, MakingLaw, begun, cleared, entry_puts, last_puts}
use Rattle.etc_farm.specs.Making.IsAtStep.{Beginning, Clearing, Ending}
use Rattle.etc_farm.specs.Making.IsMaking.{Before, Since}
use Rattle.etc_farm.specs.Runs.{AreRuns, ListedLaw}
use Rattle.etc_farm.specs.Steps.{CanPutEntries, IsFirstNames, placed_but, puts_but}
use Rattle.etc_farm.proofs.FarmMoment.{IsFarmMoment, IsInnerMoment, IsOwn}
use Rattle.etc_farm.proofs.EntryLemmas.{all_listed_then, manifest_free}
use Rattle.etc_farm.proofs.FinishLemmas.{end_there, last_finished}
use Rattle.etc_farm.proofs.PutLemmas.{IsEntryPut, all_entry_puts, are_put, entries_after, one_put, puts_then}
use Rattle.etc_farm.proofs.PrepareLemmas.{all_clean}
use Rattle.etc_farm.proofs.PartLemmas.{farm_is, keeps_farm_self, keeps_farm_then}
use Rattle.etc_farm.proofs.RemovalLemmas.{first_places, removed_moment, removing_moment}
use Rattle.etc_farm.proofs.StageLemmas.{IsBegun, blocked_are, end_from, entries_there, first_begun, first_moment, moment_of, none_gone_there, open_as, own_here, placed_as}
use Rattle.etc_farm.proofs.StepLemmas.{moment_seen, moment_self, moment_then}

-- ---- the entries, and the last clean list

pub clean_among : (names : List Name) → AreCleanNames names → (q : Name) → has names q ≡ true → is_clean_name q ≡ true
clean_among [] all q there = absurd (both_ways false refl there)
clean_among (name ∷ names) all q there = elim (same_or_other q name) [
  | inl same ↦ ap is_clean_name same ∙ all.0
  | inr other ↦ clean_among names all.1 q (sym (ap (λ b. b || has names q) other) ∙ there)
]

module _ (items : List Item) (blocked : List Name) (read : clean_names (clean_text (placed_but blocked items)) ≡ placed_but blocked items) where
  abbrev last : LeafPut
  last = put_at (place clean_name) (clean_leaf (placed_but blocked items))

  ending : (puts : List LeafPut) → AllByRecursion (IsEntryPut items (has blocked)) puts → (v : WorldState) → CanPutEntries items blocked v → (n : ℕ) →
      IsFarmMoment items v (with_puts (take n (puts ++ last ∷ [])) v)
  ending [] all v can zero = moment_self items v
  ending [] all v can (suc zero) = last_finished items blocked v can read
  ending [] all v can (suc (suc n)) = last_finished items blocked v can read
  ending (put ∷ puts) all v can zero = moment_self items v
  ending (put ∷ puts) all v can (suc n) =
      let one = one_put items blocked put all.0 v can in
      moment_then items v (with_leaf put.at put.leaf v) (with_puts (take n (puts ++ last ∷ [])) (with_leaf put.at put.leaf v)) one.0.moment
      (ending puts all.1 (with_leaf put.at put.leaf v) one.1 n)

-- ---- each step

module _
    (farm : Farm) (manifest : IsManifest farm.items) (other : Sorted) (w : WorldState) (can_other : CanApply farm other w)
    (names gone : List Name) (names_are : IsFirstNames farm.items w.leaves names) (gone_are : IsListOf gone (λ q. is_gone farm.items w.leaves q ≡ true)) where
  abbrev items : List Item
  items = farm.items

  abbrev found : Sorted
  found = record { gone = gone; blocked = other.blocked; standing = other.standing; clean = other.clean; past = other.past }

  can : CanApply farm found w
  can = record { free = can_other.free; apart = can_other.apart; sorted = record { gone = gone_are; blocked = can_other.sorted.blocked; standing = can_other.sorted.standing; clean = can_other.sorted.clean; past = can_other.sorted.past } }

  free : AreFree items
  free = manifest_free items manifest

  abbrev begun_world : WorldState
  begun_world = begun names farm.target w

  begun_is : IsFarmMoment items w begun_world
  begun_is = first_moment farm manifest found w can names names_are begun_world (record { count = 2; some = omega arith; world = refl })

  has_begun : IsBegun farm gone begun_world
  has_begun = first_begun farm manifest found w can names names_are begun_world refl

  own : AllByRecursion (IsOwn items begun_world.leaves) gone
  own = own_here farm manifest found w can begun_world begun_is

  clearing_is : (n : ℕ) → IsFarmMoment items w (without_places (take n (map place gone)) begun_world)
  clearing_is n = moment_then items w begun_world (without_places (take n (map place gone)) begun_world) begun_is
      (subst (λ (ps : List Name). IsFarmMoment items begun_world (without_places ps begun_world)) (sym (first_places gone n)) (removing_moment items free gone begun_world own n).moment)

  abbrev cleared_world : WorldState
  cleared_world = cleared names farm.target gone w

  cleared_inner : IsInnerMoment items begun_world cleared_world
  cleared_inner = removed_moment items free gone begun_world own

  fixed_link : at cleared_world.leaves static_name ≡ Some (Link farm.target)
  fixed_link = cleared_inner.fixed_link ∙ has_begun.fixed_link

  cleared_is : IsFarmMoment items w cleared_world
  cleared_is = moment_then items w begun_world cleared_world begun_is cleared_inner.moment

  pub can_entries : CanPutEntries items other.blocked cleared_world
  can_entries = entries_there farm manifest found w can cleared_world cleared_is
      (none_gone_there farm manifest found w can begun_world begun_is has_begun)
      (all_listed_then items begun_world cleared_world cleared_inner.moment has_begun.listed)

  placed_is : placed_but other.blocked items ≡ placed items w.leaves
  placed_is = placed_as items other.blocked w.leaves (λ q known. blocked_are farm manifest found w can q known)

  read_last : clean_names (clean_text (placed_but other.blocked items)) ≡ placed_but other.blocked items
  read_last = read_back_law (placed_but other.blocked items) (all_clean (placed_but other.blocked items) (λ q there.
      clean_among names names_are.clean q
      ((names_are.list.exact q).1 (or_right (has (clean_of w.leaves) q) (has (placed items w.leaves) q) (sym (ap (λ (ns : List Name). has ns q) placed_is) ∙ there)))))

  last_is : puts_but other.blocked items ++ put_at (place clean_name) (clean_leaf (placed_but other.blocked items)) ∷ [] ≡ last_puts items w.leaves
  last_is =
      ap (λ (ps : List LeafPut). ps ++ put_at (place clean_name) (clean_leaf (placed_but other.blocked items)) ∷ []) (open_as farm manifest found w can)
      ∙ ap (λ (ns : List Name). entry_puts items w.leaves ++ put_at (place clean_name) (clean_leaf ns) ∷ []) placed_is

  ending_is : (n : ℕ) → IsFarmMoment items w (with_puts (take n (last_puts items w.leaves)) cleared_world)
  ending_is n = moment_then items w cleared_world (with_puts (take n (last_puts items w.leaves)) cleared_world) cleared_is
      (subst (λ (ps : List LeafPut). IsFarmMoment items cleared_world (with_puts (take n ps) cleared_world)) last_is
      (ending items other.blocked read_last (puts_but other.blocked items) (all_entry_puts items (has other.blocked) manifest) cleared_world can_entries n))

  abbrev entries_world : WorldState
  entries_world = with_puts (puts_but other.blocked items) cleared_world

  entries_are : IsInnerMoment items cleared_world entries_world × CanPutEntries items other.blocked entries_world
  entries_are = entries_after items other.blocked (puts_but other.blocked items) (all_entry_puts items (has other.blocked) manifest) cleared_world can_entries

  -- after the last put the farm is at its end
  pub ended : (m : WorldState) → seen m ≡ seen (with_puts (last_puts items w.leaves) cleared_world) → IsAtEnd (farm_part farm) w m
  ended m is =
      end_from farm w entries_world m (moment_then items w cleared_world entries_world cleared_is entries_are.0.moment)
      (end_there items other.blocked entries_world entries_are.1 read_last farm.target m
      (is ∙ ap (λ (ps : List LeafPut). seen (with_puts ps cleared_world)) (sym last_is) ∙ ap seen (puts_then (puts_but other.blocked items) (put_at (place clean_name) (clean_leaf (placed_but other.blocked items)) ∷ []) cleared_world))
      (are_put items other.blocked cleared_world can_entries)
      (entries_are.0.fixed_link ∙ fixed_link))

  at_step : (m : WorldState) → IsAtStep farm names gone w m → IsFarmMoment items w m
  at_step m (Beginning step) = first_moment farm manifest found w can names names_are m step
  at_step m (Clearing step) = moment_seen items free w (without_places (take step.count (map place gone)) begun_world) m step.world (clearing_is step.count)
  at_step m (Ending step) = moment_seen items free w (with_puts (take step.count (last_puts items w.leaves)) cleared_world) m step.world (ending_is step.count)

pub making_law : MakingLaw
making_law farm sorted w m manifest can_apply (Before is) = subst (λ x. IsPartMoment (farm_part farm) w x) (sym is) (moment_of farm w w (moment_self farm.items w))
making_law farm sorted w m manifest can_apply (Since names gone names_are gone_are step) =
    moment_of farm w m (at_step farm manifest sorted w can_apply names gone names_are gone_are m step)

-- ---- runs that are cut

pub runs_keep : (farm : Farm) → AreFree farm.items → (worlds : List WorldState) (w m : WorldState) → AreRuns farm w worlds m → KeepsFarm farm.items w m
runs_keep farm none_reserved [] w m is = subst (λ x. KeepsFarm farm.items w x) (sym is) (keeps_farm_self farm.items w)
runs_keep farm none_reserved (v ∷ worlds) w m runs = keeps_farm_then farm.items w v m
    (⊎_elim (λ moment. moment.keeps) (λ same. (farm_is farm none_reserved).frame w v same) runs.0)
    (runs_keep farm none_reserved worlds v m runs.1)

pub listed_law : ListedLaw
listed_law farm w m worlds free runs = (runs_keep farm free worlds w m runs).listed
