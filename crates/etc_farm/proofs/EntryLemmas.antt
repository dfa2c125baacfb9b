-- Entries are put one after the other.
use Rattle.std.proofs.Common.{◌≡◌, ℕ, zero, suc, ◌<◌, ◌||◌, Bool, true, false, cond, List, [], ◌∷◌, length, get_or, Option, Some, is_some, option_map, refl, sym, ap, ◌∙◌, inl, inr, ⊎_elim, arith}
use Rattle.std.proofs.lemmas.Bool.{both_ways}
use Rattle.std.specs.List.{AllByRecursion, find}
use Rattle.std.specs.List.Sorted.{IsStrictlySortedBy}
use Rattle.std.specs.declared.cmp.Ordering.TheVariants.{Less}
use Rattle.switch_names.specs.Names.{Name, has, is_name}
use Rattle.host_trait.specs.declared.leaf.LeafKind.{LeafKind}
use Rattle.host_trait.specs.World.{Leaves, WorldState, bytes_cmp, seen, with_leaf}
use Rattle.host_trait.proofs.Places.{itself, same_or_other}
use Rattle.host_trait.proofs.Seen.{seen_at}
use Rattle.tree_put.specs.Put.{CanPut, IsOldOrNew}
use Rattle.etc_manifest.specs.declared.item.Item.{Item}
use Rattle.etc_manifest.specs.declared.item.ItemKind.{ItemKind}
use Rattle.etc_manifest.specs.Manifest.{IsManifest, entry, places}
use Rattle.etc_manifest.specs.Place.{is_reserved}
use Rattle.etc_clean.specs.CleanList.{clean_name}
use Rattle.etc_clean.specs.Etc.{is_owned, static_name}
use Rattle.etc_clean.specs.Farm.{at, is_blocked, is_entry, is_gone}
use Rattle.etc_clean.specs.Keeps.{AreAlike, AreFree}
use Rattle.etc_clean.specs.Names.{place}
use Rattle.etc_clean.proofs.FarmLemmas.{blocked_kept, entry_is, placed_kept}
use Rattle.etc_clean.proofs.KeepsLemmas.{inserted, owned_name, static_owned}
use Rattle.etc_clean.proofs.NameLemmas.{clean_reserved, not_reserved_other, static_reserved}
use Rattle.etc_clean.proofs.SearchLemmas.{lower_other}
use Rattle.etc_farm.specs.Steps.{AllListed, CanPutEntries, IsNoneGone}
use Rattle.etc_farm.proofs.FarmMoment.{AreGone, IsFarmMoment, IsInnerMoment}
use Rattle.etc_farm.proofs.ClearLemmas.{entry_clear, gone_put, gone_same, reserved_not_gone}
use Rattle.etc_farm.proofs.PartLemmas.{frame_alike}
use Rattle.etc_farm.proofs.PlaceLemmas.{not_stage, owned_place, owned_read, way_free}
use Rattle.etc_farm.proofs.StepLemmas.{farm_with, moment_put, moment_seen, moment_self, put_entry}

-- ---- items of a manifest

free_among : (names : List Name) → AllByRecursion (λ name. is_reserved name ≡ false) names → (q : Name) → has names q ≡ true → is_reserved q ≡ false
free_among [] free q there = absurd (both_ways false refl there)
free_among (name ∷ names) free q there = elim (same_or_other q name) [
  | inl same ↦ ap is_reserved same ∙ free.0
  | inr other ↦ free_among names free.1 q (sym (ap (λ b. b || has names q) other) ∙ there)
]

-- no entry of a manifest is reserved
pub manifest_free : (items : List Item) → IsManifest items → AreFree items
manifest_free items manifest = free_among (places items) manifest.free

above_at : (a : Name) (items : List Item) (i : ℕ) (d : Item) → i < length items → AllByRecursion (λ b. bytes_cmp a b ≡ Less) (places items) → bytes_cmp a (get_or items i d).place ≡ Less
above_at a [] i d inside above = absurd (omega arith)
above_at a (item ∷ items) zero d inside above = above.0
above_at a (item ∷ items) (suc i) d inside above = above_at a items i d (omega arith) above.1

-- the entry of an item's place is the item
entry_at : (items : List Item) (i : ℕ) (item : Item) → IsStrictlySortedBy bytes_cmp (places items) → i < length items → item ≡ get_or items i item → entry items item.place ≡ Some item.kind
unfolding IsStrictlySortedBy
entry_at [] i item sorted inside is = absurd (omega arith)
entry_at (first ∷ items) zero item sorted inside is =
    ap (λ (x : Item). option_map (λ (i : Item). i.kind) (cond (is_name item.place x.place) (Some x) (find (λ (i : Item). is_name item.place i.place) items))) (sym is)
    ∙ ap (λ b. option_map (λ (i : Item). i.kind) (cond b (Some item) (find (λ (i : Item). is_name item.place i.place) items))) (itself item.place)
entry_at (first ∷ items) (suc i) item sorted inside is =
    let less : bytes_cmp first.place item.place ≡ Less = ap (λ (x : Item). bytes_cmp first.place x.place) is ∙ above_at first.place items i item (omega arith) sorted.0 in
    ap (λ b. option_map (λ (i : Item). i.kind) (cond b (Some first) (find (λ (i : Item). is_name item.place i.place) items))) (lower_other first.place item.place less)
    ∙ entry_at items i item sorted.1 (omega arith) is

pub entry_of_item : (items : List Item) (i : ℕ) (item : Item) → IsManifest items → i < length items → item ≡ get_or items i item → entry items item.place ≡ Some item.kind
entry_of_item items i item manifest inside is = entry_at items i item manifest.sorted inside is

pub known_item : (items : List Item) (i : ℕ) (item : Item) → IsManifest items → i < length items → item ≡ get_or items i item → is_entry items item.place ≡ true
known_item items i item manifest inside is = sym (entry_is items item.place) ∙ ap (λ (o : Option ItemKind). is_some o) (entry_of_item items i item manifest inside is)

-- ---- worlds that are alike but for the stage

pub alike_seen : (items : List Item) → AreFree items → (u m : WorldState) → seen m ≡ seen u → AreAlike u.leaves m.leaves
alike_seen items free u m is = frame_alike (farm_with items) u m free (record {
  leaves = λ q read. seen_at m u is q (not_stage q read);
  manager = λ calls. ap (λ (x : WorldState). x.manager) is;
})

pub at_seen : (u m : WorldState) (q : Name) → is_owned q ≡ true → seen m ≡ seen u → at m.leaves q ≡ at u.leaves q
at_seen u m q own is = seen_at m u is (place q) (not_stage (place q) (owned_read (place q) (owned_place q own)))

none_gone_alike : (items : List Item) (w m : Leaves) → AreAlike w m → IsNoneGone items w → IsNoneGone items m
none_gone_alike items w m alike none q = by (is_reserved q) refl
  where
    by : (reserved : Bool) → is_reserved q ≡ reserved → is_gone items m q ≡ false
    by true r = reserved_not_gone items m q r
    by false r = gone_same items w m q (alike.leaves q (owned_name q r)) (ap (λ (names : List Name). has names q) alike.clean) ∙ none q

pub none_gone_seen : (items : List Item) → AreFree items → (u m : WorldState) → seen m ≡ seen u → IsNoneGone items u.leaves → IsNoneGone items m.leaves
none_gone_seen items free u m is none = none_gone_alike items u.leaves m.leaves (alike_seen items free u m is) none

pub are_gone_seen : (items : List Item) → AreFree items → (names : List Name) (u m : WorldState) → seen m ≡ seen u → AreGone items names u.leaves → AreGone items names m.leaves
are_gone_seen items free names u m is are q gone = by (is_reserved q) refl
  where
    by : (reserved : Bool) → is_reserved q ≡ reserved → has names q ≡ true
    by true r = absurd (both_ways _ (reserved_not_gone items m.leaves q r) gone)
    by false r =
        let alike = alike_seen items free u m is in
        are q (sym (gone_same items u.leaves m.leaves q (alike.leaves q (owned_name q r)) (ap (λ (ns : List Name). has ns q) alike.clean)) ∙ gone)

-- what is listed stays so at each moment
pub all_listed_then : (items : List Item) (w m : WorldState) → IsFarmMoment items w m → AllListed items w.leaves → AllListed items m.leaves
all_listed_then items w m moment all q is =
    let before = ap (λ (names : List Name). has names q) (sym (placed_kept items w.leaves m.leaves moment.keeps.keeps.foreign)) ∙ is in
    moment.keeps.listed.stays q before (all q before)

-- ---- one entry more

pub entries_then : (items : List Item) (blocked : List Name) (w m : WorldState) → IsFarmMoment items w m → IsNoneGone items m.leaves → CanPutEntries items blocked w → CanPutEntries items blocked m
entries_then items blocked w m moment none can = record {
  manifest = can.manifest;
  apart = can.apart;
  way = moment.keeps.free can.way;
  sorted = can.sorted;
  blocked_are = λ q known. can.blocked_are q known ∙ sym (blocked_kept items w.leaves m.leaves moment.keeps.keeps.foreign q);
  none_gone = none;
  listed = all_listed_then items w m moment can.listed;
}

module _ (items : List Item) (blocked : List Name) (w : WorldState) (can : CanPutEntries items blocked w) (x : Name) (leaf : LeafKind) (known : is_entry items x ≡ true) (unblocked : has blocked x ≡ false) where
  free : AreFree items
  free = manifest_free items can.manifest

  not_blocked : is_blocked items w.leaves x ≡ false
  not_blocked = sym (can.blocked_are x known) ∙ unblocked

  pub can_put : CanPut (place x) w
  can_put = record {
    stage = (way_free w.leaves can.way).stage;
    place = entry_clear items w.leaves x free can.apart (way_free w.leaves can.way) known not_blocked can.none_gone;
  }

  put_moment : IsFarmMoment items w (with_leaf (place x) leaf w)
  put_moment = put_entry items free w x leaf known not_blocked can.listed

  pub put_inner : (m : WorldState) → IsOldOrNew (place x) leaf w m → IsInnerMoment items w m
  put_inner m moment = record {
    moment = moment_put items free (place x) leaf w m put_moment moment;
    fixed_link = ⊎_elim
        (λ old. at_seen w m static_name static_owned old)
        (λ new. at_seen (with_leaf (place x) leaf w) m static_name static_owned new ∙ (inserted w.leaves x leaf).others static_name (λ same. not_reserved_other x static_name (free x known) static_reserved (sym same)))
        moment;
  }

  pub put_can : (m : WorldState) → seen m ≡ seen (with_leaf (place x) leaf w) → CanPutEntries items blocked m
  put_can m new =
      entries_then items blocked w m (moment_seen items free w (with_leaf (place x) leaf w) m new put_moment)
      (none_gone_seen items free (with_leaf (place x) leaf w) m new (gone_put items w.leaves x leaf (not_reserved_other x clean_name (free x known) clean_reserved) known can.none_gone)) can

-- entries can be put in every world that is alike but for the stage
pub entries_seen : (items : List Item) (blocked : List Name) (u m : WorldState) → seen m ≡ seen u → CanPutEntries items blocked u → CanPutEntries items blocked m
entries_seen items blocked u m is can =
    let free = manifest_free items can.manifest in
    entries_then items blocked u m (moment_seen items free u u m is (moment_self items u)) (none_gone_seen items free u m is can.none_gone) can
