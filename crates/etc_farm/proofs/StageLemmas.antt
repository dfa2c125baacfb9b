-- A farm in the making, from what is put first to the removals.
use Rattle.std.proofs.Common.{◌≡◌, ℕ, zero, suc, ◌&&◌, ◌||◌, ◌==◌, not, Bool, true, false, cond, List, [], ◌∷◌, map, filter, take, Option, None, Some, refl, sym, ap, ◌∙◌, ⊎_elim}
use Rattle.std.proofs.lemmas.Bool.{and_parts, both_ways, or_left, or_right, or_cases, not-true}
use Rattle.std.specs.List.{AllByRecursion, slice_split}
use Rattle.std.specs.List.Sorted.{IsStrictlySortedBy}
use Rattle.std.specs.Cmp.{both_ways as same_test}
use Rattle.switch_names.specs.Names.{Name, has, is_name}
use Rattle.host_trait.specs.declared.leaf.LeafKind.TheVariants.{Link}
use Rattle.host_trait.specs.World.{Leaves, WorldState, bytes_cmp, content_of, seen, with_leaf}
use Rattle.host_trait.proofs.Places.{at_same, itself}
use Rattle.host_trait.proofs.Sound.{not_in_line}
use Rattle.host_trait.proofs.NameOrder.{has_filter}
use Rattle.tree_put.specs.Put.{CanPut}
use Rattle.tree_put.specs.Sequence.{ArePutsApart, CanPutAll, IsPutting, with_puts}
use Rattle.tree_put.specs.WrittenPlace.{in_the_way}
use Rattle.switch_parts.specs.Part.{IsAtEnd, IsPartMoment}
use Rattle.etc_manifest.specs.declared.item.Item.{Item}
use Rattle.etc_manifest.specs.Manifest.{IsManifest, places}
use Rattle.etc_manifest.specs.Place.{is_reserved}
use Rattle.etc_clean.specs.declared.sorting.Sorted.{Sorted}
use Rattle.etc_clean.specs.CleanList.{AreCleanNames, clean_leaf, clean_name, clean_of, is_clean_name, is_path_text, names_in}
use Rattle.etc_clean.specs.Etc.{Farm, static_name}
use Rattle.etc_clean.specs.Farm.{at, is_blocked, is_entry, is_made, placed}
use Rattle.etc_clean.specs.Keeps.{AreFree, IsFirstList}
use Rattle.etc_clean.specs.Names.{name_of, place}
use Rattle.etc_clean.specs.Obsolete.{IsSortedOf}
use Rattle.etc_clean.proofs.FarmLemmas.{blocked_kept, placed_kept, placed_known}
use Rattle.etc_clean.proofs.KeepsLemmas.{end_law, listed_there, static_owned}
use Rattle.etc_farm.specs.FarmPart.{CanApply, farm_part, fixed_places}
use Rattle.etc_farm.specs.Making.{entry_puts}
use Rattle.etc_farm.specs.Steps.{item_put, puts_but, AllListed, CanPutEntries, IsFirstNames, IsNoneGone, first_puts, placed_but, without_names}
use Rattle.etc_farm.proofs.FarmMoment.{AreGone, IsFarmMoment, IsOwn}
use Rattle.etc_farm.proofs.ClearLemmas.{gone_first, gone_static}
use Rattle.etc_farm.proofs.EntryLemmas.{all_listed_then, are_gone_seen, at_seen, manifest_free}
use Rattle.etc_farm.proofs.LineLemmas.{clean_static, static_clean}
use Rattle.etc_farm.proofs.OrderLemmas.{first_starts}
use Rattle.etc_farm.proofs.PlaceLemmas.{place_apart, place_of_owned, way_free}
use Rattle.etc_farm.proofs.RemovalLemmas.{all_own, none_left, own_at, own_free}
use Rattle.etc_farm.proofs.StepLemmas.{moment_seen, moment_self, moment_then, put_first, put_static}

-- what a switch has done once its first list and its link stand
pub record IsBegun (farm : Farm) (names : List Name) (w : WorldState) : Type 0 where
  pub gone : AreGone farm.items names w.leaves
  pub listed : AllListed farm.items w.leaves
  pub fixed_link : at w.leaves static_name ≡ Some (Link farm.target)

-- a moment of the farm is one of its part
pub moment_of : (farm : Farm) (w m : WorldState) → IsFarmMoment farm.items w m → IsPartMoment (farm_part farm) w m
moment_of farm w m moment = record {
  keeps = moment.keeps;
  only = record { leaves = moment.leaves; manager = λ calls. moment.manager };
}

-- what is at its end by a moment of the farm is so by the beginning
pub end_from : (farm : Farm) (w v m : WorldState) → IsFarmMoment farm.items w v → IsAtEnd (farm_part farm) v m → IsAtEnd (farm_part farm) w m
end_from farm w v m moment end path own = end path own ∙ end_law farm w.leaves v.leaves moment.keeps.keeps (name_of path) (place_of_owned path own).1

-- ---- what may be put

pub can_put_clean : (w : WorldState) → in_the_way fixed_places w.leaves ≡ None → CanPut (place clean_name) w
can_put_clean w none = let way = way_free w.leaves none in record { stage = way.stage; place = way.clean }

pub can_put_first : (names : List Name) (target : List ℕ) (w : WorldState) → in_the_way fixed_places w.leaves ≡ None → CanPutAll (first_puts names target) w
can_put_first names target w none = let way = way_free w.leaves none in record { stage = way.stage; places = (way.clean, (way.fixed_link, tt)) }

pub first_apart : (names : List Name) (target : List ℕ) → ArePutsApart (first_puts names target)
first_apart names target = record {
  stage = (place_apart clean_name, (place_apart static_name, tt));
  others = ((not_in_line (place clean_name), (static_clean, tt)), ((clean_static, (not_in_line (place static_name), tt)), tt));
}

-- ---- what is known at the beginning

-- two tests that agree at the places of some items keep the same of them
pub items_agree : (p t : Item → Bool) (items : List Item) → ((item : Item) → has (places items) item.place ≡ true → p item ≡ t item) → filter p items ≡ filter t items
items_agree p t [] agree = refl
items_agree p t (item ∷ items) agree =
    ap (λ b. cond b (item ∷ filter p items) (filter p items)) (agree item (or_left (is_name item.place item.place) (has (places items) item.place) (itself item.place)))
    ∙ ap (λ (list : List Item). cond (t item) (item ∷ list) list)
    (items_agree p t items (λ other there. agree other (or_right (is_name other.place item.place) (has (places items) other.place) there)))

pub all_free : (names : List Name) → ((q : Name) → has names q ≡ true → is_reserved q ≡ false) → AllByRecursion (λ name. is_reserved name ≡ false) names
all_free [] free = tt
all_free (x ∷ names) free = (free x (or_left (is_name x x) (has names x) (itself x)), all_free names (λ q there. free q (or_right (is_name q x) (has names q) there)))

clean_free_of : (content : Option (List ℕ)) (q : Name) → has (names_in content) q ≡ true → is_reserved q ≡ false
clean_free_of None q there = absurd (both_ways false refl there)
clean_free_of (Some bytes) q there =
    not-true (is_reserved q)
    (and_parts (is_path_text q) (not (is_reserved q))
    (and_parts (is_clean_name q) (has (slice_split (λ byte. byte == 10) bytes) q) (sym (has_filter is_clean_name (slice_split (λ byte. byte == 10) bytes) q) ∙ there)).0).1

and_by : (a b : Bool) → a ≡ true → a && b ≡ b
and_by a b is = ap (λ x. x && b) is

-- the names that are placed, where the blocked entries are known
pub placed_as : (items : List Item) (blocked : List Name) (leaves : Leaves) → ((q : Name) → is_entry items q ≡ true → has blocked q ≡ is_blocked items leaves q) → placed_but blocked items ≡ placed items leaves
placed_as items blocked leaves are = ap (map (λ (item : Item). item.place)) (items_agree _ _ items (λ item there. ap (λ b. is_made item.kind && not b) (are item.place there)))

module _ (farm : Farm) (manifest : IsManifest farm.items) (found : Sorted) (leaves : Leaves) (sorted : IsSortedOf farm.items leaves found) where
  pub blocked_in : (q : Name) → is_entry farm.items q ≡ true → has found.blocked q ≡ is_blocked farm.items leaves q
  blocked_in q known =
      same_test (has found.blocked q) (is_entry farm.items q && is_blocked farm.items leaves q) (λ there. (sorted.blocked.exact q).0 there) (λ is. (sorted.blocked.exact q).1 is)
      ∙ and_by (is_entry farm.items q) (is_blocked farm.items leaves q) known

  pub placed_is : placed_but found.blocked farm.items ≡ placed farm.items leaves
  placed_is = placed_as farm.items found.blocked leaves blocked_in

  listed_free : (q : Name) → (has found.clean q || has (placed farm.items leaves) q) ≡ true → is_reserved q ≡ false
  listed_free q there = ⊎_elim
      (λ clean. clean_free_of (content_of leaves (place clean_name)) q ((sorted.clean.exact q).0 clean))
      (λ also. manifest_free farm.items manifest q (placed_known farm.items leaves q also))
      (or_cases (has found.clean q) (has (placed farm.items leaves) q) there)

  module _ (first : List Name) (joined : (q : Name) → has first q ≡ (has found.clean q || has (placed_but found.blocked farm.items) q)) where
    first_has : (q : Name) → has first q ≡ (has found.clean q || has (placed farm.items leaves) q)
    first_has q = joined q ∙ ap (λ (names : List Name). has found.clean q || has names q) placed_is

    joined_is : (q : Name) → has first q ≡ (has (clean_of leaves) q || has (placed farm.items leaves) q)
    joined_is q =
        first_has q
        ∙ ap (λ b. b || has (placed farm.items leaves) q) (same_test (has found.clean q) (has (clean_of leaves) q) (λ there. (sorted.clean.exact q).0 there) (λ there. (sorted.clean.exact q).1 there))

    pub first_names : IsStrictlySortedBy bytes_cmp first → AreCleanNames first → IsFirstNames farm.items leaves first
    first_names in_order clean = record { list = record { sorted = in_order; exact = λ q. ((λ there. sym (joined_is q) ∙ there), (λ is. joined_is q ∙ is)) }; clean = clean }

    pub first_free : AllByRecursion (λ name. is_reserved name ≡ false) first
    first_free = all_free first (λ q there. listed_free q (sym (first_has q) ∙ there))

module _ (farm : Farm) (manifest : IsManifest farm.items) (found : Sorted) (w : WorldState) (can : CanApply farm found w) where
  abbrev items : List Item
  items = farm.items

  free : AreFree items
  free = manifest_free items manifest

  pub blocked_are : (q : Name) → is_entry items q ≡ true → has found.blocked q ≡ is_blocked items w.leaves q
  blocked_are = blocked_in farm manifest found w.leaves can.sorted

  pub open_as : puts_but found.blocked items ≡ entry_puts items w.leaves
  open_as = ap (λ (list : List Item). map item_put list) (items_agree _ _ items (λ item there. ap (λ b. not b) (blocked_are item.place there)))

  gone_are : AreGone items found.gone w.leaves
  gone_are q gone = (can.sorted.gone.exact q).1 gone

  own_there : AllByRecursion (IsOwn items w.leaves) found.gone
  own_there = all_own items w.leaves found.gone (λ q there. (can.sorted.gone.exact q).0 there)

  -- ---- what is put first

  module _ (first : List Name) (names_are : IsFirstNames items w.leaves first) where
    starts : IsFirstList items w.leaves first
    starts = first_starts items w.leaves first names_are

    abbrev listed_world : WorldState
    listed_world = with_leaf (place clean_name) (clean_leaf first) w

    abbrev begun_world : WorldState
    begun_world = with_leaf (place static_name) (Link farm.target) listed_world

    listed_moment : IsFarmMoment items w listed_world
    listed_moment = put_first items free w first names_are

    linked_moment : IsFarmMoment items listed_world begun_world
    linked_moment = put_static items free listed_world (Link farm.target)

    begun_moment : IsFarmMoment items w begun_world
    begun_moment = moment_then items w listed_world begun_world listed_moment linked_moment

    count_moment : (count : ℕ) (m : WorldState) → seen m ≡ seen (with_puts (take count (first_puts first farm.target)) w) → IsFarmMoment items w m
    count_moment zero m is = moment_seen items free w w m is (moment_self items w)
    count_moment (suc zero) m is = moment_seen items free w listed_world m is listed_moment
    count_moment (suc (suc zero)) m is = moment_seen items free w begun_world m is begun_moment
    count_moment (suc (suc (suc count))) m is = moment_seen items free w begun_world m is begun_moment

    pub first_moment : (m : WorldState) → IsPutting (first_puts first farm.target) w m → IsFarmMoment items w m
    first_moment m step = count_moment step.count m step.world

    all_listed : AllListed items listed_world.leaves
    all_listed q is =
        let before = ap (λ (names : List Name). has names q) (sym (placed_kept items w.leaves listed_world.leaves listed_moment.keeps.keeps.foreign)) ∙ is in
        ap (λ (names : List Name). has names q) (listed_there w.leaves first) ∙ starts q ∙ or_right (has (clean_of w.leaves) q) (has (placed items w.leaves) q) before

    pub first_begun : (m : WorldState) → seen m ≡ seen begun_world → IsBegun farm found.gone m
    first_begun m new = record {
      gone = are_gone_seen items free found.gone begun_world m new (gone_static items listed_world.leaves found.gone (Link farm.target) (gone_first items w.leaves found.gone first starts gone_are));
      listed = all_listed_then items listed_world m (moment_seen items free listed_world begun_world m new linked_moment) all_listed;
      fixed_link = at_seen begun_world m static_name static_owned new ∙ at_same listed_world.leaves (place static_name) (Link farm.target);
    }

  -- ---- from a moment of the farm on

  module _ (v : WorldState) (moment : IsFarmMoment items w v) where
    pub own_here : AllByRecursion (IsOwn items v.leaves) found.gone
    own_here = own_at items w v moment found.gone own_there

    pub none_gone_there : IsBegun farm found.gone v → IsNoneGone items (without_names found.gone v).leaves
    none_gone_there begun = none_left items found.gone v (own_free items v.leaves found.gone own_here) begun.gone

    pub entries_there : IsNoneGone items v.leaves → AllListed items v.leaves → CanPutEntries items found.blocked v
    entries_there none listed = record {
      manifest = manifest;
      apart = can.apart;
      way = moment.keeps.free can.free.way;
      sorted = can.sorted.blocked.sorted;
      blocked_are = λ q known. blocked_are q known ∙ sym (blocked_kept items w.leaves v.leaves moment.keeps.keeps.foreign q);
      none_gone = none;
      listed = listed;
    }
