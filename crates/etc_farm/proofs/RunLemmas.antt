-- What is known of the leaves below etc after runs of farms, each cut or ended.
use Rattle.std.proofs.Common.{◌≡◌, ◌⊎◌, ◌&&◌, ◌||◌, ℕ, zero, suc, not, Bool, true, false, cond, List, [], ◌∷◌, ◌++◌, codes, filter, find, map, take, Option, None, Some, is_some, option_map, refl, sym, ap, subst, ◌∙◌, inl, inr, ⊎_elim}
use Rattle.std.proofs.lemmas.Bool.{and_parts, both_ways, cases_Bool, not-true, or_left, or_parts, or_right}
use Rattle.std.proofs.lemmas.Option.{none-some}
use Rattle.switch_names.specs.Names.{IsListOf, Name, has, is_name}
use Rattle.switch_names.specs.Path.{is_below}
use Rattle.host_trait.specs.declared.leaf.LeafKind.{LeafKind}
use Rattle.host_trait.specs.declared.leaf.LeafKind.TheVariants.{Link}
use Rattle.host_trait.specs.World.{IsSound, Leaves, WorldState, leaf_content, seen, with_leaf}
use Rattle.host_trait.proofs.NameOrder.{name_exact}
use Rattle.host_trait.proofs.Places.{at_same, itself}
use Rattle.host_trait.proofs.Seen.{seen_at}
use Rattle.tree_put.specs.declared.leaf_put.LeafPut.{LeafPut}
use Rattle.tree_put.specs.Sequence.{put_at, with_puts, without_places}
use Rattle.tree_put.proofs.SequenceLemmas.{all_take}
use Rattle.switch_parts.specs.Part.{IsAtEnd}
use Rattle.etc_manifest.specs.declared.item.Item.{Item}
use Rattle.etc_manifest.specs.declared.item.ItemKind.{ItemKind}
use Rattle.etc_manifest.specs.declared.item.ItemKind.TheVariants.{Copied, Direct, Linked}
use Rattle.etc_manifest.specs.Manifest.{IsManifest, entry}
use Rattle.etc_manifest.specs.Place.{is_reserved}
use Rattle.etc_clean.specs.declared.sorting.Sorted.{Sorted}
use Rattle.etc_clean.specs.CleanList.{AreCleanNames, clean_leaf, clean_name, clean_of, names_in}
use Rattle.etc_clean.specs.Etc.{Farm, at_entry, etc, is_owned, leaf_of, static_name}
use Rattle.etc_clean.specs.Farm.{at, is_below_nixos, is_blocked, is_entry, is_farm_link, is_foreign, is_gone, is_into_static, is_made, is_ours, is_stray, placed}
use Rattle.etc_clean.specs.Names.{place}
use Rattle.etc_clean.proofs.CleanLemmas.{read_back_law}
use Rattle.etc_clean.proofs.FarmLemmas.{blocked_from, entry_is, foreign_parts}
use Rattle.etc_clean.proofs.KeepsLemmas.{clean_owned, inserted, owned_name, static_not_clean}
use Rattle.etc_clean.proofs.NameLemmas.{clean_reserved, static_reserved}
use Rattle.etc_farm.specs.FarmPart.{CanApply, farm_part}
use Rattle.etc_farm.specs.Making.{IsAtStep, IsLeafAt, IsMaking, begun, cleared, entry_puts}
use Rattle.etc_farm.specs.Making.IsAtStep.{Beginning, Clearing, Ending}
use Rattle.etc_farm.specs.Making.IsLeafAt.{Entry, FirstList, FixedLink, Gone, LastList, Old}
use Rattle.etc_farm.specs.Making.IsMaking.{Before, Since}
use Rattle.etc_farm.specs.Runs.{AreSwitches, ForeignLaw, IsKnownSince, IsNext, KnownLaw}
use Rattle.etc_farm.specs.Runs.IsKnownSince.{AsThen, Away, IntoStatic, Listed}
use Rattle.etc_farm.specs.Runs.IsNext.{Elsewhere, Run}
use Rattle.etc_farm.specs.Steps.{IsFirstNames, first_puts}
use Rattle.etc_farm.proofs.ClearLemmas.{reserved_not_gone}
use Rattle.etc_farm.proofs.EntryLemmas.{alike_seen, manifest_free}
use Rattle.etc_farm.proofs.LeafLemmas.{place_other, placed_name, removals_at, all_removed_at, step_fine}
use Rattle.etc_farm.proofs.LineLemmas.{line_place}
use Rattle.etc_farm.proofs.MomentLemmas.{clean_among, ended}
use Rattle.etc_farm.proofs.PrepareLemmas.{all_clean}
use Rattle.etc_farm.proofs.PlaceLemmas.{name_of_place, owned_place}
use Rattle.etc_farm.proofs.PutLemmas.{IsEntryPut, all_entry_puts, known_by, one_kind, one_name, puts_at}

-- ---- the clean list

-- a clean list that stands is read as it was written
listed_by : (leaves : Leaves) (names : List Name) → AreCleanNames names → at leaves clean_name ≡ Some (clean_leaf names) → clean_of leaves ≡ names
listed_by leaves names clean is = ap (λ (leaf : Option LeafKind). names_in (leaf_content leaves leaf)) is ∙ read_back_law names clean

-- ---- a copied or direct entry that isn't blocked is placed

some_of : (test : Name → Bool) (item : Item) (some : List Item) (q : Name) (b : Bool) →
    has (map (λ (i : Item). i.place) some) q ≡ true → has (map (λ (i : Item). i.place) (cond b (item ∷ some) some)) q ≡ true
some_of test item some q true there = or_right (is_name q item.place) (has (map (λ (i : Item). i.place) some) q) there
some_of test item some q false there = there

placed_there : (test : Name → Bool) (some : List Item) (q : Name) (kind : ItemKind) → entry some q ≡ Some kind → is_made kind ≡ true → test q ≡ true →
    has (map (λ (i : Item). i.place) (filter (λ (i : Item). is_made i.kind && test i.place) some)) q ≡ true
placed_there test [] q kind wanted made passes = absurd (none-some kind wanted)
placed_there test (item ∷ some) q kind wanted made passes = by (is_name q item.place) refl wanted (λ among. placed_there test some q kind among made passes)
  where
    by : (b : Bool) → is_name q item.place ≡ b → option_map (λ (i : Item). i.kind) (cond b (Some item) (find (λ (i : Item). is_name q i.place) some)) ≡ Some kind →
        (entry some q ≡ Some kind → has (map (λ (i : Item). i.place) (filter (λ (i : Item). is_made i.kind && test i.place) some)) q ≡ true) →
        has (map (λ (i : Item). i.place) (cond (is_made item.kind && test item.place) (item ∷ filter (λ (i : Item). is_made i.kind && test i.place) some) (filter (λ (i : Item). is_made i.kind && test i.place) some))) q ≡ true
    by true same is rest =
        ap (λ b. has (map (λ (i : Item). i.place) (cond b (item ∷ filter (λ (i : Item). is_made i.kind && test i.place) some) (filter (λ (i : Item). is_made i.kind && test i.place) some))) q)
        (ap (λ (k : ItemKind). is_made k && test item.place) (one_kind item.kind kind is) ∙ ap (λ b. b && test item.place) made ∙ ap test (sym (name_exact q item.place same)) ∙ passes)
        ∙ or_left (is_name q item.place) (has (map (λ (i : Item). i.place) (filter (λ (i : Item). is_made i.kind && test i.place) some)) q) same
    by false other is rest = some_of test item (filter (λ (i : Item). is_made i.kind && test i.place) some) q (is_made item.kind && test item.place) (rest is)

placed_entry : (items : List Item) (leaves : Leaves) (q : Name) (kind : ItemKind) → entry items q ≡ Some kind → is_made kind ≡ true → is_blocked items leaves q ≡ false → has (placed items leaves) q ≡ true
placed_entry items leaves q kind wanted made free = placed_there (λ p. not (is_blocked items leaves p)) items q kind wanted made (ap (λ b. not b) free)

-- ---- from one world to the next

-- where the leaf is the same and its name still listed
known_alike : (first w v : Leaves) (q : Name) → at v q ≡ at w q → (has (clean_of w) q ≡ true → has (clean_of v) q ≡ true) → IsKnownSince first w q → IsKnownSince first v q
known_alike first w v q same listed (AsThen is) = AsThen (same ∙ is)
known_alike first w v q same listed (Away is) = Away (same ∙ is)
known_alike first w v q same listed (IntoStatic is) = IntoStatic (same ∙ is)
known_alike first w v q same listed (Listed there) = Listed (listed there)

-- where an entry's leaf is put
known_put : (first v : Leaves) (q : Name) (kind : ItemKind) → at v q ≡ Some (leaf_of q kind) → (is_made kind ≡ true → has (clean_of v) q ≡ true) → IsKnownSince first v q
known_put first v q Linked is listed = IntoStatic is
known_put first v q (Copied leaf) is listed = Listed (listed refl)
known_put first v q (Direct target) is listed = Listed (listed refl)

-- the first so many of some puts and a last one, or all
but_last : (puts : List LeafPut) (last : LeafPut) (n : ℕ) (w : WorldState) →
    ((k : ℕ) × (with_puts (take n (puts ++ last ∷ [])) w ≡ with_puts (take k puts) w)) ⊎ (with_puts (take n (puts ++ last ∷ [])) w ≡ with_puts (puts ++ last ∷ []) w)
but_last [] last zero w = inl (0, refl)
but_last [] last (suc zero) w = inr refl
but_last [] last (suc (suc n)) w = inr refl
but_last (put ∷ puts) last zero w = inl (0, refl)
but_last (put ∷ puts) last (suc n) w = ⊎_elim (λ some. inl (suc some.0, some.1)) (λ all. inr all) (but_last puts last n (with_leaf put.at put.leaf w))

other_of : (q x : Name) → is_reserved q ≡ false → is_reserved x ≡ true → is_name q x ≡ false
other_of q x free reserved = elim (cases_Bool (is_name q x)) [
  | inl is ↦ absurd (both_ways _ free (ap is_reserved (name_exact q x is) ∙ reserved))
  | inr other ↦ other
]

-- what is listed and isn't gone has no leaf
none_listed : (o : Option LeafKind) (reserved known link listed : Bool) → reserved ≡ false → known ≡ false → listed ≡ true →
    ((is_some o && (not reserved && not known)) && (link || listed)) ≡ false → o ≡ None
none_listed None reserved known link listed free new there is = refl
none_listed (Some leaf) true known link listed free new there is = absurd (both_ways _ free refl)
none_listed (Some leaf) false true link listed free new there is = absurd (both_ways _ new refl)
none_listed (Some leaf) false false true listed free new there is = absurd (both_ways true is refl)
none_listed (Some leaf) false false false listed free new there is = absurd (both_ways _ is there)

turned : (a b : Bool) → a || b ≡ true → b || a ≡ true
turned true true is = refl
turned true false is = refl
turned false true is = refl
turned false false is = is

-- what a farm leaves at its clean list, and at a name that isn't reserved
abbrev etc_beside : Farm → Leaves → Name → Bool → Bool → Option LeafKind
etc_beside farm leaves q clean reserved = cond clean (Some (clean_leaf (placed farm.items leaves))) (cond reserved (at leaves q) (at_entry farm.items leaves q (entry farm.items q)))

not_static : is_name clean_name static_name ≡ false
not_static = elim (cases_Bool (is_name clean_name static_name)) [
  | inl is ↦ absurd (static_not_clean (sym (name_exact clean_name static_name is)))
  | inr other ↦ other
]

list_of_etc : (farm : Farm) (leaves : Leaves) → etc farm leaves clean_name ≡ Some (clean_leaf (placed farm.items leaves))
list_of_etc farm leaves =
    ap (λ b. cond b (Some (Link farm.target)) (etc_beside farm leaves clean_name (is_name clean_name clean_name) (is_reserved clean_name))) not_static
    ∙ ap (λ b. etc_beside farm leaves clean_name b (is_reserved clean_name)) (itself clean_name)

free_of_etc : (farm : Farm) (leaves : Leaves) (q : Name) → is_reserved q ≡ false → etc farm leaves q ≡ at_entry farm.items leaves q (entry farm.items q)
free_of_etc farm leaves q free =
    ap (λ b. cond b (Some (Link farm.target)) (etc_beside farm leaves q (is_name q clean_name) (is_reserved q))) (other_of q static_name free static_reserved)
    ∙ ap (λ b. etc_beside farm leaves q b (is_reserved q)) (other_of q clean_name free clean_reserved)
    ∙ ap (λ b. etc_beside farm leaves q false b) free

module _
    (farm : Farm) (manifest : IsManifest farm.items) (other : Sorted) (w : WorldState) (sound : IsSound w.leaves) (can : CanApply farm other w)
    (names gone : List Name) (names_are : IsFirstNames farm.items w.leaves names) (gone_are : IsListOf gone (λ q. is_gone farm.items w.leaves q ≡ true))
    (first : Leaves) (q : Name) (free : is_reserved q ≡ false) (known : IsKnownSince first w.leaves q) where
  abbrev items : List Item
  items = farm.items

  abbrev Goal : WorldState → Type 0
  Goal v = IsKnownSince first v.leaves q

  -- where nothing is seen to have changed
  unchanged : (v : WorldState) → seen v ≡ seen w → Goal v
  unchanged v is =
      let alike = alike_seen items (manifest_free items manifest) w v is in
      known_alike first w.leaves v.leaves q (alike.leaves q (owned_name q free)) (λ there. ap (λ (ns : List Name). has ns q) alike.clean ∙ there) known

  -- where the first clean list stands
  module _ (v : WorldState) (is : at v.leaves clean_name ≡ Some (clean_leaf names)) where
    on_list : has names q ≡ true → has (clean_of v.leaves) q ≡ true
    on_list there = ap (λ (ns : List Name). has ns q) (listed_by v.leaves names names_are.clean is) ∙ there

    by_leaf : IsLeafAt farm w.leaves q (at v.leaves q) → Goal v
    by_leaf (Old same) = known_alike first w.leaves v.leaves q same (λ there. on_list ((names_are.list.exact q).1 (or_left (has (clean_of w.leaves) q) (has (placed items w.leaves) q) there))) known
    by_leaf (FixedLink same leaf) = absurd (both_ways _ free (ap is_reserved same ∙ static_reserved))
    by_leaf (FirstList same others others_are leaf) = absurd (both_ways _ free (ap is_reserved same ∙ clean_reserved))
    by_leaf (LastList same leaf) = absurd (both_ways _ free (ap is_reserved same ∙ clean_reserved))
    by_leaf (Gone is_gone_there leaf) = Away leaf
    by_leaf (Entry kind wanted unblocked leaf) = known_put first v.leaves q kind leaf
        (λ made. on_list ((names_are.list.exact q).1 (or_right (has (clean_of w.leaves) q) (has (placed items w.leaves) q) (placed_entry items w.leaves q kind wanted made unblocked))))

    on_the_way : IsAtStep farm names gone w v → Goal v
    on_the_way step = by_leaf (step_fine farm manifest w names gone names_are gone_are q v step)

  -- where the farm is at its end
  none_blocked : is_blocked items w.leaves q ≡ true → at w.leaves q ≡ None
  none_blocked blocked =
      let one = blocked_from items w.leaves q blocked in
      sound.apart (place one.0) (foreign_parts items w.leaves one.0 one.1).0 (place q)
      (turned (is_below (place one.0) (place q)) (is_below (place q) (place one.0)) (line_place one.0 q ∙ one.2))

  placed_clean : AreCleanNames (placed items w.leaves)
  placed_clean = all_clean (placed items w.leaves) (λ x there.
      clean_among names names_are.clean x ((names_are.list.exact x).1 (or_right (has (clean_of w.leaves) x) (has (placed items w.leaves) x) there)))

  module _ (v : WorldState) (end : IsAtEnd (farm_part farm) w v) where
    at_end : (x : Name) → is_owned x ≡ true → at v.leaves x ≡ etc farm w.leaves x
    at_end x own = end (place x) (owned_place x own) ∙ ap (etc farm w.leaves) (name_of_place x)

    clean_there : clean_of v.leaves ≡ placed items w.leaves
    clean_there = listed_by v.leaves (placed items w.leaves) placed_clean (at_end clean_name clean_owned ∙ list_of_etc farm w.leaves)

    settled : (o : Option ItemKind) → entry items q ≡ o → at v.leaves q ≡ at_entry items w.leaves q o → Goal v
    settled (Some kind) wanted is = by (is_blocked items w.leaves q) refl is
      where
        by : (b : Bool) → is_blocked items w.leaves q ≡ b → at v.leaves q ≡ cond b (at w.leaves q) (Some (leaf_of q kind)) → Goal v
        by true blocked is = Away (is ∙ none_blocked blocked)
        by false unblocked is = known_put first v.leaves q kind is (λ made. ap (λ (ns : List Name). has ns q) clean_there ∙ placed_entry items w.leaves q kind wanted made unblocked)
    settled None wanted is = by (is_gone items w.leaves q) refl is known
      where
        by : (b : Bool) → is_gone items w.leaves q ≡ b → at v.leaves q ≡ cond b None (at w.leaves q) → IsKnownSince first w.leaves q → Goal v
        by true gone is before = Away is
        by false stays is (AsThen same) = AsThen (is ∙ same)
        by false stays is (Away none) = Away (is ∙ none)
        by false stays is (IntoStatic link) = IntoStatic (is ∙ link)
        by false stays is (Listed there) = Away (is
            ∙ none_listed (at w.leaves q) (is_reserved q) (is_entry items q) (is_farm_link q (at w.leaves q)) (has (clean_of w.leaves) q) free
            (sym (entry_is items q) ∙ ap (λ (o : Option ItemKind). is_some o) wanted) there stays)

    when_ended : Goal v
    when_ended = settled (entry items q) refl (at_end q (owned_name q free) ∙ free_of_etc farm w.leaves q free)

  -- ---- at each step

  abbrev begun_world : WorldState
  begun_world = begun names farm.target w

  abbrev cleared_world : WorldState
  cleared_world = cleared names farm.target gone w

  clean_seen : (v x : WorldState) → seen v ≡ seen x → at x.leaves clean_name ≡ Some (clean_leaf names) → at v.leaves clean_name ≡ Some (clean_leaf names)
  clean_seen v x is there = seen_at v x is (place clean_name) (place_other clean_name) ∙ there

  abbrev listed_world : WorldState
  listed_world = with_leaf (place clean_name) (clean_leaf names) w

  clean_listed : at listed_world.leaves clean_name ≡ Some (clean_leaf names)
  clean_listed = at_same w.leaves (place clean_name) (clean_leaf names)

  clean_begun : at begun_world.leaves clean_name ≡ Some (clean_leaf names)
  clean_begun = (inserted listed_world.leaves static_name (Link farm.target)).others clean_name (λ same. static_not_clean (sym same)) ∙ clean_listed

  clean_not_gone : has (map place gone) (place clean_name) ≡ true → ⊥
  clean_not_gone there = both_ways _ (reserved_not_gone items w.leaves clean_name clean_reserved) ((gone_are.exact clean_name).0 (placed_name gone clean_name there))

  clean_clearing : (n : ℕ) → at (without_places (take n (map place gone)) begun_world).leaves clean_name ≡ Some (clean_leaf names)
  clean_clearing n = ⊎_elim (λ same. same ∙ clean_begun) (λ now. absurd (clean_not_gone now.0)) (removals_at (map place gone) n begun_world (place clean_name))

  clean_cleared : at cleared_world.leaves clean_name ≡ Some (clean_leaf names)
  clean_cleared = ⊎_elim (λ same. same ∙ clean_begun) (λ now. absurd (clean_not_gone now.0)) (all_removed_at (map place gone) begun_world (place clean_name))

  clean_ending : (n : ℕ) → at (with_puts (take n (entry_puts items w.leaves)) cleared_world).leaves clean_name ≡ Some (clean_leaf names)
  clean_ending n = ⊎_elim
      (λ same. same ∙ clean_cleared)
      (λ one.
      let name = one_name one.is.name clean_name (sym (ap (λ (put : LeafPut). put.at) one.is.is) ∙ one.there) in
      absurd (both_ways _ (manifest_free items manifest one.is.name (known_by items one.is.name one.is.kind one.is.known)) (ap is_reserved name ∙ clean_reserved)))
      (puts_at (IsEntryPut items (is_blocked items w.leaves)) (place clean_name) (take n (entry_puts items w.leaves))
      (all_take (IsEntryPut items (is_blocked items w.leaves)) (entry_puts items w.leaves) n (all_entry_puts items (is_blocked items w.leaves) manifest)) cleared_world)

  beginning : (v : WorldState) (n : ℕ) → seen v ≡ seen (with_puts (take n (first_puts names farm.target)) w) → IsAtStep farm names gone w v → Goal v
  beginning v zero is step = unchanged v is
  beginning v (suc zero) is step = on_the_way v (clean_seen v listed_world is clean_listed) step
  beginning v (suc (suc zero)) is step = on_the_way v (clean_seen v begun_world is clean_begun) step
  beginning v (suc (suc (suc n))) is step = on_the_way v (clean_seen v begun_world is clean_begun) step

  at_step : (v : WorldState) → IsAtStep farm names gone w v → Goal v
  at_step v (Beginning step) = beginning v step.count step.world (Beginning step)
  at_step v (Clearing step) =
      on_the_way v (clean_seen v (without_places (take step.count (map place gone)) begun_world) step.world (clean_clearing step.count)) (Clearing step)
  at_step v (Ending step) = ⊎_elim
      (λ some. on_the_way v (clean_seen v (with_puts (take some.0 (entry_puts items w.leaves)) cleared_world) (step.world ∙ ap seen some.1) (clean_ending some.0)) (Ending step))
      (λ all. when_ended v (ended farm manifest other w can names gone names_are gone_are v (step.world ∙ ap seen all)))
      (but_last (entry_puts items w.leaves) (put_at (place clean_name) (clean_leaf (placed items w.leaves))) step.count cleared_world)

-- ---- from the first world to the last

abbrev AllKnown : Leaves → Leaves → Type 0
AllKnown first m = (q : Name) → is_reserved q ≡ false → IsKnownSince first m q

known_next : (first : Leaves) (w v : WorldState) → IsSound w.leaves → IsNext w v → AllKnown first w.leaves → AllKnown first v.leaves
known_next first w v sound (Elsewhere alike) known q free =
    known_alike first w.leaves v.leaves q (alike.leaves q (owned_name q free)) (λ there. ap (λ (ns : List Name). has ns q) alike.clean ∙ there) (known q free)
known_next first w v sound (Run farm left) known q free = by left.making
  where
    by : IsMaking farm w v → IsKnownSince first v.leaves q
    by (Before is) = subst (λ (x : WorldState). IsKnownSince first x.leaves q) (sym is) (known q free)
    by (Since names gone names_are gone_are step) = at_step farm left.manifest left.found w sound left.can names gone names_are gone_are first q free (known q free) v step

known_from : (first : Leaves) (worlds : List WorldState) (w m : WorldState) → AreSwitches w worlds m → AllKnown first w.leaves → AllKnown first m.leaves
known_from first [] w m is known = subst (λ (x : WorldState). AllKnown first x.leaves) (sym is) known
known_from first (v ∷ worlds) w m runs known = known_from first worlds v m runs.2 (known_next first w v runs.0 runs.1 known)

pub known_law : KnownLaw
known_law w m worlds runs = known_from w.leaves worlds w m runs (λ q free. AsThen refl)

into_static : (q : Name) → is_into_static (codes "/etc/static/" ++ q) ≡ true
unfolding is_into_static
into_static q = refl

below_nixos : (b : Bool) → not b ≡ false → b ≡ true
below_nixos true is = refl
below_nixos false is = absurd (both_ways _ is refl)

module _ (items : List Item) (first m : Leaves) (q : Name) (foreign : is_foreign items m q ≡ true) where
  not_ours : is_ours (clean_of m) q (at m q) ≡ false
  not_ours = not-true (is_ours (clean_of m) q (at m q)) (and_parts (is_stray items q (at m q)) (not (is_ours (clean_of m) q (at m q))) foreign).1

  neither : (is_farm_link q (at m q) ≡ false) × (has (clean_of m) q ≡ false)
  neither = or_parts (is_farm_link q (at m q)) (has (clean_of m) q) not_ours

  foreign_known : IsKnownSince first m q → (at m q ≡ at first q) ⊎ ((is_below_nixos q ≡ true) × (at m q ≡ Some (leaf_of q Linked)))
  foreign_known (AsThen is) = inl is
  foreign_known (Away is) = absurd (both_ways _ (ap (λ (o : Option LeafKind). is_some o) is) (foreign_parts items m q foreign).0)
  foreign_known (IntoStatic is) = inr (
    below_nixos (is_below_nixos q)
        (sym (ap (λ b. b && not (is_below_nixos q)) (into_static q)) ∙ sym (ap (λ (o : Option LeafKind). is_farm_link q o) is) ∙ neither.0),
    is,
  )
  foreign_known (Listed there) = absurd (both_ways _ neither.1 there)

pub foreign_law : ForeignLaw
foreign_law items w m worlds runs q foreign = foreign_known items w.leaves m.leaves q foreign (known_law w m worlds runs q (foreign_parts items m.leaves q foreign).1)
