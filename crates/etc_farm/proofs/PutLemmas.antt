-- The puts of entries, one after the other, and what stands at a place after them.
use Rattle.std.proofs.Common.{◌≡◌, ◌⊎◌, ◌||◌, ◌<◌, ℕ, suc, Bool, true, false, not, cond, List, [], ◌∷◌, ◌++◌, length, get_or, map, filter, take, Option, Some, is_some, refl, sym, ap, subst, ◌∙◌, inl, inr, ⊎_elim, arith}
use Rattle.std.proofs.lemmas.Bool.{both_ways, or_left, or_right}
use Rattle.std.specs.FinMap.{get}
use Rattle.std.specs.List.{AllByRecursion}
use Rattle.switch_names.specs.Names.{Name, has, is_name}
use Rattle.host_trait.specs.declared.leaf.LeafKind.{LeafKind}
use Rattle.host_trait.specs.World.{WorldState, seen, with_leaf}
use Rattle.host_trait.proofs.Places.{at_same, itself, same_or_other}
use Rattle.host_trait.proofs.Sound.{get_other}
use Rattle.tree_put.specs.declared.leaf_put.LeafPut.{LeafPut}
use Rattle.tree_put.specs.Put.{CanPut}
use Rattle.tree_put.specs.Sequence.{put_at, with_puts}
use Rattle.tree_put.proofs.SequenceLemmas.{all_take}
use Rattle.etc_manifest.specs.declared.item.Item.{Item}
use Rattle.etc_manifest.specs.declared.item.ItemKind.{ItemKind}
use Rattle.etc_manifest.specs.Manifest.{IsManifest, entry, places}
use Rattle.etc_clean.specs.CleanList.{clean_name}
use Rattle.etc_clean.specs.Etc.{leaf_of}
use Rattle.etc_clean.specs.Farm.{is_entry}
use Rattle.etc_clean.specs.Names.{name_of, place}
use Rattle.etc_clean.proofs.FarmLemmas.{entry_is}
use Rattle.etc_farm.specs.Steps.{CanPutEntries, item_put, puts_but}
use Rattle.etc_farm.proofs.FarmMoment.{ArePut, IsInnerMoment}
use Rattle.etc_farm.proofs.EntryLemmas.{can_put, entries_seen, entry_of_item, known_item, put_can, put_inner}
use Rattle.etc_farm.proofs.PlaceLemmas.{name_of_place}
use Rattle.etc_farm.proofs.RemovalLemmas.{inner_self, inner_then}
use Rattle.etc_farm.proofs.StageLemmas.{can_put_clean}

pub one_name : (x q : Name) → place x ≡ place q → x ≡ q
one_name x q same = sym (name_of_place x) ∙ ap name_of same ∙ name_of_place q

pub one_kind : (k l : ItemKind) → Some k ≡ Some l → k ≡ l
one_kind k l is = cc

pub puts_then : (puts more : List LeafPut) (w : WorldState) → with_puts (puts ++ more) w ≡ with_puts more (with_puts puts w)
puts_then [] more w = refl
puts_then (put ∷ puts) more w = puts_then puts more (with_leaf put.at put.leaf w)

-- ---- what stands at a place after some puts

pub record IsPutOf (P : LeafPut → Type 0) (p : Name) (leaf : Option LeafKind) : Type 0 where
  pub put : LeafPut
  pub is : P put
  pub there : put.at ≡ p
  pub stands : leaf ≡ Some put.leaf

module _ (P : LeafPut → Type 0) (p : Name) where
  pub puts_at : (puts : List LeafPut) → AllByRecursion P puts → (w : WorldState) →
      (get (with_puts puts w).leaves p ≡ get w.leaves p) ⊎ IsPutOf P p (get (with_puts puts w).leaves p)
  puts_at [] all w = inl refl
  puts_at (put ∷ puts) all w = ⊎_elim
      (λ before. elim (same_or_other p put.at) [
        | inl same ↦ inr (record { put = put; is = all.0; there = sym same; stands = before ∙ ap (get (with_leaf put.at put.leaf w).leaves) same ∙ at_same w.leaves put.at put.leaf })
        | inr other ↦ inl (before ∙ get_other w.leaves put.at p put.leaf other)
      ])
      (λ later. inr later)
      (puts_at puts all.1 (with_leaf put.at put.leaf w))

  -- where one of them is at the place, it stands there
  put_there : (puts : List LeafPut) → AllByRecursion P puts → (w : WorldState) → has (map (λ (put : LeafPut). put.at) puts) p ≡ true →
      IsPutOf P p (get (with_puts puts w).leaves p)
  put_there [] all w there = absurd (both_ways false refl there)
  put_there (put ∷ puts) all w there = elim (same_or_other p put.at) [
    | inl same ↦ ⊎_elim
        (λ before. record { put = put; is = all.0; there = sym same; stands = before ∙ ap (get (with_leaf put.at put.leaf w).leaves) same ∙ at_same w.leaves put.at put.leaf })
        (λ later. later)
        (puts_at puts all.1 (with_leaf put.at put.leaf w))
    | inr other ↦ put_there puts all.1 (with_leaf put.at put.leaf w) (sym (ap (λ b. b || has (map (λ (put : LeafPut). put.at) puts) p) other) ∙ there)
  ]

-- ---- the puts of entries

-- a put of an entry that isn't blocked
pub record IsEntryPut (items : List Item) (blocked : Name → Bool) (put : LeafPut) : Type 0 where
  pub name : Name
  pub kind : ItemKind
  pub is : put ≡ put_at (place name) (leaf_of name kind)
  pub known : entry items name ≡ Some kind
  pub free : blocked name ≡ false

all_from : (P : Item → Type 0) (list : List Item) → ((i : ℕ) (item : Item) → i < length list → item ≡ get_or list i item → P item) → AllByRecursion P list
all_from P [] holds = tt
all_from P (x ∷ list) holds = (holds 0 x (omega arith) refl, all_from P list (λ i item inside is. holds (suc i) item (omega arith) is))

module _ (items : List Item) (blocked : Name → Bool) (manifest : IsManifest items) where
  some_puts : (some : List Item) → AllByRecursion (λ (item : Item). entry items item.place ≡ Some item.kind) some →
      AllByRecursion (IsEntryPut items blocked) (map item_put (filter (λ (item : Item). not (blocked item.place)) some))
  some_puts [] all = tt
  some_puts (item ∷ some) all = by (blocked item.place) refl (some_puts some all.1)
    where
      by : (b : Bool) → blocked item.place ≡ b →
          AllByRecursion (IsEntryPut items blocked) (map item_put (filter (λ (x : Item). not (blocked x.place)) some)) →
          AllByRecursion (IsEntryPut items blocked) (map item_put (cond (not b) (item ∷ filter (λ (x : Item). not (blocked x.place)) some) (filter (λ (x : Item). not (blocked x.place)) some)))
      by true is rest = rest
      by false is rest = (record { name = item.place; kind = item.kind; is = refl; known = all.0; free = is }, rest)

  all_wanted : AllByRecursion (λ (item : Item). entry items item.place ≡ Some item.kind) items
  all_wanted = all_from (λ (item : Item). entry items item.place ≡ Some item.kind) items (λ i item inside is. entry_of_item items i item manifest inside is)

  pub all_entry_puts : AllByRecursion (IsEntryPut items blocked) (map item_put (filter (λ (item : Item). not (blocked item.place)) items))
  all_entry_puts = some_puts items all_wanted

  pub entry_puts_before : (i : ℕ) → AllByRecursion (IsEntryPut items blocked) (map item_put (filter (λ (item : Item). not (blocked item.place)) (take i items)))
  entry_puts_before i = some_puts (take i items) (all_take (λ (item : Item). entry items item.place ≡ Some item.kind) items i all_wanted)

pub known_by : (items : List Item) (q : Name) (kind : ItemKind) → entry items q ≡ Some kind → is_entry items q ≡ true
known_by items q kind wanted = sym (entry_is items q) ∙ ap (λ (o : Option ItemKind). is_some o) wanted

module _ (items : List Item) (blocked : List Name) where
  pub one_put : (put : LeafPut) → IsEntryPut items (has blocked) put → (v : WorldState) → CanPutEntries items blocked v →
      IsInnerMoment items v (with_leaf put.at put.leaf v) × CanPutEntries items blocked (with_leaf put.at put.leaf v)
  one_put put one v can =
      let q = one.name in let leaf = leaf_of one.name one.kind in let known = known_by items one.name one.kind one.known in
      subst (λ (p : LeafPut). IsInnerMoment items v (with_leaf p.at p.leaf v) × CanPutEntries items blocked (with_leaf p.at p.leaf v)) (sym one.is) (
        put_inner items blocked v can q leaf known one.free (with_leaf (place q) leaf v) (inr refl),
        put_can items blocked v can q leaf known one.free (with_leaf (place q) leaf v) refl,
      )

  -- they are put, and the others can be
  pub entries_after : (puts : List LeafPut) → AllByRecursion (IsEntryPut items (has blocked)) puts → (v : WorldState) → CanPutEntries items blocked v →
      IsInnerMoment items v (with_puts puts v) × CanPutEntries items blocked (with_puts puts v)
  entries_after [] all v can = (inner_self items v, can)
  entries_after (put ∷ puts) all v can =
      let one = one_put put all.0 v can in
      let rest = entries_after puts all.1 (with_leaf put.at put.leaf v) one.1 in
      (inner_then items v (with_leaf put.at put.leaf v) (with_puts puts (with_leaf put.at put.leaf v)) one.0 rest.0, rest.1)

  -- the next can be put
  pub next_can_put : (i : ℕ) (item : Item) → i < length items → item ≡ get_or items i item → has blocked item.place ≡ false →
      (w v : WorldState) → CanPutEntries items blocked w → seen v ≡ seen (with_puts (puts_but blocked (take i items)) w) → CanPut (place item.place) v
  next_can_put i item inside is free w v can before =
      let so_far = with_puts (puts_but blocked (take i items)) w in
      let there = (entries_after (puts_but blocked (take i items)) (entry_puts_before items (has blocked) can.manifest i) w can).1 in
      can_put items blocked v (entries_seen items blocked so_far v before there) item.place (leaf_of item.place item.kind) (known_item items i item can.manifest inside is) free

  -- and then the last clean list
  pub can_put_last : (w v : WorldState) → CanPutEntries items blocked w → seen v ≡ seen (with_puts (puts_but blocked items) w) → CanPut (place clean_name) v
  can_put_last w v can new =
      let there = (entries_after (puts_but blocked items) (all_entry_puts items (has blocked) can.manifest) w can).1 in
      can_put_clean v (entries_seen items blocked (with_puts (puts_but blocked items) w) v new there).way

  abbrev open_places : Item → List Item → Bool → List Name
  open_places item some b =
      map (λ (put : LeafPut). put.at) (map item_put (cond (not b) (item ∷ filter (λ (x : Item). not (has blocked x.place)) some) (filter (λ (x : Item). not (has blocked x.place)) some)))

  open_there : (some : List Item) (q : Name) → has (places some) q ≡ true → has blocked q ≡ false → has (map (λ (put : LeafPut). put.at) (puts_but blocked some)) (place q) ≡ true
  open_there [] q there free = absurd (both_ways false refl there)
  open_there (item ∷ some) q there free = by (has blocked item.place) refl (λ among. open_there some q among free)
    where
      by : (b : Bool) → has blocked item.place ≡ b → (has (places some) q ≡ true → has (open_places item some true) (place q) ≡ true) → has (open_places item some b) (place q) ≡ true
      by true is rest = elim (same_or_other q item.place) [
        | inl same ↦ absurd (both_ways _ free (ap (has blocked) same ∙ is))
        | inr other ↦ rest (sym (ap (λ b. b || has (places some) q) other) ∙ there)
      ]
      by false is rest = elim (same_or_other q item.place) [
        | inl same ↦ or_left (is_name (place q) (place item.place)) (has (open_places item some true) (place q)) (ap (λ (y : Name). is_name (place y) (place item.place)) same ∙ itself (place item.place))
        | inr other ↦ or_right (is_name (place q) (place item.place)) (has (open_places item some true) (place q)) (rest (sym (ap (λ b. b || has (places some) q) other) ∙ there))
      ]

  -- each has its leaf then
  pub are_put : (v : WorldState) → CanPutEntries items blocked v → ArePut items (with_puts (puts_but blocked items) v).leaves
  are_put v can q kind wanted unblocked =
      let known = known_by items q kind wanted in
      let puts = all_entry_puts items (has blocked) can.manifest in
      let free = (entries_after (puts_but blocked items) puts v can).1.blocked_are q known ∙ unblocked in
      let one = put_there (IsEntryPut items (has blocked)) (place q) (puts_but blocked items) puts v (open_there items q known free) in
      let name = one_name one.is.name q (sym (ap (λ (put : LeafPut). put.at) one.is.is) ∙ one.there) in
      let kinds = one_kind one.is.kind kind (sym one.is.known ∙ ap (entry items) name ∙ wanted) in
      one.stands ∙ ap (λ (put : LeafPut). Some put.leaf) one.is.is ∙ (λ i. Some (leaf_of (name i) (kinds i)))
