-- What is foreign, what is blocked and what is placed.
use Rattle.std.proofs.Common.{◌≡◌, ◌&&◌, ◌||◌, not, Bool, true, false, cond, List, [], ◌∷◌, map, filter, Option, None, Some, is_some, option_map, refl, sym, ap, ◌∙◌, inl, inr}
use Rattle.std.proofs.lemmas.Bool.{and_parts, both_ways, cases_Bool, or_right, and_from}
use Rattle.std.proofs.lemmas.List.Elements.{filter_agree}
use Rattle.std.specs.List.{find}
use Rattle.std.specs.Cmp.{both_ways as same_test}
use Rattle.switch_names.specs.Names.{Name, has, is_name}
use Rattle.host_trait.specs.declared.leaf.LeafKind.{LeafKind}
use Rattle.host_trait.specs.World.{Leaves, is_in_line}
use Rattle.host_trait.proofs.NameOrder.{passes_among}
use Rattle.etc_manifest.specs.declared.item.Item.{Item}
use Rattle.etc_manifest.specs.Manifest.{entry, places}
use Rattle.etc_manifest.specs.Place.{is_reserved}
use Rattle.etc_clean.specs.Names.{etc_names}
use Rattle.etc_clean.specs.CleanList.{clean_of}
use Rattle.etc_clean.specs.Farm.{at, is_blocked, is_entry, is_farm_link, is_foreign, is_gone, is_made, is_ours, is_stray, placed}
use Rattle.etc_clean.proofs.NameLemmas.{has_etc_name, some_passes}

-- ---- the tests of a stray leaf, as tests alone

foreign_parts_of : (some reserved known ours : Bool) → ((some && (not reserved && not known)) && not ours) ≡ true → (some ≡ true) × (reserved ≡ false) × (known ≡ false)
foreign_parts_of true false false ours is = (refl, refl, refl)
foreign_parts_of true false true ours is = absurd (both_ways false refl is)
foreign_parts_of true true known ours is = absurd (both_ways false refl is)
foreign_parts_of false reserved known ours is = absurd (both_ways false refl is)

pub none_at_reserved : (some reserved known ours : Bool) → reserved ≡ true → ((some && (not reserved && not known)) && ours) ≡ false
none_at_reserved true true known ours is = refl
none_at_reserved true false known ours is = absurd (both_ways false refl is)
none_at_reserved false reserved known ours is = refl

pub none_at_known : (some reserved known ours : Bool) → known ≡ true → ((some && (not reserved && not known)) && ours) ≡ false
none_at_known true true known ours is = refl
none_at_known true false true ours is = refl
none_at_known true false false ours is = absurd (both_ways false refl is)
none_at_known false reserved known ours is = refl

pub none_at_none : (some reserved known ours : Bool) → some ≡ false → ((some && (not reserved && not known)) && ours) ≡ false
none_at_none true reserved known ours is = absurd (both_ways true is refl)
none_at_none false reserved known ours is = refl

-- a leaf that is neither reserved nor an entry's stays where it is foreign
stays_of :
    (leaf : Option LeafKind) (reserved known ours : Bool) → reserved ≡ false → known ≡ false →
    cond ((is_some leaf && (not reserved && not known)) && ours) None leaf ≡ cond ((is_some leaf && (not reserved && not known)) && not ours) leaf None
stays_of None reserved known ours free new = refl
stays_of (Some leaf) true known ours free new = absurd (both_ways true free refl)
stays_of (Some leaf) false true ours free new = absurd (both_ways true new refl)
stays_of (Some leaf) false false true free new = refl
stays_of (Some leaf) false false false free new = refl

-- where nothing is gone, a list that doesn't name a leaf that is left makes it foreign as well
relisted :
    (some reserved known link old : Bool) → ((some && (not reserved && not known)) && (link || old)) ≡ false →
    ((some && (not reserved && not known)) && not (link || false)) ≡ ((some && (not reserved && not known)) && not (link || old))
relisted true false false true old none = absurd (both_ways true none refl)
relisted true false false false true none = absurd (both_ways true none refl)
relisted true false false false false none = refl
relisted true false true link old none = refl
relisted true true known link old none = refl
relisted false reserved known link old none = refl

module _ (items : List Item) where
  pub foreign_parts : (leaves : Leaves) (q : Name) → is_foreign items leaves q ≡ true → (is_some (at leaves q) ≡ true) × (is_reserved q ≡ false) × (is_entry items q ≡ false)
  foreign_parts leaves q is = foreign_parts_of (is_some (at leaves q)) (is_reserved q) (is_entry items q) (is_ours (clean_of leaves) q (at leaves q)) is

  pub reserved_not_foreign : (leaves : Leaves) (q : Name) → is_reserved q ≡ true → is_foreign items leaves q ≡ false
  reserved_not_foreign leaves q is = none_at_reserved (is_some (at leaves q)) (is_reserved q) (is_entry items q) (not (is_ours (clean_of leaves) q (at leaves q))) is

  pub entry_not_foreign : (leaves : Leaves) (q : Name) → is_entry items q ≡ true → is_foreign items leaves q ≡ false
  entry_not_foreign leaves q is = none_at_known (is_some (at leaves q)) (is_reserved q) (is_entry items q) (not (is_ours (clean_of leaves) q (at leaves q))) is

  pub absent_not_foreign : (leaves : Leaves) (q : Name) → at leaves q ≡ None → is_foreign items leaves q ≡ false
  absent_not_foreign leaves q none =
      none_at_none (is_some (at leaves q)) (is_reserved q) (is_entry items q) (not (is_ours (clean_of leaves) q (at leaves q))) (ap (λ (o : Option LeafKind). is_some o) none)

  -- what is gone is another leaf than what is foreign
  pub gone_not_foreign : (leaves : Leaves) (q : Name) → is_gone items leaves q ≡ true → is_foreign items leaves q ≡ false
  gone_not_foreign leaves q is = not_both (is_stray items q (at leaves q)) (is_ours (clean_of leaves) q (at leaves q)) is
    where
      not_both : (stray ours : Bool) → stray && ours ≡ true → stray && not ours ≡ false
      not_both true true is = refl
      not_both true false is = absurd (both_ways false refl is)
      not_both false ours is = refl

  pub stays : (leaves : Leaves) (q : Name) → is_reserved q ≡ false → is_entry items q ≡ false → cond (is_gone items leaves q) None (at leaves q) ≡ cond (is_foreign items leaves q) (at leaves q) None
  stays leaves q free new = stays_of (at leaves q) (is_reserved q) (is_entry items q) (is_ours (clean_of leaves) q (at leaves q)) free new

  -- a leaf is as foreign as it was where the leaf and whether it is listed are as they were
  pub foreign_same : (w m : Leaves) (q : Name) → at m q ≡ at w q → has (clean_of m) q ≡ has (clean_of w) q → is_foreign items m q ≡ is_foreign items w q
  foreign_same w m q leaf listed =
      ap (λ (o : Option LeafKind). is_stray items q o && not (is_farm_link q o || has (clean_of m) q)) leaf
      ∙ ap (λ b. is_stray items q (at w q) && not (is_farm_link q (at w q) || b)) listed

  -- so it is where it isn't listed any more, and nothing was gone
  pub foreign_relisted : (w m : Leaves) (q : Name) → at m q ≡ at w q → has (clean_of m) q ≡ false → is_gone items w q ≡ false → is_foreign items m q ≡ is_foreign items w q
  foreign_relisted w m q leaf listed none =
      ap (λ (o : Option LeafKind). is_stray items q o && not (is_farm_link q o || has (clean_of m) q)) leaf
      ∙ ap (λ b. is_stray items q (at w q) && not (is_farm_link q (at w q) || b)) listed
      ∙ relisted (is_some (at w q)) (is_reserved q) (is_entry items q) (is_farm_link q (at w q)) (has (clean_of w) q) none

  -- ---- what is blocked

  pub blocked_from : (leaves : Leaves) (x : Name) → is_blocked items leaves x ≡ true → (p : Name) × (is_foreign items leaves p ≡ true) × (is_in_line p x ≡ true)
  unfolding is_blocked
  blocked_from leaves x is =
      let one = some_passes (λ p. is_foreign items leaves p && is_in_line p x) (etc_names leaves) is in
      let parts = and_parts (is_foreign items leaves one.0) (is_in_line one.0 x) one.1 in (one.0, parts.0, parts.1)

  pub blocked_to : (leaves : Leaves) (x p : Name) → is_foreign items leaves p ≡ true → is_in_line p x ≡ true → is_blocked items leaves x ≡ true
  unfolding is_blocked
  blocked_to leaves x p foreign line =
      passes_among (λ p. is_foreign items leaves p && is_in_line p x) (etc_names leaves) p
      (has_etc_name leaves p ∙ (foreign_parts leaves p foreign).0)
      (and_from (is_foreign items leaves p) (is_in_line p x) foreign line)

  -- what is blocked and what is placed follow from what is foreign
  module _ (w m : Leaves) (foreign : (q : Name) → is_foreign items m q ≡ is_foreign items w q) where
    pub blocked_kept : (x : Name) → is_blocked items m x ≡ is_blocked items w x
    blocked_kept x = same_test (is_blocked items m x) (is_blocked items w x)
        (λ is. let by = blocked_from m x is in blocked_to w x by.0 (sym (foreign by.0) ∙ by.1) by.2)
        (λ is. let by = blocked_from w x is in blocked_to m x by.0 (foreign by.0 ∙ by.1) by.2)

    pub placed_kept : placed items m ≡ placed items w
    placed_kept =
        ap (map (λ (item : Item). item.place))
        (filter_agree (λ (item : Item). is_made item.kind && not (is_blocked items m item.place)) (λ (item : Item). is_made item.kind && not (is_blocked items w item.place))
        (λ item. ap (λ b. is_made item.kind && not b) (blocked_kept item.place)) items)

-- ---- entries

module _ (item : Item) (items : List Item) (q : Name) where
  entry_by : (b : Bool) → is_some (entry items q) ≡ is_entry items q →
      is_some (option_map (λ (i : Item). i.kind) (cond b (Some item) (find (λ (i : Item). is_name q i.place) items))) ≡ (b || is_entry items q)
  entry_by true rest = refl
  entry_by false rest = rest

-- a name is an entry's where something is wanted there
pub entry_is : (items : List Item) (q : Name) → is_some (entry items q) ≡ is_entry items q
entry_is [] q = refl
entry_is (item ∷ items) q = entry_by item items q (is_name q item.place) (entry_is items q)

abbrev names_passing : (Item → Bool) → List Item → List Name
names_passing test items = map (λ (item : Item). item.place) (filter test items)

module _ (item : Item) (passing items : List Name) (q : Name) where
  passing_by : (passes : Bool) → (has passing q ≡ true → has items q ≡ true) → has (cond passes (item.place ∷ passing) passing) q ≡ true → (is_name q item.place || has items q) ≡ true
  passing_by true rest is = by (is_name q item.place) is
    where
      by : (b : Bool) → (b || has passing q) ≡ true → (b || has items q) ≡ true
      by true is = refl
      by false is = rest is
  passing_by false rest is = or_right (is_name q item.place) (has items q) (rest is)

map_cond : (b : Bool) (item : Item) (items : List Item) →
    map (λ (i : Item). i.place) (cond b (item ∷ items) items) ≡ cond b (item.place ∷ map (λ (i : Item). i.place) items) (map (λ (i : Item). i.place) items)
map_cond true item items = refl
map_cond false item items = refl

placed_among : (test : Item → Bool) (items : List Item) (q : Name) → has (names_passing test items) q ≡ true → is_entry items q ≡ true
placed_among test [] q is = absurd (both_ways false refl is)
placed_among test (item ∷ items) q is =
    passing_by item (names_passing test items) (places items) q (test item) (placed_among test items q)
    (sym (ap (λ (names : List Name). has names q) (map_cond (test item) item (filter test items))) ∙ is)

-- what is placed is an entry
pub placed_known : (items : List Item) (leaves : Leaves) (q : Name) → has (placed items leaves) q ≡ true → is_entry items q ≡ true
placed_known items leaves q is = placed_among (λ (item : Item). is_made item.kind && not (is_blocked items leaves item.place)) items q is

pub not_placed : (items : List Item) (leaves : Leaves) (q : Name) → is_entry items q ≡ false → has (placed items leaves) q ≡ false
not_placed items leaves q new = elim (cases_Bool (has (placed items leaves) q)) [
  | inl is ↦ absurd (both_ways _ new (placed_known items leaves q is))
  | inr none ↦ none
]
