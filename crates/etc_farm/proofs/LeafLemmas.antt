-- What stands at a name below etc at each moment of putting a farm.
use Rattle.std.proofs.Common.{◌≡◌, ◌≢◌, ◌⊎◌, ◌||◌, ℕ, zero, suc, true, false, List, [], ◌∷◌, ◌++◌, map, take, Option, None, Some, is_some, refl, sym, ap, subst, ◌∙◌, inl, inr, ⊎_elim}
use Rattle.std.proofs.lemmas.Bool.{both_ways, or_left, or_right}
use Rattle.std.specs.FinMap.{get}
use Rattle.std.specs.List.{AllByRecursion}
use Rattle.switch_names.specs.Names.{IsListOf, Name, has, is_name}
use Rattle.host_trait.specs.declared.leaf.LeafKind.{LeafKind}
use Rattle.host_trait.specs.declared.leaf.LeafKind.TheVariants.{Link}
use Rattle.host_trait.specs.World.{WorldState, stage, without_leaf}
use Rattle.host_trait.proofs.Places.{itself, same_or_other}
use Rattle.host_trait.proofs.Seen.{get_removed_here, get_removed_other, seen_at}
use Rattle.tree_put.specs.declared.leaf_put.LeafPut.{LeafPut}
use Rattle.tree_put.specs.Sequence.{put_at, with_puts, without_places}
use Rattle.tree_put.proofs.SequenceLemmas.{all_take}
use Rattle.etc_manifest.specs.declared.item.ItemKind.{ItemKind}
use Rattle.etc_manifest.specs.Manifest.{IsManifest, entry}
use Rattle.etc_clean.specs.CleanList.{clean_leaf, clean_name, clean_of}
use Rattle.etc_clean.specs.Etc.{Farm, leaf_of, static_name}
use Rattle.etc_clean.specs.Farm.{at, is_blocked, is_entry, is_gone, is_ours, placed}
use Rattle.etc_clean.specs.Names.{is_in_etc, place}
use Rattle.etc_clean.proofs.FarmLemmas.{none_at_known}
use Rattle.etc_clean.proofs.KeepsLemmas.{static_not_clean}
use Rattle.etc_clean.proofs.NameLemmas.{clean_reserved, place_in_etc, static_reserved}
use Rattle.etc_manifest.specs.Place.{is_reserved}
use Rattle.etc_farm.specs.Making.{EntryLeafLaw, FixedLinkLaw, IsAtStep, IsLeafAt, LeavesLaw, begun, cleared, entry_puts, last_puts}
use Rattle.etc_farm.specs.Making.IsAtStep.{Beginning, Clearing, Ending}
use Rattle.etc_farm.specs.Making.IsLeafAt.{Entry, FirstList, FixedLink, Gone, LastList, Old}
use Rattle.etc_farm.specs.Making.IsMaking.{Before, Since}
use Rattle.etc_farm.specs.Steps.{IsFirstNames, first_puts}
use Rattle.etc_farm.proofs.ClearLemmas.{reserved_not_gone}
use Rattle.etc_farm.proofs.EntryLemmas.{manifest_free}
use Rattle.etc_farm.proofs.PutLemmas.{IsEntryPut, IsPutOf, all_entry_puts, known_by, one_kind, one_name, puts_at}

-- ---- places

stage_elsewhere : is_in_etc stage ≡ false
unfolding stage is_in_etc
stage_elsewhere = refl

pub place_other : (q : Name) → place q ≢ stage
place_other q same = both_ways (is_in_etc stage) stage_elsewhere (ap is_in_etc (sym same) ∙ place_in_etc q)

pub placed_name : (names : List Name) (q : Name) → has (map place names) (place q) ≡ true → has names q ≡ true
placed_name [] q there = absurd (both_ways false refl there)
placed_name (x ∷ names) q there = elim (same_or_other (place q) (place x)) [
  | inl same ↦ or_left (is_name q x) (has names q) (ap (λ (y : Name). is_name y x) (one_name q x same) ∙ itself x)
  | inr other ↦ or_right (is_name q x) (has names q) (placed_name names q (sym (ap (λ b. b || has (map place names) (place q)) other) ∙ there))
]

-- ---- some removals

pub removals_at : (places : List Name) (n : ℕ) (w : WorldState) (p : Name) →
    (get (without_places (take n places) w).leaves p ≡ get w.leaves p) ⊎ ((has places p ≡ true) × (get (without_places (take n places) w).leaves p ≡ None))
removals_at [] zero w p = inl refl
removals_at [] (suc n) w p = inl refl
removals_at (at ∷ places) zero w p = inl refl
removals_at (at ∷ places) (suc n) w p = ⊎_elim
    (λ before. elim (same_or_other p at) [
      | inl same ↦ inr (or_left (is_name p at) (has places p) (ap (λ (y : Name). is_name y at) same ∙ itself at), before ∙ ap (get (without_leaf at w).leaves) same ∙ get_removed_here w.leaves at)
      | inr other ↦ inl (before ∙ get_removed_other w.leaves at p other)
    ])
    (λ gone. inr (or_right (is_name p at) (has places p) gone.0, gone.1))
    (removals_at places n (without_leaf at w) p)

pub all_removed_at : (places : List Name) (w : WorldState) (p : Name) →
    (get (without_places places w).leaves p ≡ get w.leaves p) ⊎ ((has places p ≡ true) × (get (without_places places w).leaves p ≡ None))
all_removed_at [] w p = inl refl
all_removed_at (at ∷ places) w p = ⊎_elim
    (λ before. elim (same_or_other p at) [
      | inl same ↦ inr (or_left (is_name p at) (has places p) (ap (λ (y : Name). is_name y at) same ∙ itself at), before ∙ ap (get (without_leaf at w).leaves) same ∙ get_removed_here w.leaves at)
      | inr other ↦ inl (before ∙ get_removed_other w.leaves at p other)
    ])
    (λ gone. inr (or_right (is_name p at) (has places p) gone.0, gone.1))
    (all_removed_at places (without_leaf at w) p)

-- ---- each step

all_and : (P : LeafPut → Type 0) (puts : List LeafPut) (one : LeafPut) → AllByRecursion P puts → P one → AllByRecursion P (puts ++ one ∷ [])
all_and P [] one all is = (is, tt)
all_and P (put ∷ puts) one all is = (all.0, all_and P puts one all.1 is)

all_weaker : (P Q : LeafPut → Type 0) → ((put : LeafPut) → P put → Q put) → (puts : List LeafPut) → AllByRecursion P puts → AllByRecursion Q puts
all_weaker P Q weaker [] all = tt
all_weaker P Q weaker (put ∷ puts) all = (weaker put all.0, all_weaker P Q weaker puts all.1)

module _ (farm : Farm) (manifest : IsManifest farm.items) (w : WorldState) (names gone : List Name) (names_are : IsFirstNames farm.items w.leaves names) (gone_are : IsListOf gone (λ q. is_gone farm.items w.leaves q ≡ true)) where
  -- a put whose leaf may stand at its name
  abbrev IsKnown : LeafPut → Type 0
  IsKnown put = (x : Name) × (put.at ≡ place x) × IsLeafAt farm w.leaves x (Some put.leaf)

  first_known : AllByRecursion IsKnown (first_puts names farm.target)
  first_known = (
    (clean_name, refl, FirstList refl names names_are refl),
    ((static_name, refl, FixedLink refl refl), tt),
  )

  entry_known : (put : LeafPut) → IsEntryPut farm.items (is_blocked farm.items w.leaves) put → IsKnown put
  entry_known put one = (
    one.name,
    ap (λ (x : LeafPut). x.at) one.is,
    Entry one.kind one.known one.free (ap (λ (x : LeafPut). Some x.leaf) one.is),
  )

  last_known : AllByRecursion IsKnown (last_puts farm.items w.leaves)
  last_known = all_and IsKnown (entry_puts farm.items w.leaves) (put_at (place clean_name) (clean_leaf (placed farm.items w.leaves)))
      (all_weaker (IsEntryPut farm.items (is_blocked farm.items w.leaves)) IsKnown entry_known (entry_puts farm.items w.leaves) (all_entry_puts farm.items (is_blocked farm.items w.leaves) manifest))
      (clean_name, refl, LastList refl refl)

  module _ (q : Name) where
    abbrev IsFine : Option LeafKind → Type 0
    IsFine leaf = IsLeafAt farm w.leaves q leaf

    fine_as : (leaf other : Option LeafKind) → leaf ≡ other → IsFine other → IsFine leaf
    fine_as leaf other is fine = subst IsFine (sym is) fine

    put_fine : (leaf before : Option LeafKind) → IsFine before → (leaf ≡ before) ⊎ IsPutOf IsKnown (place q) leaf → IsFine leaf
    put_fine leaf before fine step = ⊎_elim
        (λ same. fine_as leaf before same fine)
        (λ one.
        let x = one.is.0 in
        let same : x ≡ q = one_name x q (sym one.is.1 ∙ one.there) in
        fine_as leaf (Some one.put.leaf) one.stands (subst (λ (y : Name). IsLeafAt farm w.leaves y (Some one.put.leaf)) same one.is.2))
        step

    gone_fine : (leaf before : Option LeafKind) → IsFine before → (leaf ≡ before) ⊎ ((has (map place gone) (place q) ≡ true) × (leaf ≡ None)) → IsFine leaf
    gone_fine leaf before fine step = ⊎_elim
        (λ same. fine_as leaf before same fine)
        (λ now. Gone ((gone_are.exact q).0 (placed_name gone q now.0)) now.1)
        step

    begun_fine : IsFine (at (begun names farm.target w).leaves q)
    begun_fine = put_fine _ (at w.leaves q) (Old refl) (puts_at IsKnown (place q) (first_puts names farm.target) first_known w)

    cleared_fine : IsFine (at (cleared names farm.target gone w).leaves q)
    cleared_fine = gone_fine _ (at (begun names farm.target w).leaves q) begun_fine (all_removed_at (map place gone) (begun names farm.target w) (place q))

    pub step_fine : (m : WorldState) → IsAtStep farm names gone w m → IsFine (at m.leaves q)
    step_fine m (Beginning step) =
        fine_as _ _ (seen_at m (with_puts (take step.count (first_puts names farm.target)) w) step.world (place q) (place_other q))
        (put_fine _ (at w.leaves q) (Old refl) (puts_at IsKnown (place q) (take step.count (first_puts names farm.target)) (all_take IsKnown (first_puts names farm.target) step.count first_known) w))
    step_fine m (Clearing step) =
        fine_as _ _ (seen_at m (without_places (take step.count (map place gone)) (begun names farm.target w)) step.world (place q) (place_other q))
        (gone_fine _ (at (begun names farm.target w).leaves q) begun_fine (removals_at (map place gone) step.count (begun names farm.target w) (place q)))
    step_fine m (Ending step) =
        fine_as _ _ (seen_at m (with_puts (take step.count (last_puts farm.items w.leaves)) (cleared names farm.target gone w)) step.world (place q) (place_other q))
        (put_fine _ (at (cleared names farm.target gone w).leaves q) cleared_fine (puts_at IsKnown (place q) (take step.count (last_puts farm.items w.leaves)) (all_take IsKnown (last_puts farm.items w.leaves) step.count last_known) (cleared names farm.target gone w)))

pub leaves_law : LeavesLaw
leaves_law farm w m manifest (Before is) q = Old (ap (λ (x : WorldState). at x.leaves q) is)
leaves_law farm w m manifest (Since names gone names_are gone_are step) q = step_fine farm manifest w names gone names_are gone_are q m step

-- ---- entries, and the link at `static`

module _ (farm : Farm) (manifest : IsManifest farm.items) (w : WorldState) where
  entry_leaf : (q : Name) (kind : ItemKind) (leaf : Option LeafKind) → entry farm.items q ≡ Some kind → IsLeafAt farm w.leaves q leaf → (leaf ≡ at w.leaves q) ⊎ (leaf ≡ Some (leaf_of q kind))
  entry_leaf q kind leaf wanted fine =
      let known = known_by farm.items q kind wanted in
      let not_reserved : is_reserved q ≡ false = manifest_free farm.items manifest q known in
      by known not_reserved fine
    where
      by : is_entry farm.items q ≡ true → is_reserved q ≡ false → IsLeafAt farm w.leaves q leaf → (leaf ≡ at w.leaves q) ⊎ (leaf ≡ Some (leaf_of q kind))
      by known not_reserved (Old is) = inl is
      by known not_reserved (FixedLink same is) = absurd (both_ways _ not_reserved (ap is_reserved same ∙ static_reserved))
      by known not_reserved (FirstList same names names_are is) = absurd (both_ways _ not_reserved (ap is_reserved same ∙ clean_reserved))
      by known not_reserved (LastList same is) = absurd (both_ways _ not_reserved (ap is_reserved same ∙ clean_reserved))
      by known not_reserved (Gone gone is) =
          absurd (both_ways _ (none_at_known (is_some (at w.leaves q)) (is_reserved q) (is_entry farm.items q) (is_ours (clean_of w.leaves) q (at w.leaves q)) known) gone)
      by known not_reserved (Entry other is_other free is) = inr (is ∙ ap (λ (k : ItemKind). Some (leaf_of q k)) (one_kind other kind (sym is_other ∙ wanted)))

  static_leaf : (leaf : Option LeafKind) → IsLeafAt farm w.leaves static_name leaf → (leaf ≡ at w.leaves static_name) ⊎ (leaf ≡ Some (Link farm.target))
  static_leaf leaf (Old is) = inl is
  static_leaf leaf (FixedLink same is) = inr is
  static_leaf leaf (FirstList same names names_are is) = absurd (static_not_clean same)
  static_leaf leaf (LastList same is) = absurd (static_not_clean same)
  static_leaf leaf (Gone gone is) = absurd (both_ways _ (reserved_not_gone farm.items w.leaves static_name static_reserved) gone)
  static_leaf leaf (Entry kind is_kind free is) =
      absurd (both_ways _ (manifest_free farm.items manifest static_name (known_by farm.items static_name kind is_kind)) static_reserved)

pub entry_leaf_law : EntryLeafLaw
entry_leaf_law farm w m manifest making q kind wanted = entry_leaf farm manifest w q kind (at m.leaves q) wanted (leaves_law farm w m manifest making q)

pub fixed_link_law : FixedLinkLaw
fixed_link_law farm w m manifest making = static_leaf farm manifest w (at m.leaves static_name) (leaves_law farm w m manifest making static_name)
