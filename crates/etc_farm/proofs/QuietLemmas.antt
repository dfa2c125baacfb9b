-- Putting a farm writes no leaf that stands, and each place at most once for each leaf that it gets.
use Rattle.std.proofs.Common.{◌≡◌, ◌+◌, ◌||◌, not, ℕ, Bool, true, false, cond, List, [], ◌∷◌, ◌++◌, map, Option, None, Some, is_some, refl, sym, ap, subst, ◌∙◌, arith}
use Rattle.std.proofs.lemmas.Bool.{and_parts, both_ways, false_from_ne_true, not-true, or_parts}
use Rattle.std.proofs.lemmas.List.Kept.{IsStrictlySortedBy-filter}
use Rattle.std.specs.FinMap.{get}
use Rattle.std.specs.List.Sorted.{IsStrictlySortedBy}
use Rattle.switch_names.specs.Names.{Name, has, is_name}
use Rattle.host_trait.specs.declared.leaf.LeafKind.{LeafKind}
use Rattle.host_trait.specs.declared.leaf.LeafKind.TheVariants.{Link}
use Rattle.host_trait.specs.World.{WorldState, bytes_cmp, seen, with_leaf}
use Rattle.host_trait.proofs.NameOrder.{has_filter, name_exact}
use Rattle.host_trait.proofs.Places.{at_same, itself, some_of}
use Rattle.host_trait.proofs.Seen.{other_of}
use Rattle.tree_put.specs.Put.{IsPutIfOther, written_if}
use Rattle.tree_put.specs.Sequence.{AreWritten}
use Rattle.switch_parts.specs.Part.{final_leaf}
use Rattle.switch_parts.specs.Quiet.{IsQuiet, IsQuietAt, times}
use Rattle.switch_parts.proofs.QuietLemmas.{IsStill, quiet_as, quiet_never, still_put, times_append, times_never}
use Rattle.etc_manifest.specs.declared.item.Item.{Item}
use Rattle.etc_manifest.specs.declared.item.ItemKind.{ItemKind}
use Rattle.etc_manifest.specs.Manifest.{IsManifest, entry, places}
use Rattle.etc_manifest.specs.Place.{is_reserved}
use Rattle.etc_clean.specs.declared.sorting.Sorted.{Sorted}
use Rattle.etc_clean.specs.CleanList.{clean_leaf, clean_name, clean_of}
use Rattle.etc_clean.specs.Etc.{Farm, at_entry, etc, leaf_of, static_name}
use Rattle.etc_clean.specs.Farm.{at, is_entry, is_gone, is_ours, is_stray, placed}
use Rattle.etc_clean.specs.Keeps.{AreFree}
use Rattle.etc_clean.specs.Names.{name_of, place}
use Rattle.etc_clean.specs.Standing.{is_leaf_of}
use Rattle.etc_clean.proofs.FarmLemmas.{entry_is}
use Rattle.etc_clean.proofs.KeepsLemmas.{clean_owned, inserted, owned_name, static_not_clean, static_owned}
use Rattle.etc_clean.proofs.NameLemmas.{clean_reserved, not_reserved_other, place_same, static_reserved}
use Rattle.etc_clean.proofs.SearchLemmas.{none_wanted}
use Rattle.etc_clean.proofs.StandingLemmas.{told_same}
use Rattle.etc_farm.specs.FarmPart.{CanApply, farm_part, owns_farm}
use Rattle.etc_farm.specs.Making.{begun, cleared}
use Rattle.etc_farm.specs.Steps.{IsFirstNames, first_puts}
use Rattle.etc_farm.specs.Lists.{first_list}
use Rattle.etc_farm.specs.Written.{list_first, open_names}
use Rattle.etc_farm.proofs.EntryLemmas.{at_seen, manifest_free}
use Rattle.etc_farm.proofs.OrderLemmas.{first_is}
use Rattle.etc_farm.proofs.PlaceLemmas.{name_of_place, owned_place}
use Rattle.etc_farm.proofs.RemovalLemmas.{gone_parts_of}
use Rattle.etc_farm.proofs.StageLemmas.{blocked_are}
use Rattle.etc_farm.proofs.StandingLemmas.{without_other}
use Rattle.etc_farm.proofs.TimesLemmas.{among_place, never_among, once_among, once_written, other_unwritten, standing_unput}

-- ---- the places of a farm

module _ (farm : Farm) (manifest : IsManifest farm.items) (found : Sorted) (w : WorldState) (can : CanApply farm found w) where
  abbrev items : List Item
  items = farm.items

  abbrev last : LeafKind
  last = clean_leaf (placed items w.leaves)

  abbrev opened : List Name
  opened = open_names found.blocked found.standing items

  free : AreFree items
  free = manifest_free items manifest

  -- what is gone stood, and is neither reserved nor an entry
  record IsGoneName (x : Name) : Type 0 where
    pub stood : is_some (at w.leaves x) ≡ true
    pub free : is_reserved x ≡ false
    pub new : is_entry items x ≡ false
    pub gone : is_gone items w.leaves x ≡ true

  gone_name : (x : Name) → has found.gone x ≡ true → IsGoneName x
  gone_name x there =
      let gone = (can.sorted.gone.exact x).0 there in
      let parts = gone_parts_of (is_some (at w.leaves x)) (is_reserved x) (is_entry items x) (is_ours (clean_of w.leaves) x (at w.leaves x)) gone in
      record {
        stood = (and_parts (is_some (at w.leaves x)) _ (and_parts (is_stray items x (at w.leaves x)) (is_ours (clean_of w.leaves) x (at w.leaves x)) gone).0).0;
        free = parts.0;
        new = parts.1;
        gone = gone;
      }

  -- an entry that is put is neither blocked nor stands
  record IsOpenName (x : Name) : Type 0 where
    pub known : is_entry items x ≡ true
    pub unblocked : has found.blocked x ≡ false
    pub other : has found.standing x ≡ false

  open_name : (x : Name) → has opened x ≡ true → IsOpenName x
  open_name x there =
      let parts = and_parts (not (has found.blocked x || has found.standing x)) (has (places items) x)
      (sym (has_filter (λ name. not (has found.blocked name || has found.standing name)) (places items) x) ∙ there) in
      let neither = or_parts (has found.blocked x) (has found.standing x) (not-true (has found.blocked x || has found.standing x) parts.0) in
      record { known = parts.1; unblocked = neither.0; other = neither.1 }

  opened_sorted : IsStrictlySortedBy bytes_cmp opened
  opened_sorted = IsStrictlySortedBy-filter bytes_cmp (λ name. not (has found.blocked name || has found.standing name)) (places items) manifest.sorted

  reserved_not_gone : (x : Name) → is_reserved x ≡ true → has found.gone x ≡ false
  reserved_not_gone x reserved = false_from_ne_true (has found.gone x) (λ there. both_ways _ (gone_name x there).free reserved)

  reserved_not_open : (x : Name) → is_reserved x ≡ true → has opened x ≡ false
  reserved_not_open x reserved = false_from_ne_true (has opened x) (λ there. both_ways _ (free x (open_name x there).known) reserved)

  -- ---- the end at each of them

  other_name : (x y : Name) → is_reserved x ≡ false → is_reserved y ≡ true → is_name x y ≡ false
  other_name x y unreserved reserved = other_of x y (not_reserved_other x y unreserved reserved)

  abbrev end_by : Name → Bool → Bool → Bool → Option LeafKind
  end_by x s c r = cond s (Some (Link farm.target)) (cond c (Some last) (cond r (at w.leaves x) (at_entry items w.leaves x (entry items x))))

  end_static : etc farm w.leaves static_name ≡ Some (Link farm.target)
  end_static = ap (λ b. end_by static_name b (is_name static_name clean_name) (is_reserved static_name)) (itself static_name)

  clean_not_static : is_name clean_name static_name ≡ false
  clean_not_static = other_of clean_name static_name (λ same. static_not_clean (sym same))

  end_clean : etc farm w.leaves clean_name ≡ Some last
  end_clean =
      ap (λ b. end_by clean_name b (is_name clean_name clean_name) (is_reserved clean_name)) clean_not_static
      ∙ ap (λ b. end_by clean_name false b (is_reserved clean_name)) (itself clean_name)

  end_entry : (x : Name) → is_reserved x ≡ false → etc farm w.leaves x ≡ at_entry items w.leaves x (entry items x)
  end_entry x unreserved =
      ap (λ b. end_by x b (is_name x clean_name) (is_reserved x)) (other_name x static_name unreserved static_reserved)
      ∙ ap (λ b. end_by x false b (is_reserved x)) (other_name x clean_name unreserved clean_reserved)
      ∙ ap (λ b. end_by x false false b) unreserved

  abbrev final : Name → Option LeafKind
  final q = final_leaf (farm_part farm) w.leaves q

  final_at : (x : Name) → owns_farm (place x) ≡ true → final (place x) ≡ etc farm w.leaves x
  final_at x own =
      ap (λ b. cond b (etc farm w.leaves (name_of (place x))) (at w.leaves x)) own
      ∙ ap (λ (y : Name). etc farm w.leaves y) (name_of_place x)

  -- what is gone has none
  end_gone : (x : Name) → IsGoneName x → final (place x) ≡ None
  end_gone x is =
      final_at x (owned_place x (owned_name x is.free)) ∙ end_entry x is.free
      ∙ ap (at_entry items w.leaves x) (none_wanted (entry items x) (entry_is items x ∙ is.new))
      ∙ ap (λ b. cond b None (at w.leaves x)) is.gone

  -- an entry that is put has its leaf
  end_open : (x : Name) (kind : ItemKind) → IsOpenName x → entry items x ≡ Some kind → final (place x) ≡ Some (leaf_of x kind)
  end_open x kind is wanted =
      let unreserved = free x is.known in
      final_at x (owned_place x (owned_name x unreserved)) ∙ end_entry x unreserved
      ∙ ap (at_entry items w.leaves x) wanted
      ∙ ap (λ b. cond b (at w.leaves x) (Some (leaf_of x kind))) (sym (blocked_are farm manifest found w can x is.known) ∙ is.unblocked)

  kind_of : (x : Name) → IsOpenName x → (kind : ItemKind) × (entry items x ≡ Some kind)
  kind_of x is = some_of (entry items x) (entry_is items x ∙ is.known)

  -- and didn't stand there
  not_standing : (x : Name) (kind : ItemKind) → IsOpenName x → entry items x ≡ Some kind → Some (leaf_of x kind) ≡ at w.leaves x → ⊥
  not_standing x kind is wanted stood =
      both_ways (has found.standing x) is.other
      ((can.sorted.standing.exact x).1
      (ap (λ o. is_leaf_of x o (at w.leaves x)) wanted ∙ ap (λ o. is_leaf_of x (Some kind) o) (sym stood)
      ∙ sym (told_same true (leaf_of x kind) (leaf_of x kind) (leaf_of x kind) ((λ same. refl), (λ same. refl)) refl)))

  -- ---- each place is written quietly

  module _ (names : List Name) (names_are : IsFirstNames items w.leaves names) (first : List Name) (firsts : AreWritten (first_puts names farm.target) w first)
      (put : Bool) (z : WorldState) (lasts : IsPutIfOther (place clean_name) last put z) (listed : at z.leaves clean_name ≡ Some (clean_leaf names)) where
    abbrev count : Name → ℕ
    count q = times q first + (times q (map place found.gone) + (times q (map place opened) + times q (written_if put (place clean_name))))

    abbrev IsQuietPlace : Name → Type 0
    IsQuietPlace q = IsQuietAt (list_first items w.leaves q) (final q) (get w.leaves q) (count q)

    abbrev first_leaves : Bool → Bool → List LeafKind
    first_leaves c s = cond c (clean_leaf names ∷ cond s (Link farm.target ∷ []) []) (cond s (Link farm.target ∷ []) [])

    still_first : (q : Name) (c s : Bool) → is_name q (place clean_name) ≡ c → is_name q (place static_name) ≡ s → IsStill (first_leaves c s) (get w.leaves q) (times q first)
    still_first q c s is_c is_s =
        subst (λ leaves. IsStill leaves (get w.leaves q) (times q first)) (λ i. first_leaves (is_c i) (is_s i)) (still_put (first_puts names farm.target) w first firsts q)

    way_elsewhere : (q : Name) → is_name q (place clean_name) ≡ false → list_first items w.leaves q ≡ []
    way_elsewhere q other = ap (λ b. cond b (first_list items w.leaves ∷ []) []) other

    at_clean : IsQuietPlace (place clean_name)
    at_clean =
        let q = place clean_name in
        let is_first = first_is items w.leaves names names_are in
        let still = still_first q true false (itself q) (place_same clean_name static_name ∙ clean_not_static) in
        let often = still.often in
        let gone = never_among found.gone clean_name (reserved_not_gone clean_name clean_reserved) in
        let entries = never_among opened clean_name (reserved_not_open clean_name clean_reserved) in
        let once = once_written q q put in
        quiet_as (sym (ap (λ b. cond b (first_list items w.leaves ∷ []) []) (itself q))) (sym (final_at clean_name (owned_place clean_name clean_owned) ∙ end_clean)) refl refl
        (record {
          often = omega (arith, often, gone, entries, once);
          still = λ same all.
              let none = still.still (ap (λ leaf. Some leaf) is_first ∙ all.0, tt) in
              let unput = standing_unput q q last put z lasts (listed ∙ ap (λ leaf. Some leaf) is_first ∙ all.0 ∙ sym same) in
              omega (arith, none, gone, entries, unput);
        })

    at_static : IsQuietPlace (place static_name)
    at_static =
        let q = place static_name in
        let other = place_same static_name clean_name ∙ other_of static_name clean_name static_not_clean in
        let still = still_first q false true other (itself q) in
        let often = still.often in
        let gone = never_among found.gone static_name (reserved_not_gone static_name static_reserved) in
        let entries = never_among opened static_name (reserved_not_open static_name static_reserved) in
        let unput = other_unwritten q (place clean_name) put other in
        quiet_as (sym (way_elsewhere q other)) (sym (final_at static_name (owned_place static_name static_owned) ∙ end_static)) refl refl
        (record {
          often = omega (arith, often, gone, entries, unput);
          still = λ same all. let none = still.still (same, tt) in omega (arith, none, gone, entries, unput);
        })

    module _ (x : Name) (unreserved : is_reserved x ≡ false) where
      not_clean : is_name (place x) (place clean_name) ≡ false
      not_clean = place_same x clean_name ∙ other_name x clean_name unreserved clean_reserved

      not_static : is_name (place x) (place static_name) ≡ false
      not_static = place_same x static_name ∙ other_name x static_name unreserved static_reserved

      not_first : times (place x) first ≡ 0
      not_first = (still_first (place x) false false not_clean not_static).still tt

    at_gone : (x : Name) → has found.gone x ≡ true → IsQuietPlace (place x)
    at_gone x there =
        let is = gone_name x there in
        let none = not_first x is.free in
        let once = once_among found.gone x can.sorted.gone.sorted in
        let entries = never_among opened x (false_from_ne_true (has opened x) (λ also. both_ways _ is.new (open_name x also).known)) in
        let unput = other_unwritten (place x) (place clean_name) put (not_clean x is.free) in
        quiet_as (sym (way_elsewhere (place x) (not_clean x is.free))) (sym (end_gone x is)) refl refl
        (record {
          often = omega (arith, none, once, entries, unput);
          still = λ same all. absurd (both_ways (is_some (at w.leaves x)) (sym (ap (λ (o : Option LeafKind). is_some o) same)) is.stood);
        })

    at_open : (x : Name) → has opened x ≡ true → IsQuietPlace (place x)
    at_open x there =
        let is = open_name x there in
        let unreserved = free x is.known in
        let kind = kind_of x is in
        let none = not_first x unreserved in
        let once = once_among opened x opened_sorted in
        let gone = never_among found.gone x (false_from_ne_true (has found.gone x) (λ also. both_ways _ (gone_name x also).new is.known)) in
        let unput = other_unwritten (place x) (place clean_name) put (not_clean x unreserved) in
        quiet_as (sym (way_elsewhere (place x) (not_clean x unreserved))) (sym (end_open x kind.0 is kind.1)) refl refl
        (record {
          often = omega (arith, none, once, gone, unput);
          still = λ same all. absurd (not_standing x kind.0 is kind.1 same);
        })

    at_none : (q : Name) → is_name q (place clean_name) ≡ false → is_name q (place static_name) ≡ false → has (map place found.gone) q ≡ false → has (map place opened) q ≡ false → IsQuietPlace q
    at_none q clean static gone entries =
        let none = (still_first q false false clean static).still tt in
        let removed = times_never q (map place found.gone) gone in
        let unopened = times_never q (map place opened) entries in
        let unput = other_unwritten q (place clean_name) put clean in
        let all : count q ≡ 0 = omega (arith, none, removed, unopened, unput) in
        subst (IsQuietAt (list_first items w.leaves q) (final q) (get w.leaves q)) (sym all) (quiet_never (list_first items w.leaves q) (final q) (get w.leaves q))

    each_quiet : (q : Name) → IsQuietPlace q
    each_quiet q = by (is_name q (place clean_name)) (is_name q (place static_name)) (has (map place found.gone) q) (has (map place opened) q) refl refl refl refl
      where
        by : (c s g o : Bool) → is_name q (place clean_name) ≡ c → is_name q (place static_name) ≡ s → has (map place found.gone) q ≡ g → has (map place opened) q ≡ o → IsQuietPlace q
        by true s g o is_c is_s is_g is_o = subst IsQuietPlace (sym (name_exact q (place clean_name) is_c)) at_clean
        by false true g o is_c is_s is_g is_o = subst IsQuietPlace (sym (name_exact q (place static_name) is_s)) at_static
        by false false true o is_c is_s is_g is_o = let x = among_place found.gone q is_g in subst IsQuietPlace (sym x.1) (at_gone x.0 x.2)
        by false false false true is_c is_s is_g is_o = let x = among_place opened q is_o in subst IsQuietPlace (sym x.1) (at_open x.0 x.2)
        by false false false false is_c is_s is_g is_o = at_none q is_c is_s is_g is_o

    pub farm_quiet : (v : WorldState) → v.written ≡ w.written ++ ((first ++ map place found.gone) ++ (map place opened ++ written_if put (place clean_name))) →
        IsQuiet (list_first items) (final_leaf (farm_part farm)) w v
    farm_quiet v written = record {
      places = (first ++ map place found.gone) ++ (map place opened ++ written_if put (place clean_name));
      written = written;
      quiet = λ q.
          let one = times_append q (first ++ map place found.gone) (map place opened ++ written_if put (place clean_name)) in
          let two = times_append q first (map place found.gone) in
          let three = times_append q (map place opened) (written_if put (place clean_name)) in
          subst (IsQuietAt (list_first items w.leaves q) (final q) (get w.leaves q)) (omega (arith, one, two, three)) (each_quiet q);
    }

  -- the first clean list stands once what is gone has been removed
  pub list_there : (names : List Name) (u : WorldState) → seen u ≡ seen (cleared names farm.target found.gone w) → at u.leaves clean_name ≡ Some (clean_leaf names)
  list_there names u before =
      at_seen (cleared names farm.target found.gone w) u clean_name clean_owned before
      ∙ without_other found.gone (begun names farm.target w) clean_name (reserved_not_gone clean_name clean_reserved)
      ∙ (inserted (with_leaf (place clean_name) (clean_leaf names) w).leaves static_name (Link farm.target)).others clean_name (λ same. static_not_clean (sym same))
      ∙ at_same w.leaves (place clean_name) (clean_leaf names)
