-- What is gone while a farm is put, and that an entry's place is clear once nothing is.
use Rattle.std.proofs.Common.{◌≡◌, ◌≢◌, ◌&&◌, ◌||◌, not, Bool, true, false, List, ◌∷◌, Option, None, Some, is_some, refl, sym, ap, subst, ◌∙◌, inl, inr, ⊎_elim}
use Rattle.std.proofs.lemmas.Bool.{both_ways, false_from_ne_true}
use Rattle.std.specs.FinMap.{get, insert, remove}
use Rattle.switch_names.specs.Names.{Name, has}
use Rattle.switch_names.specs.Path.{is_below}
use Rattle.host_trait.specs.declared.leaf.LeafKind.{LeafKind}
use Rattle.host_trait.specs.World.{IsClear, Leaves, is_in_line}
use Rattle.host_trait.proofs.Places.{same_or_other}
use Rattle.host_trait.proofs.Seen.{other_of, get_removed_here}
use Rattle.etc_manifest.specs.declared.item.Item.{Item}
use Rattle.etc_manifest.specs.Manifest.{AreApart, places}
use Rattle.etc_manifest.specs.Place.{is_reserved}
use Rattle.etc_clean.specs.CleanList.{clean_leaf, clean_name, clean_of}
use Rattle.etc_clean.specs.Etc.{static_name}
use Rattle.etc_clean.specs.Farm.{at, is_blocked, is_entry, is_farm_link, is_gone, is_ours, is_stray}
use Rattle.etc_clean.specs.Keeps.{AreFree, IsFirstList, IsLastList}
use Rattle.etc_clean.specs.Names.{etc_folder, name_of, place}
use Rattle.etc_clean.proofs.FarmLemmas.{blocked_to, none_at_known, none_at_none, none_at_reserved, not_placed}
use Rattle.etc_clean.proofs.KeepsLemmas.{IsAllBut, inserted, listed_there, other_name, removed, static_not_clean}
use Rattle.etc_clean.proofs.NameLemmas.{clean_reserved, in_etc, not_reserved_other, static_reserved}
use Rattle.etc_farm.specs.Steps.{IsNoneGone}
use Rattle.etc_farm.proofs.FarmMoment.{AreGone}
use Rattle.etc_farm.proofs.LineLemmas.{line_in_etc, line_place, line_reserved}
use Rattle.etc_farm.proofs.PlaceLemmas.{IsWayFree}

folder_line : is_in_line etc_folder (place clean_name) ≡ true
unfolding etc_folder place clean_name
folder_line = refl

or_none : (a : Bool) → a || false ≡ a
or_none true = refl
or_none false = refl

line_or : (a b : Bool) → a || b ≡ true → a ≡ false → b ≡ false → ⊥
line_or a b is first second = both_ways _ (ap (λ z. z || b) first ∙ second) is

unlisted : (stray link old : Bool) → stray && (link || old) ≡ false → stray && (link || false) ≡ false
unlisted true true old none = absurd (both_ways true none refl)
unlisted true false old none = refl
unlisted false link old none = refl

module _ (items : List Item) where
  pub reserved_not_gone : (leaves : Leaves) (q : Name) → is_reserved q ≡ true → is_gone items leaves q ≡ false
  reserved_not_gone leaves q is = none_at_reserved (is_some (at leaves q)) (is_reserved q) (is_entry items q) (is_ours (clean_of leaves) q (at leaves q)) is

  entry_not_gone : (leaves : Leaves) (q : Name) → is_entry items q ≡ true → is_gone items leaves q ≡ false
  entry_not_gone leaves q is = none_at_known (is_some (at leaves q)) (is_reserved q) (is_entry items q) (is_ours (clean_of leaves) q (at leaves q)) is

  absent_not_gone : (leaves : Leaves) (q : Name) → at leaves q ≡ None → is_gone items leaves q ≡ false
  absent_not_gone leaves q none =
      none_at_none (is_some (at leaves q)) (is_reserved q) (is_entry items q) (is_ours (clean_of leaves) q (at leaves q)) (ap (λ (o : Option LeafKind). is_some o) none)

  pub gone_same : (w m : Leaves) (q : Name) → at m q ≡ at w q → has (clean_of m) q ≡ has (clean_of w) q → is_gone items m q ≡ is_gone items w q
  gone_same w m q leaf listed =
      ap (λ (o : Option LeafKind). is_stray items q o && (is_farm_link q o || has (clean_of m) q)) leaf
      ∙ ap (λ b. is_stray items q (at w q) && (is_farm_link q (at w q) || b)) listed

  -- what is gone elsewhere is gone still, and nothing else
  gone_beside : (w m : Leaves) (x : Name) → IsAllBut x w m → x ≢ clean_name → is_gone items m x ≡ false → (q : Name) → is_gone items m q ≡ true → (is_gone items w q ≡ true) × (q ≢ x)
  gone_beside w m x but ne none q gone = elim (same_or_other q x) [
    | inl same ↦ absurd (both_ways _ none (subst (λ y. is_gone items m y ≡ true) same gone))
    | inr other ↦
        let differ = other_name q x other in
        (sym (gone_same w m q (but.others q differ) (ap (λ (names : List Name). has names q) (but.clean ne))) ∙ gone, differ)
  ]

  -- no more is gone once the first list is put
  pub gone_first : (w : Leaves) (names list : List Name) → IsFirstList items w list → AreGone items names w → AreGone items names (insert w (place clean_name) (clean_leaf list))
  gone_first w names list first are q gone = by (is_reserved q) (is_entry items q) refl refl
    where
      m : Leaves
      m = insert w (place clean_name) (clean_leaf list)

      by : (reserved known : Bool) → is_reserved q ≡ reserved → is_entry items q ≡ known → has names q ≡ true
      by true known r k = absurd (both_ways _ (reserved_not_gone m q r) gone)
      by false true r k = absurd (both_ways _ (entry_not_gone m q k) gone)
      by false false r k =
          are q (sym (gone_same w m q ((inserted w clean_name (clean_leaf list)).others q (not_reserved_other q clean_name r clean_reserved))
          (ap (λ (ns : List Name). has ns q) (listed_there w list) ∙ first q ∙ ap (λ b. has (clean_of w) q || b) (not_placed items w q k) ∙ or_none (has (clean_of w) q))) ∙ gone)

  -- nor once the link is put
  pub gone_static : (w : Leaves) (names : List Name) (leaf : LeafKind) → AreGone items names w → AreGone items names (insert w (place static_name) leaf)
  gone_static w names leaf are q gone =
      are q (gone_beside w (insert w (place static_name) leaf) static_name (inserted w static_name leaf) static_not_clean
      (reserved_not_gone (insert w (place static_name) leaf) static_name static_reserved) q gone).0

  dropped_first : (x q : Name) (names : List Name) → q ≢ x → has (x ∷ names) q ≡ true → has names q ≡ true
  dropped_first x q names ne there = sym (ap (λ b. b || has names q) (other_of q x ne)) ∙ there

  -- what is removed is gone no more
  pub gone_removed : (w : Leaves) (x : Name) (names : List Name) → x ≢ clean_name → AreGone items (x ∷ names) w → AreGone items names (remove w (place x))
  gone_removed w x names ne are q gone =
      let before = gone_beside w (remove w (place x)) x (removed w x) ne (absent_not_gone (remove w (place x)) x (get_removed_here w (place x))) q gone in
      dropped_first x q names before.1 (are q before.0)

  -- nothing is gone once an entry is put
  pub gone_put : (w : Leaves) (x : Name) (leaf : LeafKind) → x ≢ clean_name → is_entry items x ≡ true → IsNoneGone items w → IsNoneGone items (insert w (place x) leaf)
  gone_put w x leaf ne known none q = false_from_ne_true (is_gone items (insert w (place x) leaf) q)
      (λ gone. both_ways _ (none q) (gone_beside w (insert w (place x) leaf) x (inserted w x leaf) ne (entry_not_gone (insert w (place x) leaf) x known) q gone).0)

  -- nor once the last list is
  pub gone_last : (w : Leaves) (names : List Name) → IsLastList items w names → IsNoneGone items (insert w (place clean_name) (clean_leaf names))
  gone_last w names last q = by (is_reserved q) (is_entry items q) refl refl
    where
      m : Leaves
      m = insert w (place clean_name) (clean_leaf names)

      by : (reserved known : Bool) → is_reserved q ≡ reserved → is_entry items q ≡ known → is_gone items m q ≡ false
      by true known r k = reserved_not_gone m q r
      by false true r k = entry_not_gone m q k
      by false false r k =
          ap (λ (o : Option LeafKind). is_stray items q o && (is_farm_link q o || has (clean_of m) q)) ((inserted w clean_name (clean_leaf names)).others q (not_reserved_other q clean_name r clean_reserved))
          ∙ ap (λ b. is_stray items q (at w q) && (is_farm_link q (at w q) || b)) (ap (λ (ns : List Name). has ns q) (listed_there w names) ∙ last.names_are q ∙ not_placed items w q k)
          ∙ unlisted (is_stray items q (at w q)) (is_farm_link q (at w q)) (has (clean_of w) q) (last.none_gone q)

  -- ---- the place of an entry is clear

  stray_or_none : (stray ours : Bool) → stray ≡ true → stray && ours ≡ false → stray && not ours ≡ true
  stray_or_none true true s none = absurd (both_ways true none refl)
  stray_or_none true false s none = refl
  stray_or_none false ours s none = absurd (both_ways false refl s)

  stray_by : (leaf : Option LeafKind) (reserved known : Bool) → is_some leaf ≡ true → reserved ≡ false → known ≡ false → (is_some leaf && (not reserved && not known)) ≡ true
  stray_by leaf reserved known s r k = ap (λ b. b && (not reserved && not known)) s ∙ ap (λ b. not b && not known) r ∙ ap not k

  name_clear : (leaves : Leaves) (x : Name) → AreFree items → AreApart (places items) → is_entry items x ≡ true → is_blocked items leaves x ≡ false → IsNoneGone items leaves →
      (p : Name) → is_in_line p x ≡ true → is_some (at leaves p) ≡ true → ⊥
  name_clear leaves x free apart known unblocked none p line there =
      let new : is_entry items p ≡ false = false_from_ne_true (is_entry items p) (λ also. line_or (is_below p x) (is_below x p) line (apart p x also known) (apart x p known also)) in
      let unreserved : is_reserved p ≡ false = line_reserved p x line ∙ free x known in
      both_ways _ unblocked (blocked_to items leaves x p
      (stray_or_none (is_stray items p (at leaves p)) (is_ours (clean_of leaves) p (at leaves p)) (stray_by (at leaves p) (is_reserved p) (is_entry items p) there unreserved new) (none p)) line)

  none_there : (o : Option LeafKind) → (is_some o ≡ true → ⊥) → o ≡ None
  none_there None lacks = refl
  none_there (Some leaf) lacks = absurd (lacks refl)

  pub entry_clear : (leaves : Leaves) (x : Name) → AreFree items → AreApart (places items) → IsWayFree leaves → is_entry items x ≡ true → is_blocked items leaves x ≡ false → IsNoneGone items leaves → IsClear leaves (place x)
  entry_clear leaves x free apart way known unblocked none k line = ⊎_elim
      (λ folder. way.clean k (ap (λ p. is_in_line p (place clean_name)) folder ∙ folder_line))
      (λ inside.
      let is = in_etc k inside in
      ap (get leaves) is
      ∙ none_there (at leaves (name_of k))
      (λ there. name_clear leaves x free apart known unblocked none (name_of k) (sym (line_place (name_of k) x) ∙ ap (λ p. is_in_line p (place x)) (sym is) ∙ line) there))
      (line_in_etc x k line)
