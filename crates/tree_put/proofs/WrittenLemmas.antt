-- Only such places are written, from one world to the next.
use Rattle.std.proofs.Common.{◌≡◌, ◌||◌, ◌⊎◌, ◌∷◌, ◌++◌, Bool, true, false, List, [], append-nil, append_assoc, refl, sym, ap, subst, ◌∙◌, inl, inr, ⊎_elim}
use Rattle.std.proofs.lemmas.Bool.{both_ways, cases_Bool}
use Rattle.std.specs.List.{AllByRecursion}
use Rattle.host_trait.specs.World.{WorldState, with_leaf, without_leaf}
use Rattle.host_trait.proofs.NameOrder.{name_exact}
use Rattle.switch_names.specs.Names.{Name, has, is_name}
use Rattle.tree_put.specs.declared.leaf_put.LeafPut.{LeafPut}
use Rattle.tree_put.specs.Put.{written_if}
use Rattle.tree_put.specs.Sequence.{AreWritten, WritesOthers, without_places}
use Rattle.tree_put.specs.Written.{WritesOnly}

-- each name of two lists is one of the first or of the second
joined_cases : (xs ys : List Name) (q : Name) → has (xs ++ ys) q ≡ true → (has xs q ≡ true) ⊎ (has ys q ≡ true)
joined_cases [] ys q is = inr is
joined_cases (x ∷ xs) ys q is = elim (cases_Bool (is_name q x)) [
  | inl here ↦ inl (ap (λ b. b || has xs q) here)
  | inr other ↦ ⊎_elim
      (λ first. inl (ap (λ b. b || has xs q) other ∙ first)) (λ second. inr second)
      (joined_cases xs ys q (sym (ap (λ b. b || has (xs ++ ys) q) other) ∙ is))
]

module _ (P : Name → Bool) where
  -- the same, place by place
  abbrev AreSuch : List Name → Type 0
  AreSuch places = AllByRecursion (λ at. P at ≡ true) places

  such_has : (places : List Name) → AreSuch places → (q : Name) → has places q ≡ true → P q ≡ true
  such_has [] all q is = absurd (both_ways _ refl is)
  such_has (at ∷ places) all q is = elim (cases_Bool (is_name q at)) [
    | inl here ↦ subst (λ p. P p ≡ true) (sym (name_exact q at here)) all.0
    | inr other ↦ such_has places all.1 q (sym (ap (λ b. b || has places q) other) ∙ is)
  ]

  pub writes_these : (places : List Name) (w v : WorldState) → v.written ≡ w.written ++ places → AreSuch places → WritesOnly P w v
  writes_these places w v is all = record { places = places; written = is; only = such_has places all }

  -- nothing is written
  pub writes_none : (w v : WorldState) → v ≡ w → WritesOnly P w v
  writes_none w v same = writes_these [] w v (ap (λ (x : WorldState). x.written) same ∙ sym (append-nil w.written)) tt

  -- one place is
  pub writes_one : (at : Name) (w v : WorldState) → P at ≡ true → v.written ≡ w.written ++ at ∷ [] → WritesOnly P w v
  writes_one at w v such is = writes_these (at ∷ []) w v is (such, tt)

  -- some are, and then others
  pub writes_then : (w v u : WorldState) → WritesOnly P w v → WritesOnly P v u → WritesOnly P w u
  writes_then w v u first second = record {
    places = first.places ++ second.places;
    written = second.written ∙ ap (λ ps. ps ++ second.places) first.written ∙ append_assoc w.written first.places second.places;
    only = λ q is. ⊎_elim (first.only q) (second.only q) (joined_cases first.places second.places q is);
  }

  -- more places are such
  pub writes_wider : (Q : Name → Bool) → ((q : Name) → P q ≡ true → Q q ≡ true) → (w v : WorldState) → WritesOnly P w v → WritesOnly Q w v
  writes_wider Q wider w v only = record { places = only.places; written = only.written; only = λ q is. wider q (only.only q is) }

  -- leaves are put at such places
  puts_such : (puts : List LeafPut) (w : WorldState) (places : List Name) → AreWritten puts w places → AllByRecursion (λ (put : LeafPut). P put.at ≡ true) puts → AreSuch places
  puts_such [] w places are all = subst AreSuch (sym are) tt
  puts_such (one ∷ rest) w places are all =
      subst AreSuch (sym are.3) (with_first are.0 (puts_such rest (with_leaf one.at one.leaf w) are.1 are.4 all.1))
    where
      with_first : (put : Bool) → AreSuch are.1 → AreSuch (written_if put one.at ++ are.1)
      with_first true more = (all.0, more)
      with_first false more = more

  pub writes_puts : (puts : List LeafPut) (w v : WorldState) → AllByRecursion (λ (put : LeafPut). P put.at ≡ true) puts → WritesOthers puts w v → WritesOnly P w v
  writes_puts puts w v all others = writes_these others.places w v others.written (puts_such puts w others.places others.are all)

  -- leaves at such places are removed
  pub writes_removed : (places : List Name) (w v : WorldState) → ((q : Name) → has places q ≡ true → P q ≡ true) → v ≡ without_places places w → WritesOnly P w v
  writes_removed places w v such is = record { places = places; written = ap (λ (x : WorldState). x.written) is ∙ removed_written places w; only = such }
    where
      removed_written : (places : List Name) (w : WorldState) → (without_places places w).written ≡ w.written ++ places
      removed_written [] w = sym (append-nil w.written)
      removed_written (at ∷ places) w = removed_written places (without_leaf at w) ∙ append_assoc w.written (at ∷ []) places
