-- The search for what is pulled.
use Rattle.std.proofs.Common.{◌≡◌, ◌⊎◌, ◌||◌, ◌&&◌, not, Bool, true, false, IsTrue, List, [], ◌∷◌, ◌++◌, refl, sym, ap, subst, ◌∙◌, inl, inr}
use Rattle.std.specs.List.Sorted.{IsStrictlySortedBy}
use Rattle.std.proofs.lemmas.Bool.{and_from, and_parts, both_ways, not_from_false, or_cases, or_left, or_right}
use Rattle.host_trait.specs.World.{bytes_cmp}
use Rattle.switch_names.specs.Names.{IsListOf, Name, has, is_name}
use Rattle.unit_defs.specs.Pull.{Reached}
use Rattle.host_trait.proofs.NameOrder.{name_exact, name_itself}
use Rattle.owed_plan.proofs.NameSetLemmas.{has_pushed}

-- names are added to those that are reached
abbrev pub AreAdded : List Name → List Name → List Name → Type 0
AreAdded names old new = (unit : Name) → has new unit ≡ (has old unit || has names unit)

-- and those among them that weren't reached to those that are left to walk
abbrev pub AreLeft : List Name → List Name → List Name → List Name → Type 0
AreLeft names reached old new = (unit : Name) → has new unit ≡ (has old unit || (has names unit && not (has reached unit)))

module _ (wanted : Name → List Name) (roots : List Name) where
  abbrev pub IsPulled : Name → Type 0
  IsPulled = Reached wanted (λ root. IsTrue (has roots root))

  -- on the way to all that is pulled: what a unit wants is reached once the unit isn't left to walk
  pub record IsSearch (reached left : List Name) : Type 0 where
    pub sound : (unit : Name) → has reached unit ≡ true → IsPulled unit
    pub start : (unit : Name) → has roots unit ≡ true → has reached unit ≡ true
    pub known : (unit : Name) → has left unit ≡ true → has reached unit ≡ true
    pub walked : (by unit : Name) → has reached by ≡ true → has (wanted by) unit ≡ true → (has left by ≡ true) ⊎ (has reached unit ≡ true)

  module _ (names old_reached old_left reached left : List Name) (added : AreAdded names old_reached reached) (pushed : AreLeft names old_reached old_left left) where
    kept : (unit : Name) → has old_reached unit ≡ true → has reached unit ≡ true
    kept unit is = added unit ∙ or_left (has old_reached unit) (has names unit) is

    now_reached : (unit : Name) → has names unit ≡ true → has reached unit ≡ true
    now_reached unit is = added unit ∙ or_right (has old_reached unit) (has names unit) is

    still_left : (unit : Name) → has old_left unit ≡ true → has left unit ≡ true
    still_left unit is = pushed unit ∙ or_left (has old_left unit) _ is

    now_left : (unit : Name) → has names unit ≡ true → has old_reached unit ≡ false → has left unit ≡ true
    now_left unit is new = pushed unit ∙ or_right (has old_left unit) _ (and_from (has names unit) (not (has old_reached unit)) is (not_from_false (has old_reached unit) new))

    was_reached : (unit : Name) → has reached unit ≡ true → (has old_reached unit ≡ true) ⊎ (has names unit ≡ true)
    was_reached unit is = or_cases (has old_reached unit) (has names unit) (sym (added unit) ∙ is)

    was_left : (unit : Name) → has left unit ≡ true → (has old_left unit ≡ true) ⊎ (has names unit ≡ true)
    was_left unit is = elim (or_cases (has old_left unit) (has names unit && not (has old_reached unit)) (sym (pushed unit) ∙ is)) [
      | inl before ↦ inl before
      | inr new ↦ inr (and_parts (has names unit) (not (has old_reached unit)) new).0
    ]

    -- what is reached was reached before, or is left to walk
    reached_or_left : (unit : Name) → has reached unit ≡ true → (has old_reached unit ≡ true) ⊎ (has left unit ≡ true)
    reached_or_left unit is = by (has old_reached unit) refl
      where
        by : (b : Bool) → has old_reached unit ≡ b → (has old_reached unit ≡ true) ⊎ (has left unit ≡ true)
        by true before = inl before
        by false new = elim (was_reached unit is) [
          | inl before ↦ inl before
          | inr named ↦ inr (now_left unit named new)
        ]

    -- the search starts at the roots
    pub search_start : names ≡ roots → old_reached ≡ [] → old_left ≡ [] → IsSearch reached left
    search_start are_roots none empty = record {
      sound = λ unit is. elim (was_reached unit is) [
        | inl before ↦ absurd (both_ways _ (ap (λ ns. has ns unit) none) before)
        | inr named ↦ Reached.FromRoot unit (subst (λ ns. has ns unit ≡ true) are_roots named)
      ];
      start = λ unit is. now_reached unit (subst (λ ns. has ns unit ≡ true) (sym are_roots) is);
      known = λ unit is. elim (was_left unit is) [
        | inl before ↦ absurd (both_ways _ (ap (λ ns. has ns unit) empty) before)
        | inr named ↦ now_reached unit named
      ];
      walked = λ by unit is wants. elim (reached_or_left by is) [
        | inl before ↦ absurd (both_ways _ (ap (λ ns. has ns by) none) before)
        | inr there ↦ inl there
      ];
    }

    -- one unit is walked
    pub search_turn : (unit : Name) (all_left : List Name) → all_left ≡ old_left ++ unit ∷ [] → names ≡ wanted unit → IsSearch old_reached all_left → IsSearch reached left
    search_turn unit all_left is_last are_wanted search = record {
      sound = λ one is. elim (was_reached one is) [
        | inl before ↦ search.sound one before
        | inr named ↦ Reached.FromWant one unit (search.sound unit (search.known unit unit_left)) (subst (λ ns. has ns one ≡ true) are_wanted named)
      ];
      start = λ one is. kept one (search.start one is);
      known = λ one is. elim (was_left one is) [
        | inl before ↦ kept one (search.known one (was_left_before one before))
        | inr named ↦ now_reached one named
      ];
      walked = λ by one is wants. elim (reached_or_left by is) [
        | inl before ↦ elim (search.walked by one before wants) [
          | inl there ↦ elim (still_or_last by there) [
            | inl still ↦ inl (still_left by still)
            | inr same ↦ inr (now_reached one (subst (λ ns. has ns one ≡ true) (sym are_wanted) (subst (λ n. has (wanted n) one ≡ true) same wants)))
          ]
          | inr done ↦ inr (kept one done)
        ]
        | inr there ↦ inl there
      ];
    }
      where
        split : (one : Name) → has all_left one ≡ (has old_left one || is_name one unit)
        split one = ap (λ ns. has ns one) is_last ∙ has_pushed old_left unit one

        unit_left : has all_left unit ≡ true
        unit_left = split unit ∙ or_right (has old_left unit) (is_name unit unit) (name_itself unit)

        was_left_before : (one : Name) → has old_left one ≡ true → has all_left one ≡ true
        was_left_before one is = split one ∙ or_left (has old_left one) (is_name one unit) is

        still_or_last : (one : Name) → has all_left one ≡ true → (has old_left one ≡ true) ⊎ (one ≡ unit)
        still_or_last one is = elim (or_cases (has old_left one) (is_name one unit) (sym (split one) ∙ is)) [
          | inl still ↦ inl still
          | inr same ↦ inr (name_exact one unit same)
        ]

  -- where nothing is left to walk, all that is pulled is reached
  all_reached : (reached : List Name) → IsSearch reached [] → (unit : Name) → IsPulled unit → has reached unit ≡ true
  all_reached reached search unit (Reached.FromRoot _ root) = search.start unit root
  all_reached reached search unit (Reached.FromWant _ by pulled wants) = elim (search.walked by unit (all_reached reached search by pulled) wants) [
    | inl there ↦ absurd (both_ways _ refl there)
    | inr is ↦ is
  ]

  pub search_end : (pulled reached left : List Name) → left ≡ [] → pulled ≡ reached → IsStrictlySortedBy bytes_cmp reached → IsSearch reached left → IsListOf pulled IsPulled
  search_end pulled reached left none are sorted search = record {
    sorted = subst (IsStrictlySortedBy bytes_cmp) (sym are) sorted;
    exact = λ unit. (
      λ is. search.sound unit (sym (ap (λ ns. has ns unit) are) ∙ is),
      λ is. ap (λ ns. has ns unit) are ∙ all_reached reached (subst (IsSearch reached) none search) unit is,
    );
  }
