-- A text is cut down, step by step, until no name is left with which it could begin.
use Rattle.std.proofs.Common.{◌≡◌, ◌≢◌, ◌⊎◌, ℕ, ◌+◌, ◌<◌, ◌||◌, ◌&&◌, true, false, List, length, take, refl, sym, subst, ◌∙◌, inl, inr, arith, length-append}
use Rattle.std.proofs.lemmas.Bool.{and_from, and_parts, both_ways, or_cases, or_left, or_right}
use Rattle.std.specs.Cmp.{both_ways as same_test}
use Rattle.host_trait.proofs.Fronts.{begins, begins_with}
use Rattle.host_trait.proofs.NameOrder.{name_exact, name_from}
use Rattle.host_trait.proofs.Places.{same_or_other}
use Rattle.switch_names.specs.Names.{Name, has, is_name}
use Rattle.store_names.specs.Beginnings.{IsAdded, IsCut, IsGreatest, common, is_up_to}
use Rattle.store_names.proofs.ChainLemmas.{begins_both, begins_itself, begins_shorter, begins_taken, chain, common_least, common_less, common_whole, front_up_to, take_begins}

module _ (names : List Name) (text : List ℕ) (old : List Name) where
  -- what is found is among the names, and a name with which the text begins is found, or what is left of it begins so
  pub record IsSearch (found : List Name) (left : List ℕ) : Type 0 where
    pub inside : begins left text ≡ true
    pub kept : (name : Name) → has old name ≡ true → has found name ≡ true
    pub sound : (name : Name) → has found name ≡ true → (has old name ≡ true) ⊎ ((has names name ≡ true) × (begins name text ≡ true))
    pub rest : (name : Name) → has names name ≡ true → begins name text ≡ true → (has found name ≡ true) ⊎ (begins name left ≡ true)

  pub search_start : IsSearch old text
  search_start = record {
    inside = begins_itself text;
    kept = λ name is. is;
    sound = λ name is. inl is;
    rest = λ name listed is. inr is;
  }

  -- what it comes to
  abbrev pub IsSearched : List Name → Type 0
  IsSearched found = (name : Name) → has found name ≡ (has old name || (has names name && begins name text))

  end_from : (found : List Name) (left : List ℕ) → IsSearch found left → ((name : Name) → has names name ≡ true → begins name left ≡ true → has found name ≡ true) → IsSearched found
  end_from found left search last name = same_test (has found name) (has old name || (has names name && begins name text))
      (λ is. elim (search.sound name is) [
        | inl before ↦ or_left (has old name) _ before
        | inr new ↦ or_right (has old name) _ (and_from (has names name) (begins name text) new.0 new.1)
      ])
      (λ is. elim (or_cases (has old name) _ is) [
        | inl before ↦ search.kept name before
        | inr new ↦ let parts = and_parts (has names name) (begins name text) new in
            elim (search.rest name parts.0 parts.1) [
              | inl found ↦ found
              | inr more ↦ last name parts.0 more
            ]
      ])

  -- no name is left that isn't above the rest
  pub search_none : (found : List Name) (left : List ℕ) → IsSearch found left → ((name : Name) → has names name ≡ true → is_up_to left name ≡ false) → IsSearched found
  search_none found left search none = end_from found left search (λ name listed is. absurd (both_ways _ (none name listed) (front_up_to name left is)))

  module _ (found : List Name) (left : List ℕ) (greatest : Name) (search : IsSearch found left) (is : IsGreatest names left greatest) where
    -- the greatest begins with each name with which the rest begins
    in_greatest : (name : Name) → has names name ≡ true → begins name left ≡ true → begins name greatest ≡ true
    in_greatest name listed begun = chain name greatest left begun (is.others name listed (front_up_to name left begun)) is.reaches

    -- the rest doesn't begin with the greatest, and is cut to what the two begin with alike
    pub search_cut : IsSearch found (take (common greatest left) left)
    search_cut = record {
      inside = begins_both (take (common greatest left) left) left text (take_begins left (common greatest left)) search.inside;
      kept = search.kept;
      sound = search.sound;
      rest = λ name listed begun. elim (search.rest name listed begun) [
        | inl there ↦ inl there
        | inr more ↦ inr (begins_taken name left (common greatest left) more (common_least name greatest left (in_greatest name listed more) more))
      ];
    }

    module _ (more : List Name) (added : IsAdded greatest found more) (whole : common greatest left ≡ length greatest) where
      now_found : has more greatest ≡ true
      now_found = added greatest ∙ or_right (has found greatest) _ (name_from greatest greatest refl)

      still : (name : Name) → has found name ≡ true → has more name ≡ true
      still name there = added name ∙ or_left (has found name) _ there

      sound_more : (name : Name) → has more name ≡ true → (has old name ≡ true) ⊎ ((has names name ≡ true) × (begins name text ≡ true))
      sound_more name there = elim (or_cases (has found name) (is_name name greatest) (sym (added name) ∙ there)) [
        | inl before ↦ search.sound name before
        | inr same ↦ subst (λ x. (has old x ≡ true) ⊎ ((has names x ≡ true) × (begins x text ≡ true))) (sym (name_exact name greatest same))
            (inr (is.listed, begins_both greatest left text (common_whole greatest left whole) search.inside))
      ]

      -- it begins with the greatest, and is cut to less than that
      search_found : (count : ℕ) → count + 1 ≡ length greatest → IsSearch more (take count left)
      search_found count enough = record {
        inside = begins_both (take count left) left text (take_begins left count) search.inside;
        kept = λ name before. still name (search.kept name before);
        sound = sound_more;
        rest = λ name listed begun. elim (search.rest name listed begun) [
          | inl there ↦ inl (still name there)
          | inr there ↦ elim (same_or_other name greatest) [
            | inl same ↦ inl (subst (λ x. has more x ≡ true) (sym same) now_found)
            | inr other ↦ inr (begins_taken name left count there (omega (arith, enough, begins_shorter name greatest (in_greatest name listed there) (λ same. both_ways _ other (name_from name greatest same)))))
          ]
        ];
      }

    not_all : common greatest left < length greatest → common greatest left ≢ length greatest
    not_all less same = absurd (omega (arith, less, same))

    -- one step
    pub search_step : (more : List Name) (count : ℕ) → IsCut greatest left found more count → IsSearch more (take count left)
    search_step more count (IsCut.Whole whole enough added) = search_found more added whole count enough
    search_step more count (IsCut.Part less same kept) =
        subst (λ (l : List Name). IsSearch l (take count left)) (sym kept) (subst (λ k. IsSearch found (take k left)) (sym same) search_cut)

    -- each step makes the rest shorter
    pub step_shorter : (more : List Name) (count : ℕ) → IsCut greatest left found more count → count < length left
    step_shorter more count (IsCut.Whole whole enough added) =
        let with = begins_with greatest left (common_whole greatest left whole) in
        subst (λ x. count < length x) (sym with.1) (omega (arith, enough, length-append greatest with.0))
    step_shorter more count (IsCut.Part less same kept) = omega (arith, same, common_less greatest left is.reaches (not_all less))
