-- Which keys can differ, and what a comparison says of all keys.
use Rattle.std.proofs.Common.{◌≡◌, ◌↔◌, Bool, true, false, not, cond, ◌&&◌, ◌||◌, List, [], ◌∷◌, ◌++◌, map, refl, sym, ap, ◌∙◌, subst}
use Rattle.std.specs.Cmp.Lexicographic.{bytes_decides, pointwise_decides}
use Rattle.std.specs.List.{filter, list_any}
use Rattle.std.proofs.lemmas.Bool.{and_parts, and_from, true≢false, or_parts, not-true}
use Rattle.std.proofs.lemmas.List.{map-append}
use Rattle.std.proofs.lemmas.List.Folds.{list_any-append}
use Rattle.std.proofs.Math.Bool.{or-true}
use Rattle.switch_names.specs.declared.unit_kind.UnitKind.{UnitKind}
use Rattle.unit_text.specs.declared.assignment.Assignment.{Assignment}
use Rattle.unit_text.specs.declared.unit_key.UnitKey.{UnitKey}
use Rattle.unit_text.specs.UnitKey.{is_same_key, has_key}
use Rattle.unit_text.specs.UnitText.{given, values_of, after_last_empty}
use Rattle.unit_text.proofs.KeyLemmas.{same_key, same_self}
use Rattle.unit_compare.specs.declared.comparison.Comparison.{Comparison}
use Rattle.unit_compare.specs.declared.comparison.Comparison.TheVariants.{Same, ReloadOnly, Changed}
use Rattle.unit_compare.specs.Compare.{is_ignored, are_same_values, differs, is_reload_key, comparison, AreSame, AreReloadOnly, AreChanged}
use Rattle.unit_compare.proofs.Outcomes.{by_tests, is_change, made, outcome_made}

-- a key of a list that passes a test
pub record Finds (test : UnitKey → Bool) (keys : List UnitKey) : Type 0 where
  pub key : UnitKey
  pub passes : test key ≡ true
  pub stands : has_key keys key ≡ true

module _ (test : UnitKey → Bool) where
  pub finds : (keys : List UnitKey) → list_any test keys ≡ true → Finds test keys
  finds [] e = absurd (true≢false (sym e))
  finds (k ∷ keys) e = by (test k) refl (λ h. finds keys h)
    where
      by : (b : Bool) → test k ≡ b → (list_any test keys ≡ true → Finds test keys) → Finds test (k ∷ keys)
      by true h rest = record { key = k; passes = h; stands = ap (λ b. b || has_key keys k) (same_self k) }
      by false h rest =
          let found = rest (sym (ap (λ b. b || list_any test keys) h) ∙ e) in
          record { key = found.key; passes = found.passes; stands = ap (λ b. is_same_key found.key k || b) found.stands ∙ or-true (is_same_key found.key k) }

  pub any_from : (keys : List UnitKey) (key : UnitKey) → test key ≡ true → has_key keys key ≡ true → list_any test keys ≡ true
  any_from [] key e h = absurd (true≢false (sym h))
  any_from (k ∷ keys) key e h = by (is_same_key key k) refl (λ s. any_from keys key e s)
    where
      by : (b : Bool) → is_same_key key k ≡ b → (has_key keys key ≡ true → list_any test keys ≡ true) → list_any test (k ∷ keys) ≡ true
      by true s rest = ap (λ b. b || list_any test keys) (sym (ap test (same_key key k s)) ∙ e)
      by false s rest = ap (λ b. test k || b) (rest (sym (ap (λ b. b || has_key keys key) s) ∙ h)) ∙ or-true (test k)

  -- two lists with the same keys, as far as they pass the test
  pub any_same : (xs ys : List UnitKey) → ((key : UnitKey) → test key ≡ true → has_key xs key ≡ has_key ys key) → list_any test xs ≡ list_any test ys
  any_same xs ys h = by (list_any test xs) (list_any test ys) refl refl
    where
      by : (a b : Bool) → list_any test xs ≡ a → list_any test ys ≡ b → list_any test xs ≡ list_any test ys
      by true true e f = e ∙ sym f
      by false false e f = e ∙ sym f
      by true false e f =
          let found = finds xs e in
          absurd (true≢false (sym (any_from ys found.key found.passes (sym (h found.key found.passes) ∙ found.stands)) ∙ f))
      by false true e f =
          let found = finds ys f in
          absurd (true≢false (sym (any_from xs found.key found.passes (h found.key found.passes ∙ found.stands)) ∙ e))

-- ---- a key that no text assigns

abbrev pub assigned_in : List Assignment → List UnitKey
assigned_in text = map (λ (a : Assignment). a.at) text

not_given : (text : List Assignment) (key : UnitKey) → has_key (assigned_in text) key ≡ false → given text key ≡ []
not_given [] key h = refl
not_given (a ∷ text) key h = by (is_same_key key a.at) refl (λ s. not_given text key s)
  where
    by : (b : Bool) → is_same_key key a.at ≡ b → (has_key (assigned_in text) key ≡ false → given text key ≡ []) → given (a ∷ text) key ≡ []
    by true s rest = absurd (true≢false (sym (ap (λ b. b || has_key (assigned_in text) key) s) ∙ h))
    by false s rest =
        ap (λ b. map (λ (x : Assignment). x.value) (cond b (a ∷ filter (λ x. is_same_key key x.at) text) (filter (λ x. is_same_key key x.at) text))) s
        ∙ rest (sym (ap (λ b. b || has_key (assigned_in text) key) s) ∙ h)

pub no_values : (text : List Assignment) (key : UnitKey) → has_key (assigned_in text) key ≡ false → values_of text key ≡ []
no_values text key h = ap after_last_empty (not_given text key h)

module _ (old new : List Assignment) where
  -- a key without a value in either text doesn't differ
  pub unset_same : (key : UnitKey) → values_of old key ≡ [] → values_of new key ≡ [] → differs old new key ≡ false
  unset_same key a b = (λ i. not (is_ignored key) && not (are_same_values (a i) (b i))) ∙ by (is_ignored key)
    where
      by : (t : Bool) → (not t && not (are_same_values [] [])) ≡ false
      by true = refl
      by false = refl

  abbrev pub assigned : List UnitKey
  assigned = map (λ (a : Assignment). a.at) (old ++ new)

  -- a key that differs is assigned
  pub differing_assigned : (key : UnitKey) → differs old new key ≡ true → has_key assigned key ≡ true
  differing_assigned key e = by (has_key assigned key) refl
    where
      by : (b : Bool) → has_key assigned key ≡ b → has_key assigned key ≡ true
      by true h = h
      by false h =
          let parts = or_parts _ _
          (sym (list_any-append (is_same_key key) (assigned_in old) (assigned_in new))
          ∙ sym (ap (λ (ks : List UnitKey). has_key ks key) (map-append (λ (a : Assignment). a.at) old new)) ∙ h) in
          absurd (true≢false (sym e ∙ unset_same key (no_values old key parts.0) (no_values new key parts.1)))

-- ---- what a comparison says of all keys

module _ (kind : UnitKind) (old new : List Assignment) where
  abbrev pub is_changed : UnitKey → Bool
  is_changed = is_change kind (differs old new)

  abbrev pub made_of : List UnitKey → Comparison
  made_of = made kind (differs old new)

  pub comparison_made : comparison kind old new ≡ made_of (assigned old new)
  unfolding comparison
  comparison_made = outcome_made kind (differs old new) (assigned old new)

  -- a key that differs is found
  other_found : (key : UnitKey) → differs old new key ≡ true → list_any (differs old new) (assigned old new) ≡ true
  other_found key d = any_from (differs old new) (assigned old new) key d (differing_assigned old new key d)

  change_found : (key : UnitKey) → differs old new key ≡ true → is_reload_key kind key ≡ false → list_any is_changed (assigned old new) ≡ true
  change_found key d r = any_from is_changed (assigned old new) key (and_from _ _ d (ap not r)) (differing_assigned old new key d)

  change_of : list_any is_changed (assigned old new) ≡ true → AreChanged kind old new
  change_of e =
      let found = finds is_changed (assigned old new) e in
      let parts = and_parts _ _ found.passes in
      record { key = found.key; other = parts.0; not_taken_up = not-true _ parts.1 }

  no_change : list_any is_changed (assigned old new) ≡ false → (key : UnitKey) → differs old new key ≡ true → is_reload_key kind key ≡ true
  no_change e key d = by (is_reload_key kind key) refl
    where
      by : (b : Bool) → is_reload_key kind key ≡ b → is_reload_key kind key ≡ true
      by true r = r
      by false r = absurd (true≢false (sym (change_found key d r) ∙ e))

  no_other : list_any (differs old new) (assigned old new) ≡ false → AreSame old new
  no_other e key = by (differs old new key) refl
    where
      by : (b : Bool) → differs old new key ≡ b → differs old new key ≡ false
      by true d = absurd (true≢false (sym (other_found key d) ∙ e))
      by false d = d

  none_found : (test : UnitKey → Bool) → ((key : UnitKey) → test key ≡ true → ⊥) → list_any test (assigned old new) ≡ false
  none_found test h = by (list_any test (assigned old new)) refl
    where
      by : (b : Bool) → list_any test (assigned old new) ≡ b → list_any test (assigned old new) ≡ false
      by true e = let found = finds test (assigned old new) e in absurd (h found.key found.passes)
      by false e = e

  abbrev found_change : Bool
  found_change = list_any is_changed (assigned old new)

  abbrev found_other : Bool
  found_other = list_any (differs old new) (assigned old new)

  same_to : (c d : Bool) → found_other ≡ d → by_tests c d ≡ Same → AreSame old new
  same_to true d f h = cc
  same_to false true f h = cc
  same_to false false f h = no_other f

  pub same_exact : (made_of (assigned old new) ≡ Same → AreSame old new) × (AreSame old new → made_of (assigned old new) ≡ Same)
  same_exact = (
    λ e. same_to found_change found_other refl e,
    λ same. λ i. by_tests
        (none_found is_changed (λ key e. true≢false (sym (and_parts _ _ e).0 ∙ same key)) i)
        (none_found (differs old new) (λ key e. true≢false (sym e ∙ same key)) i),
  )

  reload_to : (c d : Bool) → found_change ≡ c → found_other ≡ d → by_tests c d ≡ ReloadOnly → AreReloadOnly kind old new
  reload_to true d e f h = cc
  reload_to false false e f h = cc
  reload_to false true e f h =
      let found = finds (differs old new) (assigned old new) f in
      record { key = found.key; other = found.passes; taken_up = no_change e }

  pub reload_exact : (made_of (assigned old new) ≡ ReloadOnly → AreReloadOnly kind old new) × (AreReloadOnly kind old new → made_of (assigned old new) ≡ ReloadOnly)
  reload_exact = (
    λ e. reload_to found_change found_other refl refl e,
    λ only. λ i. by_tests
        (none_found is_changed (λ key e. let parts = and_parts _ _ e in true≢false (sym (only.taken_up key parts.0) ∙ not-true _ parts.1)) i)
        (other_found only.key only.other i),
  )

  changed_to : (c d : Bool) → found_change ≡ c → by_tests c d ≡ Changed → AreChanged kind old new
  changed_to true d e h = change_of e
  changed_to false true e h = cc
  changed_to false false e h = cc

  pub changed_exact : (made_of (assigned old new) ≡ Changed → AreChanged kind old new) × (AreChanged kind old new → made_of (assigned old new) ≡ Changed)
  changed_exact = (
    λ e. changed_to found_change found_other refl e,
    λ other. ap (λ c. by_tests c found_other) (change_found other.key other.other other.not_taken_up),
  )

-- ---- a comparison in the words of its clauses

-- a text says the same as itself
pub self_same : (text : List Assignment) → AreSame text text
self_same text key = by (is_ignored key) ((pointwise_decides bytes_decides (values_of text key) (values_of text key)).1 refl)
  where
    by : (t : Bool) → are_same_values (values_of text key) (values_of text key) ≡ true → (not t && not (are_same_values (values_of text key) (values_of text key))) ≡ false
    by true e = refl
    by false e = ap not e

pub self_comparison : (kind : UnitKind) (text : List Assignment) → comparison kind text text ≡ Same
self_comparison kind text = comparison_made kind text text ∙ (same_exact kind text text).1 (self_same text)

module _ (kind : UnitKind) (old new : List Assignment) (outcome : Comparison) (is : outcome ≡ comparison kind old new) where
  pub same_where : (outcome ≡ Same) ↔ AreSame old new
  same_where = subst (λ (o : Comparison). (o ≡ Same) ↔ AreSame old new) (sym (is ∙ comparison_made kind old new)) (same_exact kind old new)

  pub reload_only_where : (outcome ≡ ReloadOnly) ↔ AreReloadOnly kind old new
  reload_only_where = subst (λ (o : Comparison). (o ≡ ReloadOnly) ↔ AreReloadOnly kind old new) (sym (is ∙ comparison_made kind old new)) (reload_exact kind old new)

  pub changed_where : (outcome ≡ Changed) ↔ AreChanged kind old new
  changed_where = subst (λ (o : Comparison). (o ≡ Changed) ↔ AreChanged kind old new) (sym (is ∙ comparison_made kind old new)) (changed_exact kind old new)
