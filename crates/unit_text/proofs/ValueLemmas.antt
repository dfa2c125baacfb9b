-- What one more assignment changes.
use Rattle.std.proofs.Common.{◌≡◌, ℕ, Bool, true, false, not, cond, ◌&&◌, ◌||◌, List, [], ◌∷◌, ◌++◌, length, drop, take, map, refl, sym, ap, ◌∙◌}
use Rattle.std.specs.List.{filter, list_any}
use Rattle.std.specs.List.Sorted.{ties, IsStableBy}
use Rattle.std.specs.Ordering.{is_lt, ordering_reverse}
use Rattle.std.specs.declared.cmp.Ordering.{Ordering}
use Rattle.std.specs.declared.cmp.Ordering.TheVariants.{Less, Equal, Greater}
use Rattle.std.proofs.lemmas.Bool.{not-false, eqb-true}
use Rattle.std.proofs.lemmas.List.{append-nil, append_assoc, map-append, nil_from_length, take-append-drop, take_at}
use Rattle.std.proofs.lemmas.List.Elements.{filter-append}
use Rattle.std.proofs.lemmas.List.Folds.{list_any-append}
use Rattle.std.proofs.Math.Bool.{or-false}
use Rattle.unit_text.specs.declared.assignment.Assignment.{Assignment}
use Rattle.unit_text.specs.declared.unit_key.UnitKey.{UnitKey}
use Rattle.switch_names.specs.Texts.{is_empty}
use Rattle.unit_text.specs.UnitKey.{key_cmp, is_same_key}
use Rattle.unit_text.specs.UnitText.{HasFrontOf, given, after_last_empty, is_assigned, values_of}
use Rattle.unit_text.proofs.KeyLemmas.{key_total, exact_keys, same_self, less_other, greater_other}

-- one more value clears the earlier ones, or goes to the end
after_push : (values : List (List ℕ)) (value : List ℕ) → after_last_empty (values ++ value ∷ []) ≡ cond (is_empty value) [] (after_last_empty values ++ value ∷ [])
after_push [] value = ap (λ b. cond b [] (value ∷ [])) (or-false (is_empty value))
after_push (v ∷ values) value =
    ap (λ b. cond (is_empty v || b) (after_last_empty (values ++ value ∷ [])) (v ∷ (values ++ value ∷ []))) (list_any-append is_empty values (value ∷ []))
    ∙ ap (λ vs. cond (is_empty v || (list_any is_empty values || (is_empty value || false))) vs (v ∷ (values ++ value ∷ []))) (after_push values value)
    ∙ by (is_empty v) (list_any is_empty values) (is_empty value)
  where
    by : (a b c : Bool) → cond (a || (b || (c || false))) (cond c [] (after_last_empty values ++ value ∷ [])) (v ∷ (values ++ value ∷ []))
        ≡ cond c [] (cond (a || b) (after_last_empty values) (v ∷ values) ++ value ∷ [])
    by true b true = refl
    by true b false = refl
    by false true true = refl
    by false true false = refl
    by false false true = refl
    by false false false = refl

module _ (text : List Assignment) (one : Assignment) (key : UnitKey) where
  pub given_push : given (text ++ one ∷ []) key ≡ given text key ++ cond (is_same_key key one.at) (one.value ∷ []) []
  given_push =
      ap (map (λ (a : Assignment). a.value)) (filter-append (λ (a : Assignment). is_same_key key a.at) text (one ∷ []))
      ∙ map-append (λ (a : Assignment). a.value) (filter (λ (a : Assignment). is_same_key key a.at) text) (filter (λ (a : Assignment). is_same_key key a.at) (one ∷ []))
      ∙ ap (λ vs. given text key ++ vs) (by (is_same_key key one.at))
    where
      by : (b : Bool) → map (λ (a : Assignment). a.value) (cond b (one ∷ []) []) ≡ cond b (one.value ∷ []) []
      by true = refl
      by false = refl

  values_push : values_of (text ++ one ∷ []) key ≡ after_last_empty (given text key ++ cond (is_same_key key one.at) (one.value ∷ []) [])
  values_push = ap after_last_empty given_push

  pub values_other : is_same_key key one.at ≡ false → values_of (text ++ one ∷ []) key ≡ values_of text key
  values_other e = values_push ∙ ap (λ b. after_last_empty (given text key ++ cond b (one.value ∷ []) [])) e ∙ ap after_last_empty (append-nil (given text key))

  values_same : is_same_key key one.at ≡ true → values_of (text ++ one ∷ []) key ≡ cond (is_empty one.value) [] (values_of text key ++ one.value ∷ [])
  values_same e = values_push ∙ ap (λ b. after_last_empty (given text key ++ cond b (one.value ∷ []) [])) e ∙ after_push (given text key) one.value

  pub values_cleared : is_same_key key one.at ≡ true → is_empty one.value ≡ true → values_of (text ++ one ∷ []) key ≡ []
  values_cleared e none = values_same e ∙ ap (λ b. cond b [] (values_of text key ++ one.value ∷ [])) none

  pub values_added : is_same_key key one.at ≡ true → is_empty one.value ≡ false → values_of (text ++ one ∷ []) key ≡ values_of text key ++ one.value ∷ []
  values_added e some = values_same e ∙ ap (λ b. cond b [] (values_of text key ++ one.value ∷ [])) some

-- ---- a stable order of assignments by their keys

abbrev pub is_lower : Assignment → Assignment → Bool
is_lower a b = is_lt (key_cmp a.at b.at)

abbrev tied : Ordering → Ordering → Bool
tied o p = not (is_lt o) && not (is_lt p)

ties_same : (a b : Assignment) → ties is_lower a b ≡ is_same_key a.at b.at
ties_same a b = by (key_cmp a.at b.at) refl
  where
    by : (o : Ordering) → key_cmp a.at b.at ≡ o → ties is_lower a b ≡ is_same_key a.at b.at
    by Less e = ap (λ o. tied o (key_cmp b.at a.at)) e ∙ sym (less_other a.at b.at e)
    by Equal e =
        let back = key_total.antisymm b.at a.at ∙ ap ordering_reverse e in
        (λ i. tied (e i) (back i)) ∙ sym (ap (λ k. is_same_key k b.at) (exact_keys a.at b.at e) ∙ same_self b.at)
    by Greater e =
        let back : key_cmp b.at a.at ≡ Less = key_total.antisymm b.at a.at ∙ ap ordering_reverse e in
        (λ i. tied (e i) (back i)) ∙ sym (greater_other a.at b.at back)

-- what a key is given doesn't depend on the order of the keys
pub given_stable : (text ordered : List Assignment) (key : UnitKey) → IsStableBy is_lower text ordered → given ordered key ≡ given text key
given_stable text ordered key h =
    let one : Assignment = record { at = key; value = [] } in
    let of_key : (xs : List Assignment) → filter (ties is_lower one) xs ≡ filter (λ a. is_same_key key a.at) xs = λ xs. λ i. filter (λ a. ties_same one a i) xs in
    ap (map (λ (a : Assignment). a.value)) (sym (of_key ordered) ∙ h one ∙ of_key text)

-- ---- a key that later assignments don't assign

pub given_append : (front later : List Assignment) (key : UnitKey) → given (front ++ later) key ≡ given front key ++ given later key
given_append front later key =
    ap (map (λ (a : Assignment). a.value)) (filter-append (λ (a : Assignment). is_same_key key a.at) front later)
    ∙ map-append (λ (a : Assignment). a.value) (filter (λ (a : Assignment). is_same_key key a.at) front) (filter (λ (a : Assignment). is_same_key key a.at) later)

not_given : (text : List Assignment) (key : UnitKey) → is_assigned text key ≡ false → given text key ≡ []
not_given text key h = nil_from_length _ (eqb-true _ 0 (not-false _ h))

pub no_values : (text : List Assignment) (key : UnitKey) → is_assigned text key ≡ false → values_of text key ≡ []
no_values text key h = ap after_last_empty (not_given text key h)

pub values_kept : (front later : List Assignment) (key : UnitKey) → is_assigned later key ≡ false → values_of (front ++ later) key ≡ values_of front key
values_kept front later key h =
    ap after_last_empty (given_append front later key ∙ ap (λ vs. given front key ++ vs) (not_given later key h) ∙ append-nil (given front key))

-- ---- the first assignments of a later text

pub begins : (old first rest all new : List Assignment) → new ≡ old ++ first → first ++ rest ≡ all → HasFrontOf old all new
begins old first rest all new e whole = record {
  applied = length first;
  front = e ∙ ap (λ xs. old ++ xs) (sym (take_at first rest (length first) refl) ∙ ap (take (length first)) whole);
}

-- a text that begins with those of its first part, or of its second after all of the first
pub of_first : (old first second new : List Assignment) → HasFrontOf old first new → HasFrontOf old (first ++ second) new
of_first old first second new has =
    begins old (take has.applied first) (drop has.applied first ++ second) (first ++ second) new has.front
    (sym (append_assoc (take has.applied first) (drop has.applied first) second) ∙ ap (λ xs. xs ++ second) (take-append-drop has.applied first))

pub of_second : (old first second new : List Assignment) → HasFrontOf (old ++ first) second new → HasFrontOf old (first ++ second) new
of_second old first second new has =
    begins old (first ++ take has.applied second) (drop has.applied second) (first ++ second) new
    (has.front ∙ append_assoc old first (take has.applied second))
    (append_assoc first (take has.applied second) (drop has.applied second) ∙ ap (λ xs. first ++ xs) (take-append-drop has.applied second))

pub none_first : (old later new : List Assignment) → new ≡ old → HasFrontOf old later new
none_first old later new e = begins old [] later later new (e ∙ sym (append-nil old)) refl
