-- An index after one more assignment.
use Rattle.std.proofs.Common.{◌≡◌, ℕ, ◌+◌, ◌<◌, Bool, true, false, not, cond, ◌==◌, ◌||◌, List, [], ◌∷◌, ◌++◌, length, get_or, take, drop, set, map, refl, sym, ap, ◌∙◌, subst, suc, arith, Some}
use Rattle.std.specs.List.{insert, slice_get}
use Rattle.std.specs.List.Sorted.{IsStrictlySortedBy, IsStableBy}
use Rattle.std.proofs.lemmas.Bool.{ne_eqb}
use Rattle.std.proofs.lemmas.List.{append-nil, append_assoc, map-append, length-take-le, length-map, length_push, get_or-map, set_at, take-append-drop, take-map, drop-map, drop_more, take_more}
use Rattle.std.proofs.lemmas.List.Folds.{list_any-append}
use Rattle.std.proofs.lemmas.Option.{get_or_from_slice_get, slice_get_within}
use Rattle.unit_text.specs.declared.assignment.Assignment.{Assignment}
use Rattle.unit_text.specs.declared.index.Index.{Index}
use Rattle.unit_text.specs.declared.unit_key.UnitKey.{UnitKey}
use Rattle.switch_names.specs.Texts.{is_empty}
use Rattle.unit_text.specs.UnitKey.{key_cmp, is_same_key, has_key}
use Rattle.unit_text.specs.UnitText.{AreAssignedIn, after_last_empty, given, is_assigned, values_of}
use Rattle.unit_text.specs.Index.{IsIndexOf, IsPlaceFor}
use Rattle.unit_text.proofs.KeyLemmas.{same_key, same_keys, same_self, other_lacks, below_other, above_other, AreOther, sorted_insert, sorted_below, sorted_above}
use Rattle.unit_text.proofs.ValueLemmas.{given_push, given_stable, values_other, values_cleared, values_added, values_kept, is_lower}

pub none_sorted : IsStrictlySortedBy key_cmp []
unfolding IsStrictlySortedBy
none_sorted = tt

-- no key is assigned by no assignments
pub none_assigned : AreAssignedIn [] []
none_assigned = record { sorted = none_sorted; exact = λ key. refl }

pub no_keys : (keys : List UnitKey) → AreAssignedIn [] keys → [] ≡ keys
no_keys keys are = same_keys [] keys none_sorted are.sorted (λ key. sym (are.exact key))

-- a list round one of its elements
split_at_place : {X : Type 0} (xs : List X) (at : ℕ) (x : X) → at < length xs → slice_get xs at ≡ Some x → xs ≡ take at xs ++ x ∷ drop (suc at) xs
split_at_place xs at x lt e =
    let next : at + 1 ≡ suc at = omega arith in
    sym (take-append-drop at xs)
    ∙ ap (λ ys. take at xs ++ ys) (drop_more xs at x lt ∙ (λ i. get_or_from_slice_get xs at x x e i ∷ drop (next i) xs))

-- a copy of one more element
pub copied_more : {X : Type 0} (start xs : List X) (i : ℕ) (x copied : X) (before after : List X) → i < length xs → x ≡ get_or xs i x → before ≡ start ++ take i xs → copied ≡ x
    → after ≡ before ++ copied ∷ [] → after ≡ start ++ take (i + 1) xs
copied_more start xs i x copied before after lt item so_far same pushed =
    pushed ∙ (λ j. so_far j ++ same j ∷ []) ∙ append_assoc start (take i xs) (x ∷ [])
    ∙ ap (λ ys. start ++ ys) (ap (λ y. take i xs ++ y ∷ []) item ∙ sym (take_more xs i x lt))

-- which keys a list has round one of its keys
has_parts : (front back : List UnitKey) (key : UnitKey) → has_key (front ++ back) key ≡ (has_key front key || has_key back key)
has_parts front back key = list_any-append (is_same_key key) front back

has_round : (front back : List UnitKey) (at key : UnitKey) → has_key (front ++ at ∷ back) key ≡ (has_key front key || (is_same_key key at || has_key back key))
has_round front back at key = list_any-append (is_same_key key) front (at ∷ back)

other_parts : (front back : List UnitKey) (key : UnitKey) → AreOther front key → AreOther back key → AreOther (front ++ back) key
other_parts [] back key f b = b
other_parts (k ∷ front) back key f b = (f.0, other_parts front back key f.1 b)

not_empty : (values : List (List ℕ)) (value : List ℕ) → not (length (values ++ value ∷ []) == 0) ≡ true
not_empty values value = ap not (ne_eqb _ 0 (let n = length_push values value in λ e. omega arith))

lacks_parts : (keys : List UnitKey) (key : UnitKey) (at : ℕ) → IsPlaceFor keys key at → AreOther keys key
lacks_parts keys key at place =
    subst (λ (ks : List UnitKey). AreOther ks key) (take-append-drop at keys) (other_parts _ _ key (below_other _ key place.lower) (above_other _ key place.higher))

pub missing_lacks : (keys : List UnitKey) (key : UnitKey) (at : ℕ) → IsPlaceFor keys key at → has_key keys key ≡ false
missing_lacks keys key at place = other_lacks keys key (lacks_parts keys key at place)

-- a key that stands in no list isn't assigned
pub missing_key : (later : List Assignment) (keys : List UnitKey) (key : UnitKey) (at : ℕ) → AreAssignedIn later keys → IsPlaceFor keys key at → is_assigned later key ≡ false
missing_key later keys key at are place = sym (are.exact key) ∙ missing_lacks keys key at place

-- the values that stand at the place of a key
pub read_values : (text : List Assignment) (keys : List UnitKey) (all : List (List (List ℕ))) (at : ℕ) (key : UnitKey)
    → all ≡ map (values_of text) keys → slice_get keys at ≡ Some key → get_or all at [] ≡ values_of text key
read_values text keys all at key are found =
    ap (λ (vs : List (List (List ℕ))). get_or vs at []) are
    ∙ get_or-map (values_of text) keys at key [] (slice_get_within keys at key found) ∙ ap (values_of text) (get_or_from_slice_get keys at key key found)

module _ (text : List Assignment) (one : Assignment) where
  others_keep : (keys : List UnitKey) → AreOther keys one.at → map (values_of (text ++ one ∷ [])) keys ≡ map (values_of text) keys
  others_keep [] h = refl
  others_keep (k ∷ keys) h = λ i. values_other text one k h.0 i ∷ others_keep keys h.1 i

module _ (front later : List Assignment) (one : Assignment) where
  abbrev text : List Assignment
  text = front ++ later

  abbrev more : List Assignment
  more = text ++ one ∷ []

  is_more : more ≡ front ++ (later ++ one ∷ [])
  is_more = append_assoc front later (one ∷ [])

  one_assigned : is_assigned (later ++ one ∷ []) one.at ≡ true
  one_assigned =
      ap (λ (vs : List (List ℕ)). not (length vs == 0)) (given_push later one one.at ∙ ap (λ b. given later one.at ++ cond b (one.value ∷ []) []) (same_self one.at))
      ∙ not_empty (given later one.at) one.value

  -- every other key is assigned where it was
  other_assigned : (key : UnitKey) → is_same_key key one.at ≡ false → is_assigned (later ++ one ∷ []) key ≡ is_assigned later key
  other_assigned key e =
      ap (λ (vs : List (List ℕ)). not (length vs == 0))
      (given_push later one key ∙ ap (λ b. given later key ++ cond b (one.value ∷ []) []) e ∙ append-nil (given later key))

  -- the values of the key after an empty assignment, and after another
  pub cleared : is_empty one.value ≡ true → [] ≡ values_of more one.at
  cleared none = sym (values_cleared text one one.at (same_self one.at) none)

  pub added : (before : List (List ℕ)) → before ≡ values_of text one.at → is_empty one.value ≡ false → before ++ one.value ∷ [] ≡ values_of more one.at
  added before are some = ap (λ vs. vs ++ one.value ∷ []) are ∙ sym (values_added text one one.at (same_self one.at) some)

  module _ (old new : Index) (is : IsIndexOf front later old) where
    exact_by : has_key new.keys one.at ≡ true → ((key : UnitKey) → is_same_key key one.at ≡ false → has_key new.keys key ≡ has_key old.keys key)
        → (key : UnitKey) → has_key new.keys key ≡ is_assigned (later ++ one ∷ []) key
    exact_by here there key = by (is_same_key key one.at) refl
      where
        by : (b : Bool) → is_same_key key one.at ≡ b → has_key new.keys key ≡ is_assigned (later ++ one ∷ []) key
        by true e = subst (λ (k : UnitKey). has_key new.keys k ≡ is_assigned (later ++ one ∷ []) k) (sym (same_key key one.at e)) (here ∙ sym one_assigned)
        by false e = there key e ∙ is.keys.exact key ∙ sym (other_assigned key e)

    whole_values : new.values.items ≡ map (values_of more) new.keys → new.values.items ≡ map (values_of (front ++ (later ++ one ∷ []))) new.keys
    whole_values e = e ∙ ap (λ (all : List Assignment). map (values_of all) new.keys) is_more

    -- the values that stood at the place of the key
    pub had : (at : ℕ) → slice_get old.keys at ≡ Some one.at → get_or old.values.items at [] ≡ values_of text one.at
    had at found = read_values text old.keys old.values.items at one.at is.values found

    -- the key stands in the list, and gets other values
    pub replaces : (at : ℕ) (now : List (List ℕ)) → slice_get old.keys at ≡ Some one.at → now ≡ values_of more one.at
        → new.keys ≡ old.keys → new.values.items ≡ set old.values.items at now → IsIndexOf front (later ++ one ∷ []) new
    replaces at now found are keys values =
        let lt = slice_get_within old.keys at one.at found in
        let before = take at old.keys in
        let behind = drop (suc at) old.keys in
        let split = split_at_place old.keys at one.at lt found in
        let sorted = subst (IsStrictlySortedBy key_cmp) split is.keys.sorted in
        let below = below_other before one.at (sorted_below before one.at behind sorted) in
        let above = above_other behind one.at (sorted_above before one.at behind sorted) in
        let size : length (map (values_of text) before) ≡ at = length-map before (values_of text) ∙ length-take-le at old.keys (omega arith) in
        let all : old.values.items ≡ map (values_of text) before ++ values_of text one.at ∷ map (values_of text) behind =
        is.values ∙ ap (map (values_of text)) split ∙ map-append (values_of text) before (one.at ∷ behind) in
        record {
          keys = record {
            sorted = subst (IsStrictlySortedBy key_cmp) (sym keys) is.keys.sorted;
            exact = exact_by
                (ap (λ (ks : List UnitKey). has_key ks one.at) (keys ∙ split) ∙ has_round before behind one.at one.at
                ∙ (λ i. other_lacks before one.at below i || (same_self one.at i || has_key behind one.at)))
                (λ key e. ap (λ (ks : List UnitKey). has_key ks key) keys);
          };
          values = whole_values
              (values ∙ (λ i. set (all i) at (are i))
              ∙ set_at (map (values_of text) before) (values_of text one.at) (map (values_of text) behind) (values_of more one.at) at size
              ∙ sym (λ i. others_keep text one before below i ++ values_of more one.at ∷ others_keep text one behind above i)
              ∙ sym (ap (map (values_of more)) (keys ∙ split) ∙ map-append (values_of more) before (one.at ∷ behind)));
        }

    -- the key stands in no list, and is put there
    pub inserts : (at : ℕ) (now : List (List ℕ)) → IsPlaceFor old.keys one.at at → now ≡ values_of more one.at
        → new.keys ≡ insert old.keys at one.at → new.values.items ≡ insert old.values.items at now → IsIndexOf front (later ++ one ∷ []) new
    inserts at now place are keys values =
        let before = take at old.keys in
        let behind = drop at old.keys in
        let below = below_other before one.at place.lower in
        let above = above_other behind one.at place.higher in
        let whole = take-append-drop at old.keys in
        record {
          keys = record {
            sorted = subst (IsStrictlySortedBy key_cmp) (sym keys) (sorted_insert before one.at behind (subst (IsStrictlySortedBy key_cmp) (sym whole) is.keys.sorted) place.lower place.higher);
            exact = exact_by
                (ap (λ (ks : List UnitKey). has_key ks one.at) keys ∙ has_round before behind one.at one.at
                ∙ (λ i. other_lacks before one.at below i || (same_self one.at i || has_key behind one.at)))
                (λ key e.
                ap (λ (ks : List UnitKey). has_key ks key) keys ∙ has_round before behind one.at key ∙ ap (λ b. has_key before key || (b || has_key behind key)) e
                ∙ sym (ap (λ (ks : List UnitKey). has_key ks key) (sym whole) ∙ has_parts before behind key));
          };
          values = whole_values
              (values ∙ ap (λ (vs : List (List (List ℕ))). insert vs at now) is.values
              ∙ (λ i. take-map (values_of text) at old.keys i ++ are i ∷ drop-map (values_of text) at old.keys i)
              ∙ sym (λ i. others_keep text one before below i ++ values_of more one.at ∷ others_keep text one behind above i)
              ∙ sym (ap (map (values_of more)) keys ∙ map-append (values_of more) before (one.at ∷ behind)));
        }

    -- a key that stood in no list has the values that it had before
    pub entering : (at : ℕ) (before : List (List ℕ)) → IsPlaceFor old.keys one.at at → before ≡ values_of front one.at → before ≡ values_of text one.at
    entering at before place are = are ∙ sym (values_kept front later one.at (missing_key later old.keys one.at at is.keys place))

-- an index doesn't depend on the order of the keys
pub index_stable : (text ordered : List Assignment) (index : Index) → IsStableBy is_lower text ordered → IsIndexOf [] ordered index → IsIndexOf [] text index
index_stable text ordered index h is =
    let same : (key : UnitKey) → given ordered key ≡ given text key = λ key. given_stable text ordered key h in
    record {
      keys = record {
        sorted = is.keys.sorted;
        exact = λ key. is.keys.exact key ∙ ap (λ (vs : List (List ℕ)). not (length vs == 0)) (same key);
      };
      values = is.values ∙ (λ i. map (λ key. after_last_empty (same key i)) index.keys);
    }
