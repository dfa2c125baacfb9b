-- Two texts side by side: the keys that are left decide the rest.
use Rattle.std.proofs.Common.{◌≡◌, ℕ, ◌+◌, ◌<◌, Bool, true, false, not, cond, ◌&&◌, ◌||◌, List, [], ◌∷◌, ◌++◌, length, get_or, drop, map, refl, sym, ap, ◌∙◌, subst, ⊎_elim, ◌-◌, ◌≤◌, arith, None, Some, Option}
use Rattle.std.specs.Borrow.{Bor}
use Rattle.std.specs.Int.{from_bool}
use Rattle.std.specs.List.{AllByRecursion, slice_get}
use Rattle.std.specs.Option.{option_copied}
use Rattle.std.specs.Slice.{IsItemAt}
use Rattle.std.specs.declared.cmp.Ordering.{Ordering}
use Rattle.std.specs.List.Sorted.{IsStrictlySortedBy}
use Rattle.std.specs.declared.cmp.Ordering.TheVariants.{Less, Equal, Greater}
use Rattle.std.specs.Ordering.{is_ge, is_le, ordering_reverse}
use Rattle.std.proofs.lemmas.Bool.{and_parts, true≢false, or_parts}
use Rattle.std.proofs.Math.ListN.{drop_of_length-le}
use Rattle.std.proofs.lemmas.List.{drop_more, get_or-map, length-map}
use Rattle.std.proofs.lemmas.List.Folds.{list_any-append}
use Rattle.std.proofs.lemmas.Option.{slice_get_cases, slice_get_past, slice_get_within, slice_get_read, get_or_from_slice_get}
use Rattle.switch_names.specs.declared.unit_kind.UnitKind.{UnitKind}
use Rattle.unit_text.specs.declared.assignment.Assignment.{Assignment}
use Rattle.unit_text.specs.declared.unit_key.UnitKey.{UnitKey}
use Rattle.unit_text.specs.UnitKey.{key_cmp, is_same_key, has_key}
use Rattle.unit_text.specs.Parts.{AreParts}
use Rattle.unit_text.specs.declared.parts.Parts.{Parts}
use Rattle.unit_text.specs.UnitText.{AreAssignedIn, is_assigned, values_of}
use Rattle.unit_text.proofs.ValueLemmas.{no_values}
use Rattle.unit_text.proofs.KeyLemmas.{AreAbove, above_other, other_lacks, greater_other, exact_keys, above_first, key_total}
use Rattle.unit_compare.specs.declared.comparison.Comparison.{Comparison}
use Rattle.unit_compare.specs.declared.comparison.Comparison.TheVariants.{Same, ReloadOnly, Changed}
use Rattle.unit_compare.specs.Compare.{is_ignored, are_same_values, differs, is_reload_key, comparison}
use Rattle.unit_compare.specs.Walk.{key_comparison, worse, next_order}
use Rattle.unit_compare.proofs.Outcomes.{by_tests, one, made_first, worse_assoc, worse_comm, worse_itself}
use Rattle.unit_compare.proofs.Differing.{made_of, is_changed, assigned, any_same, comparison_made, differing_assigned, unset_same}

-- the keys that are left of two texts: one of them stands in the other text exactly where it is left there
pub record AreLeft (old new : List Assignment) (of_old of_new : List UnitKey) : Type 0 where
  pub old_sorted : IsStrictlySortedBy key_cmp of_old
  pub new_sorted : IsStrictlySortedBy key_cmp of_new
  pub in_new : AllByRecursion (λ key. has_key of_new key ≡ is_assigned new key) of_old
  pub in_old : AllByRecursion (λ key. has_key of_old key ≡ is_assigned old key) of_new

-- a lower key doesn't matter to those above it
stand_on : (has : UnitKey → Bool) (key : UnitKey) (below above : List UnitKey) → AreAbove above key
    → AllByRecursion (λ other. has_key (key ∷ below) other ≡ has other) above → AllByRecursion (λ other. has_key below other ≡ has other) above
stand_on has key below [] over h = tt
stand_on has key below (x ∷ above) over h =
    (sym (ap (λ b. b || has_key below x) (greater_other x key over.0)) ∙ h.0, stand_on has key below above over.1 h.1)

-- a key below all that are left has no value
pub absent : (text : List Assignment) (key : UnitKey) (left : List UnitKey) → AreAbove left key → has_key left key ≡ is_assigned text key → values_of text key ≡ []
absent text key left over e = no_values text key (sym e ∙ other_lacks left key (above_other left key over))

module _ (old new : List Assignment) where
  -- the walk goes past a key of one text, or of both
  pub pass_old : (key : UnitKey) (of_old of_new : List UnitKey) → AreAbove of_new key → AreLeft old new (key ∷ of_old) of_new → AreLeft old new of_old of_new
  unfolding IsStrictlySortedBy
  pass_old key of_old of_new over left = record {
    old_sorted = left.old_sorted.1;
    new_sorted = left.new_sorted;
    in_new = left.in_new.1;
    in_old = stand_on (is_assigned old) key of_old of_new over left.in_old;
  }

  pub pass_new : (key : UnitKey) (of_old of_new : List UnitKey) → AreAbove of_old key → AreLeft old new of_old (key ∷ of_new) → AreLeft old new of_old of_new
  unfolding IsStrictlySortedBy
  pass_new key of_old of_new over left = record {
    old_sorted = left.old_sorted;
    new_sorted = left.new_sorted.1;
    in_new = stand_on (is_assigned new) key of_new of_old over left.in_new;
    in_old = left.in_old.1;
  }

  pub pass_both : (key : UnitKey) (of_old of_new : List UnitKey) → AreLeft old new (key ∷ of_old) (key ∷ of_new) → AreLeft old new of_old of_new
  unfolding IsStrictlySortedBy
  pass_both key of_old of_new left = record {
    old_sorted = left.old_sorted.1;
    new_sorted = left.new_sorted.1;
    in_new = stand_on (is_assigned new) key of_new of_old left.old_sorted.0 left.in_new.1;
    in_old = stand_on (is_assigned old) key of_old of_new left.new_sorted.0 left.in_old.1;
  }

-- ---- keys by their places

-- a key stands at a place of a list, or the list has ended there
pub data IsAt (keys : List UnitKey) (at : ℕ) : Type 0 where
  Here : (key : UnitKey) → slice_get keys at ≡ Some key → drop at keys ≡ key ∷ drop (at + 1) keys → IsAt keys at
  Past : slice_get keys at ≡ None → drop at keys ≡ [] → IsAt keys at

drop_here : (keys : List UnitKey) (at : ℕ) (key : UnitKey) → slice_get keys at ≡ Some key → drop at keys ≡ key ∷ drop (at + 1) keys
drop_here keys at key e =
    drop_more keys at key (slice_get_within keys at key e) ∙ ap (λ k. k ∷ drop (at + 1) keys) (get_or_from_slice_get keys at key key e)

pub is_at : (keys : List UnitKey) (at : ℕ) → IsAt keys at
is_at keys at =
    ⊎_elim
    (λ here. Here here.0 here.2 (drop_here keys at here.0 here.2))
    (λ past. Past past.1 (drop_of_length-le keys past.0))
    (slice_get_cases keys at).1

-- what one key comes to
pub one_key : (kind : UnitKind) (old new : List Assignment) (key : UnitKey) → key_comparison kind key (values_of old key) (values_of new key) ≡ one kind (differs old new) key
one_key kind old new key = by (is_ignored key) (are_same_values (values_of old key) (values_of new key)) (is_reload_key kind key)
  where
    by : (i s r : Bool) → cond (i || s) Same (cond r ReloadOnly Changed) ≡ by_tests ((not i && not s) && not r) (not i && not s)
    by true s r = refl
    by false true r = refl
    by false false true = refl
    by false false false = refl

-- what joins three outcomes in another order
first_of : (o p x y : Comparison) → worse (worse o p) (worse x y) ≡ worse o (worse (worse p x) y)
first_of o p x y = worse_assoc o p (worse x y) ∙ ap (worse o) (sym (worse_assoc p x y))

second_of : (o p x y : Comparison) → worse (worse o p) (worse x y) ≡ worse o (worse x (worse p y))
second_of o p x y =
    first_of o p x y
    ∙ ap (worse o) (ap (λ z. worse z y) (worse_comm p x) ∙ worse_assoc x p y)

both_of : (o p x y : Comparison) → worse (worse o p) (worse x y) ≡ worse o (worse (worse p x) (worse p y))
both_of o p x y =
    ap (λ z. worse (worse o z) (worse x y)) (sym (worse_itself p))
    ∙ ap (λ z. worse z (worse x y)) (sym (worse_assoc o p p))
    ∙ second_of (worse o p) p x y
    ∙ first_of o p x (worse p y)

-- ---- one turn

-- two texts, and the files with which they begin
pub record Texts : Type 0 where
  pub old_front : List Assignment
  pub new_front : List Assignment
  pub old : List Assignment
  pub new : List Assignment

abbrev pub texts_of : (old new : Parts) → AreParts old → AreParts new → Texts
texts_of old new o n = record { old_front = o.front; new_front = n.front; old = old.text.now; new = new.text.now }

abbrev pub made_in : UnitKind → Texts → List UnitKey → Comparison
made_in kind texts = made_of kind texts.old texts.new

abbrev pub one_in : UnitKind → Texts → UnitKey → Comparison
one_in kind texts = one kind (differs texts.old texts.new)

-- the outcome of all keys of the files
abbrev pub fronts_made : UnitKind → (old new : Parts) → AreParts old → AreParts new → Comparison
fronts_made kind old new o n = worse (made_in kind (texts_of old new o n) old.front_keys.now) (made_in kind (texts_of old new o n) new.front_keys.now)

-- what is left of the walk, and what it is to come to
pub record IsWalk (kind : UnitKind) (texts : Texts) (outcome end : Comparison) (of_old of_new : List UnitKey) : Type 0 where
  pub left : AreLeft texts.old_front texts.new_front of_old of_new
  pub rest : worse outcome (worse (made_in kind texts of_old) (made_in kind texts of_new)) ≡ end

module _ (kind : UnitKind) (texts : Texts) (outcome end : Comparison) (key : UnitKey) (of_old of_new : List UnitKey) where
  abbrev Turned : Type 0
  Turned = IsWalk kind texts (worse outcome (one_in kind texts key)) end of_old of_new

  abbrev one_of : Comparison
  one_of = one_in kind texts key

  first_is : (keys : List UnitKey) → made_in kind texts (key ∷ keys) ≡ worse one_of (made_in kind texts keys)
  first_is keys = made_first kind (differs texts.old texts.new) key keys

  -- the lower key stands in one of the files alone
  old_turn : IsWalk kind texts outcome end (key ∷ of_old) of_new → AreAbove of_new key → Turned
  old_turn walk over = record {
    left = pass_old texts.old_front texts.new_front key of_old of_new over walk.left;
    rest =
        first_of outcome one_of (made_in kind texts of_old) (made_in kind texts of_new)
        ∙ ap (λ o. worse outcome (worse o (made_in kind texts of_new))) (sym (first_is of_old))
        ∙ walk.rest;
  }

  new_turn : IsWalk kind texts outcome end of_old (key ∷ of_new) → AreAbove of_old key → Turned
  new_turn walk over = record {
    left = pass_new texts.old_front texts.new_front key of_old of_new over walk.left;
    rest =
        second_of outcome one_of (made_in kind texts of_old) (made_in kind texts of_new)
        ∙ ap (λ o. worse outcome (worse (made_in kind texts of_old) o)) (sym (first_is of_new))
        ∙ walk.rest;
  }

  both_turn : IsWalk kind texts outcome end (key ∷ of_old) (key ∷ of_new) → Turned
  both_turn walk = record {
    left = pass_both texts.old_front texts.new_front key of_old of_new walk.left;
    rest =
        both_of outcome one_of (made_in kind texts of_old) (made_in kind texts of_new)
        ∙ (λ i. worse outcome (worse (sym (first_is of_old) i) (sym (first_is of_new) i)))
        ∙ walk.rest;
  }

-- ---- one turn by places

-- the text with the lower key hasn't ended
pub less_here : (keys : List UnitKey) (at : ℕ) (that : Option UnitKey) → next_order (slice_get keys at) that ≡ Some Less → at < length keys
less_here keys at that e = by (is_at keys at) that e
  where
    by : IsAt keys at → (that : Option UnitKey) → next_order (slice_get keys at) that ≡ Some Less → at < length keys
    by (Here key h d) that e = slice_get_within keys at key h
    by (Past h d) None e = let n = sym (ap (λ o. next_order o None) h) ∙ e in cc
    by (Past h d) (Some other) e = let n = sym (ap (λ o. next_order o (Some other)) h) ∙ e in cc

pub greater_here : (keys : List UnitKey) (at : ℕ) (this : Option UnitKey) → next_order this (slice_get keys at) ≡ Some Greater → at < length keys
greater_here keys at this e = by (is_at keys at) this e
  where
    by : IsAt keys at → (this : Option UnitKey) → next_order this (slice_get keys at) ≡ Some Greater → at < length keys
    by (Here key h d) this e = slice_get_within keys at key h
    by (Past h d) None e = let n = sym (ap (λ o. next_order None o) h) ∙ e in cc
    by (Past h d) (Some other) e = let n = sym (ap (λ o. next_order (Some other) o) h) ∙ e in cc

-- where the keys are equal, neither text has ended
pub equal_here : (of_old of_new : List UnitKey) (at other : ℕ) → next_order (slice_get of_old at) (slice_get of_new other) ≡ Some Equal
    → (at < length of_old) × (other < length of_new)
equal_here of_old of_new at other e = by (is_at of_old at) (is_at of_new other)
  where
    by : IsAt of_old at → IsAt of_new other → (at < length of_old) × (other < length of_new)
    by (Here a at d) (Here b bt f) = (slice_get_within of_old _ a at, slice_get_within of_new other b bt)
    by (Here a at d) (Past bt f) = let n = sym (λ i. next_order (at i) (bt i)) ∙ e in cc
    by (Past at d) (Here b bt f) = let n = sym (λ i. next_order (at i) (bt i)) ∙ e in cc
    by (Past at d) (Past bt f) = let n = sym (λ i. next_order (at i) (bt i)) ∙ e in cc

-- where there is a key there are its values
pub valued_here : (text : List Assignment) (keys : List UnitKey) (all : List (List (List ℕ))) (at : ℕ) → all ≡ map (values_of text) keys → at < length keys → at < length all
valued_here text keys all at e lt = subst (λ (n : ℕ). at < n) (sym (ap length e ∙ length-map keys (values_of text))) lt

-- the lower key is below all that are left of the other text
less_above : (keys : List UnitKey) (at : ℕ) (key : UnitKey) → next_order (Some key) (slice_get keys at) ≡ Some Less → IsStrictlySortedBy key_cmp (drop at keys) → AreAbove (drop at keys) key
less_above keys at key e s = by (is_at keys at)
  where
    by : IsAt keys at → AreAbove (drop at keys) key
    by (Here other h d) =
        let some = sym (ap (λ o. next_order (Some key) o) h) ∙ e in
        let less : key_cmp key other ≡ Less = cc in
        subst (λ ks. AreAbove ks key) (sym d) (above_first key other (drop (at + 1) keys) less (subst (IsStrictlySortedBy key_cmp) d s))
    by (Past h d) = subst (λ ks. AreAbove ks key) (sym d) tt

greater_above : (keys : List UnitKey) (at : ℕ) (key : UnitKey) → next_order (slice_get keys at) (Some key) ≡ Some Greater → IsStrictlySortedBy key_cmp (drop at keys) → AreAbove (drop at keys) key
greater_above keys at key e s = by (is_at keys at)
  where
    by : IsAt keys at → AreAbove (drop at keys) key
    by (Here other h d) =
        let some = sym (ap (λ o. next_order o (Some key)) h) ∙ e in
        let greater : key_cmp other key ≡ Greater = cc in
        let less : key_cmp key other ≡ Less = key_total.antisymm key other ∙ ap ordering_reverse greater in
        subst (λ ks. AreAbove ks key) (sym d) (above_first key other (drop (at + 1) keys) less (subst (IsStrictlySortedBy key_cmp) d s))
    by (Past h d) = subst (λ ks. AreAbove ks key) (sym d) tt

-- the values at a key's place are the key's
read_values : (text : List Assignment) (keys : List UnitKey) (all : List (List (List ℕ))) (at : ℕ) (key : UnitKey) (values : List (List ℕ))
    → all ≡ map (values_of text) keys → at < length keys → key ≡ get_or keys at key → values ≡ get_or all at values → values ≡ values_of text key
read_values text keys all at key values e lt k v =
    v ∙ ap (λ (vs : List (List (List ℕ))). get_or vs at values) e ∙ get_or-map (values_of text) keys at key values lt ∙ ap (values_of text) (sym k)

module _ (kind : UnitKind) (texts : Texts) (outcome end : Comparison) (of_old of_new : List UnitKey) (old_values new_values : List (List (List ℕ))) (i j : ℕ)
    (walk : IsWalk kind texts outcome end (drop i of_old) (drop j of_new)) (v : old_values ≡ map (values_of texts.old_front) of_old) (w : new_values ≡ map (values_of texts.new_front) of_new) where
  -- what a key has in the two files, and the walk past it
  pub record Turn (key : UnitKey) (of_this of_that : List (List ℕ)) (k l : ℕ) : Type 0 where
    pub this : of_this ≡ values_of texts.old_front key
    pub that : of_that ≡ values_of texts.new_front key
    pub on : IsWalk kind texts (worse outcome (one_in kind texts key)) end (drop k of_old) (drop l of_new)

  pub less_turn : next_order (slice_get of_old i) (slice_get of_new j) ≡ Some Less → (key : UnitKey) → key ≡ get_or of_old i key
      → (values : List (List ℕ)) → values ≡ get_or old_values i values → Turn key values [] (i + 1) j
  less_turn e key k values h =
      let lt = less_here of_old i (slice_get of_new j) e in
      let at = slice_get_read of_old (length of_old) i key refl lt k in
      let over = less_above of_new j key (sym (ap (λ o. next_order o (slice_get of_new j)) at) ∙ e) walk.left.new_sorted in
      let here = subst (λ ks. IsWalk kind texts outcome end ks (drop j of_new)) (drop_here of_old i key at) walk in
      record {
        this = read_values texts.old_front of_old old_values i key values v lt k h;
        that = sym (absent texts.new_front key (drop j of_new) over here.left.in_new.0);
        on = old_turn kind texts outcome end key (drop (i + 1) of_old) (drop j of_new) here over;
      }

  pub greater_turn : next_order (slice_get of_old i) (slice_get of_new j) ≡ Some Greater → (key : UnitKey) → key ≡ get_or of_new j key
      → (values : List (List ℕ)) → values ≡ get_or new_values j values → Turn key [] values i (j + 1)
  greater_turn e key k values h =
      let lt = greater_here of_new j (slice_get of_old i) e in
      let at = slice_get_read of_new (length of_new) j key refl lt k in
      let over = greater_above of_old i key (sym (ap (λ o. next_order (slice_get of_old i) o) at) ∙ e) walk.left.old_sorted in
      let here = subst (λ ks. IsWalk kind texts outcome end (drop i of_old) ks) (drop_here of_new j key at) walk in
      record {
        this = sym (absent texts.old_front key (drop i of_old) over here.left.in_old.0);
        that = read_values texts.new_front of_new new_values j key values w lt k h;
        on = new_turn kind texts outcome end key (drop i of_old) (drop (j + 1) of_new) here over;
      }

  pub equal_turn : next_order (slice_get of_old i) (slice_get of_new j) ≡ Some Equal → (key : UnitKey) → key ≡ get_or of_old i key
      → (of_this of_that : List (List ℕ)) → of_this ≡ get_or old_values i of_this → of_that ≡ get_or new_values j of_that → Turn key of_this of_that (i + 1) (j + 1)
  equal_turn e key k of_this of_that h g = by (is_at of_old i) (is_at of_new j)
    where
      by : IsAt of_old i → IsAt of_new j → Turn key of_this of_that (i + 1) (j + 1)
      by (Here a at d) (Here b bt f) =
          let lt = slice_get_within of_old i a at in
          let mt = slice_get_within of_new j b bt in
          let some = sym (λ i. next_order (at i) (bt i)) ∙ e in
          let equal : key_cmp a b ≡ Equal = cc in
          let first : key ≡ a = k ∙ get_or_from_slice_get of_old i a key at in
          let second : b ≡ key = sym (exact_keys a b equal) ∙ sym first in
          record {
            this = read_values texts.old_front of_old old_values i key of_this v lt k h;
            that = read_values texts.new_front of_new new_values j b of_that w mt (sym (get_or_from_slice_get of_new j b b bt)) g ∙ ap (values_of texts.new_front) second;
            on = both_turn kind texts outcome end key (drop (i + 1) of_old) (drop (j + 1) of_new)
                (subst (λ ks. IsWalk kind texts outcome end ks (key ∷ drop (j + 1) of_new)) (d ∙ ap (λ x. x ∷ drop (i + 1) of_old) (sym first))
                (subst (λ ks. IsWalk kind texts outcome end (drop i of_old) ks) (f ∙ ap (λ x. x ∷ drop (j + 1) of_new) second) walk));
          }
      by (Here a at d) (Past bt f) = let n = sym (λ i. next_order (at i) (bt i)) ∙ e in cc
      by (Past at d) (Here b bt f) = let n = sym (λ i. next_order (at i) (bt i)) ∙ e in cc
      by (Past at d) (Past bt f) = let n = sym (λ i. next_order (at i) (bt i)) ∙ e in cc

  -- where no key is left, the outcome is that of all keys
  pub at_end : next_order (slice_get of_old i) (slice_get of_new j) ≡ None → outcome ≡ end
  at_end e = by (is_at of_old i) (is_at of_new j)
    where
      by : IsAt of_old i → IsAt of_new j → outcome ≡ end
      by (Past at d) (Past bt f) =
          sym (worse_comm outcome Same) ∙ (λ k. worse outcome (worse (made_in kind texts (sym d k)) (made_in kind texts (sym f k)))) ∙ walk.rest
      by (Here a at d) (Here b bt f) = let n = sym (λ i. next_order (at i) (bt i)) ∙ e in cc
      by (Here a at d) (Past bt f) = let n = sym (λ i. next_order (at i) (bt i)) ∙ e in cc
      by (Past at d) (Here b bt f) = let n = sym (λ i. next_order (at i) (bt i)) ∙ e in cc

-- a key that differs stands in one of the parts of the texts
module _ (old new : Parts) (are_old : AreParts old) (are_new : AreParts new) where
  abbrev pub parted : List UnitKey
  parted = (old.front_keys.now ++ new.front_keys.now) ++ (old.changed_keys.now ++ new.changed_keys.now)

  unset : (parts : Parts) (are : AreParts parts) (key : UnitKey) → has_key parts.front_keys.now key ≡ false → has_key parts.changed_keys.now key ≡ false → values_of parts.text.now key ≡ []
  unset parts are key h g = are.others key g ∙ no_values are.front key (sym (are.front_keys.exact key) ∙ h)

  valued : (key : UnitKey) → differs old.text.now new.text.now key ≡ true → has_key parted key ≡ true
  valued key d = by (has_key parted key) refl
    where
      by : (t : Bool) → has_key parted key ≡ t → has_key parted key ≡ true
      by true h = h
      by false h =
          let halves = or_parts _ _ (sym (list_any-append (is_same_key key) (old.front_keys.now ++ new.front_keys.now) (old.changed_keys.now ++ new.changed_keys.now)) ∙ h) in
          let fronts = or_parts _ _ (sym (list_any-append (is_same_key key) old.front_keys.now new.front_keys.now) ∙ halves.0) in
          let changed = or_parts _ _ (sym (list_any-append (is_same_key key) old.changed_keys.now new.changed_keys.now) ∙ halves.1) in
          absurd (true≢false (sym d ∙ unset_same old.text.now new.text.now key (unset old are_old key fronts.0 changed.0) (unset new are_new key fronts.1 changed.1)))

  -- the keys of the parts decide as those that are assigned do
  pub walked : (kind : UnitKind) → made_of kind old.text.now new.text.now parted ≡ comparison kind old.text.now new.text.now
  walked kind =
      let alike : (key : UnitKey) → differs old.text.now new.text.now key ≡ true → has_key parted key ≡ has_key (assigned old.text.now new.text.now) key =
      λ key d. valued key d ∙ sym (differing_assigned old.text.now new.text.now key d) in
      (λ i. by_tests
      (any_same (is_changed kind old.text.now new.text.now) parted (assigned old.text.now new.text.now) (λ key e. alike key (and_parts _ _ e).0) i)
      (any_same (differs old.text.now new.text.now) parted (assigned old.text.now new.text.now) alike i))
      ∙ sym (comparison_made kind old.text.now new.text.now)

-- the same by equal outcomes and places
pub moved : (kind : UnitKind) (texts : Texts) (end : Comparison) (of_old of_new : List UnitKey) (o p : Comparison) (i k j l : ℕ) → p ≡ o → k ≡ i → l ≡ j
    → IsWalk kind texts o end (drop i of_old) (drop j of_new) → IsWalk kind texts p end (drop k of_old) (drop l of_new)
moved kind texts end of_old of_new o p i k j l a b c walk =
    subst (λ (n : ℕ). IsWalk kind texts p end (drop k of_old) (drop n of_new)) (sym c)
    (subst (λ (n : ℕ). IsWalk kind texts p end (drop n of_old) (drop j of_new)) (sym b)
    (subst (λ (q : Comparison). IsWalk kind texts q end (drop i of_old) (drop j of_new)) (sym a) walk))

-- where no key has been passed, all keys are left
pub at_start : (kind : UnitKind) (texts : Texts) (of_old of_new : List UnitKey) → AreAssignedIn texts.old_front of_old → AreAssignedIn texts.new_front of_new
    → IsWalk kind texts Same (worse (made_in kind texts of_old) (made_in kind texts of_new)) of_old of_new
at_start kind texts of_old of_new old_are new_are = record {
  left = record {
    old_sorted = old_are.sorted;
    new_sorted = new_are.sorted;
    in_new = each of_new texts.new_front new_are.exact of_old;
    in_old = each of_old texts.old_front old_are.exact of_new;
  };
  rest = refl;
}
  where
    each : (keys : List UnitKey) (text : List Assignment) → ((key : UnitKey) → has_key keys key ≡ is_assigned text key)
        → (others : List UnitKey) → AllByRecursion (λ key. has_key keys key ≡ is_assigned text key) others
    each keys text exact [] = tt
    each keys text exact (key ∷ others) = (exact key, each keys text exact others)

-- what `get` of a slice lends
pub item_at : (keys : List UnitKey) (at : ℕ) (lent : Option (Bor UnitKey)) → IsItemAt keys at lent → slice_get keys at ≡ option_copied lent
item_at keys at None is = slice_get_past keys at is.3
item_at keys at (Some key) is = slice_get_read keys (length keys) at key.now refl is.3.0 is.1

-- ---- the next places

-- the text whose key is next hasn't ended
abbrev pub IsHere : Ordering → ℕ → ℕ → ℕ → ℕ → Type 0
IsHere Less old_at old_length new_at new_length = old_at < old_length
IsHere Equal old_at old_length new_at new_length = (old_at < old_length) × (new_at < new_length)
IsHere Greater old_at old_length new_at new_length = new_at < new_length

pub is_here : (of_old of_new : List UnitKey) (at other : ℕ) (order : Ordering) → next_order (slice_get of_old at) (slice_get of_new other) ≡ Some order
    → IsHere order at (length of_old) other (length of_new)
is_here of_old of_new at other Less e = less_here of_old at _ e
is_here of_old of_new at other Equal e = equal_here of_old of_new at other e
is_here of_old of_new at other Greater e = greater_here of_new other _ e

module _ (old_length new_length old_at new_at old_step new_step : ℕ) (of_old : old_at ≤ old_length) (of_new : new_at ≤ new_length) where
  -- no place is past its text
  pub places : (order : Ordering) → old_step ≡ from_bool (is_le order) → new_step ≡ from_bool (is_ge order) → IsHere order old_at old_length new_at new_length
      → (old_at + old_step ≤ old_length) × (new_at + new_step ≤ new_length)
  places Less old_by new_by here = (omega arith, omega arith)
  places Equal old_by new_by here = let this = here.0 in let that = here.1 in (omega arith, omega arith)
  places Greater old_by new_by here = (omega arith, omega arith)

  -- one of the texts has a key less
  pub fewer : (order : Ordering) → old_step ≡ from_bool (is_le order) → new_step ≡ from_bool (is_ge order) → IsHere order old_at old_length new_at new_length
      → (old_length - (old_at + old_step)) + (new_length - (new_at + new_step)) < (old_length - old_at) + (new_length - new_at)
  fewer Less old_by new_by here = omega arith
  fewer Equal old_by new_by here = let this = here.0 in let that = here.1 in omega arith
  fewer Greater old_by new_by here = omega arith

pub stays : (at step : ℕ) → step ≡ 0 → at + step ≡ at
stays at step none = omega arith
