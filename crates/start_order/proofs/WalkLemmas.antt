-- How a walk goes on, and where it ends.
use Rattle.std.proofs.Common.{◌≡◌, ◌⊎◌, ◌||◌, ◌++◌, ℕ, zero, suc, Bool, true, false, List, [], ◌∷◌, length, take, drop, Option, None, Some, IsSome, refl, sym, ap, subst, ◌∙◌, inl, inr, ⊎_elim, arith}
use Rattle.std.specs.List.{find, position, position_or_len, slice_get}
use Rattle.std.proofs.lemmas.List.{take-append-drop}
use Rattle.std.proofs.lemmas.List.Folds.{find_at, list_any-append}
use Rattle.std.proofs.lemmas.Option.{slice_get_within}
use Rattle.host_trait.proofs.NameOrder.{name_exact, name_itself}
use Rattle.start_order.specs.declared.edge.Edge.{Edge}
use Rattle.start_order.specs.Cycles.{IsCycle, IsOnce, IsWalk}
use Rattle.start_order.specs.Order.{is_before, waits_for}
use Rattle.start_order.proofs.OrderLemmas.{found_is, missed, never_both, placed}
use Rattle.switch_names.specs.Names.{Name, has, is_name}

-- ---- the first place of a name

found_there : (names : List Name) (name : Name) (o : Option Name) → find (is_name name) names ≡ o → has names name ≡ true → o ≡ Some name
found_there names name None none there = absurd (never_both (is_name name name) (name_itself name) (missed (is_name name) names name none there))
found_there names name (Some other) found there = ap (λ k. Some k) (sym (name_exact name other (found_is (is_name name) names other found).0))

-- a name of a list stands at its first place
pub at_first_place : (names : List Name) (name : Name) → has names name ≡ true → slice_get names (position_or_len (is_name name) names) ≡ Some name
at_first_place names name there = sym (find_at (is_name name) names) ∙ found_there names name (find (is_name name) names) refl there

pub has_place : (names : List Name) (name : Name) → has names name ≡ true → IsSome (position (is_name name) names)
has_place names name there =
    let within = slice_get_within names (position_or_len (is_name name) names) name (at_first_place names name there) in
    grind (arith, within)

-- ---- lists to which an item is added

-- an item of a list with one more is one of the list or the last
pub get_either : {X : Type 0} (xs : List X) (y : X) (k : ℕ) (x : X) → slice_get (xs ++ y ∷ []) k ≡ Some x → (slice_get xs k ≡ Some x) ⊎ ((k ≡ length xs) × (y ≡ x))
get_either [] y zero x is = let same : y ≡ x = cc in inr (refl, same)
get_either [] y (suc k) x is = absurd (let no : None ≡ Some x = is in cc)
get_either (z ∷ xs) y zero x is = inl is
get_either (z ∷ xs) y (suc k) x is = ⊎_elim (λ at. inl at) (λ last. inr (ap suc last.0, last.1)) (get_either xs y k x is)

or_none : (a b : Bool) → (a || (b || false)) ≡ (a || b)
or_none true b = refl
or_none false true = refl
or_none false false = refl

-- a name is in a list with one more where it is in the list or that one
pub has_behind : (names : List Name) (one name : Name) → has (names ++ one ∷ []) name ≡ (has names name || is_name name one)
has_behind names one name = list_any-append (is_name name) names (one ∷ []) ∙ or_none (has names name) (is_name name one)

pub once_more : (names : List Name) (one : Name) → IsOnce names → has names one ≡ false → IsOnce (names ++ one ∷ [])
once_more names one once lacks j k name first second =
    ⊎_elim
    (λ early. ⊎_elim (λ late. once j k name early late) (λ last. absurd (not_there j name early last.1)) (get_either names one k name second))
    (λ last. ⊎_elim (λ late. absurd (not_there k name late last.1)) (λ also. last.0 ∙ sym also.0) (get_either names one k name second))
    (get_either names one j name first)
  where
    not_there : (j : ℕ) (name : Name) → slice_get names j ≡ Some name → one ≡ name → ⊥
    not_there j name at same = never_both (has names one) (subst (λ n. has names n ≡ true) (sym same) (placed names j name at)) lacks

-- ---- walks

first_stays : (xs ys : List Name) (x : Name) → slice_get ((xs ++ x ∷ []) ++ ys) 0 ≡ slice_get (xs ++ x ∷ []) 0
first_stays [] ys x = refl
first_stays (z ∷ xs) ys x = refl

pub walk_on : (edges : List Edge) (left walk : List Name) (last next : Name) → IsWalk edges left (walk ++ last ∷ []) → waits_for edges left last ≡ Some next →
    IsWalk edges left ((walk ++ last ∷ []) ++ next ∷ [])
walk_on edges left [] last next steps waits zero unit after at behind =
    let one : last ≡ unit = cc in
    let other : next ≡ after = cc in
    subst (λ u. waits_for edges left u ≡ Some after) one (waits ∙ ap (λ n. Some n) other)
walk_on edges left [] last next steps waits (suc k) unit after at behind = absurd (let no : None ≡ Some after = behind in cc)
walk_on edges left (one ∷ walk) last next steps waits zero unit after at behind = steps zero unit after at (sym (first_stays walk (next ∷ []) last) ∙ behind)
walk_on edges left (one ∷ walk) last next steps waits (suc k) unit after at behind = walk_on edges left walk last next (λ j. steps (suc j)) waits k unit after at behind

-- a walk has gone from a unit to the next one, with each of its units once, and these units have been seen
pub record IsWalking (edges : List Edge) (left : List Name) (unit : Name) (walk : List Name) (next : Name) (seen : List Name) : Type 0 where
  pub begins : slice_get (walk ++ next ∷ []) 0 ≡ Some unit
  pub steps : IsWalk edges left (walk ++ next ∷ [])
  pub once : IsOnce walk
  pub are_seen : (name : Name) → has seen name ≡ has walk name
  pub is_left : has left next ≡ true

module _ (edges : List Edge) (left : List Name) (unit : Name) where
  walked : (walk : List Name) (next after : Name) (seen more : List Name) → IsWalking edges left unit walk next seen → has seen next ≡ false →
      ((name : Name) → has more name ≡ (has seen name || is_name name next)) → waits_for edges left next ≡ Some after → IsWalking edges left unit (walk ++ next ∷ []) after more
  walked walk next after seen more way new added waits = record {
    begins = first_stays walk (after ∷ []) next ∙ way.begins;
    steps = walk_on edges left walk next after way.steps waits;
    once = once_more walk next way.once (sym (way.are_seen next) ∙ new);
    are_seen = λ name. added name ∙ ap (λ b. b || is_name name next) (way.are_seen name) ∙ sym (has_behind walk next name);
    is_left = (found_is (λ other. is_before edges other next) left after waits).1;
  }

  pub walks_on : (walk further : List Name) (next item after later : Name) (seen more : List Name) → IsWalking edges left unit walk next seen → has seen next ≡ false →
      ((name : Name) → has more name ≡ (has seen name || is_name name next)) → waits_for edges left next ≡ Some after → further ≡ walk ++ item ∷ [] → item ≡ next → later ≡ after →
      IsWalking edges left unit further later more
  walks_on walk further next item after later seen more way new added waits pushed same last =
      subst (λ w. IsWalking edges left unit w later more) (sym (pushed ∙ ap (λ i. walk ++ i ∷ []) same))
      (subst (λ n. IsWalking edges left unit (walk ++ next ∷ []) n more) (sym last) (walked walk next after seen more way new added waits))

  first_drop : (names : List Name) (k : ℕ) → slice_get (drop k names) 0 ≡ slice_get names k
  first_drop [] zero = refl
  first_drop [] (suc k) = refl
  first_drop (one ∷ names) zero = refl
  first_drop (one ∷ names) (suc k) = first_drop names k

  first_walked : (walk : List Name) (next : Name) → has walk next ≡ true → slice_get (walk ++ next ∷ []) 0 ≡ slice_get walk 0
  first_walked [] next there = absurd (let no : false ≡ true = there in cc)
  first_walked (one ∷ walk) next there = refl

  pub comes_again : (walk : List Name) (next : Name) (seen cycle : List Name) → IsWalking edges left unit walk next seen → has seen next ≡ true →
      cycle ≡ drop (position_or_len (is_name next) walk) walk → IsCycle edges left unit cycle
  comes_again walk next seen cycle way again is =
      let place = position_or_len (is_name next) walk in
      let there : has walk next ≡ true = sym (way.are_seen next) ∙ again in
      let whole : walk ≡ take place walk ++ cycle = sym (take-append-drop place walk) ∙ ap (λ part. take place walk ++ part) (sym is) in
      record {
        lead = take place walk;
        first = next;
        begins = ap (λ names. slice_get names 0) (sym whole) ∙ sym (first_walked walk next there) ∙ way.begins;
        steps = subst (λ names. IsWalk edges left (names ++ next ∷ [])) whole way.steps;
        comes_again = ap (λ names. slice_get names 0) is ∙ first_drop walk place ∙ at_first_place walk next there;
        once = subst IsOnce whole way.once;
      }
