-- Ids that accounts get one after another.
use Rattle.std.proofs.Common.{◌≡◌, ◌≢◌, ◌⊎◌, ℕ, ◌+◌, ◌-◌, ◌<◌, ◌≤◌, ◌==◌, ◌&&◌, ◌||◌, Bool, true, false, not, cond, List, [], ◌∷◌, ◌++◌, length, get_or, drop, map, find, reverse, Option, None, Some, refl, sym, ap, subst, ◌∙◌, inl, inr, zero, suc, append-nil, append_assoc, arith}
use Rattle.std.proofs.lemmas.Bool.Decides.{eqb_tells}
use Rattle.std.proofs.lemmas.List.{drop_all, drop_more, reverse-append}
use Rattle.std.specs.FinMap.{entries, get, get-entries}
use Rattle.std.specs.FinMap as finmap
use Rattle.std.specs.List.{AllByRecursion, list_any, range_with_len}
use Rattle.std.specs.List.Sorted.{IsStrictlySortedBy}
use Rattle.std.specs.Option.{option_or}
use Rattle.std.specs.Ordering.{is_eq}
use Rattle.std.specs.Bool.{nat_le}
use Rattle.std.specs.declared.cmp.Ordering.TheVariants.{Less}
use Rattle.host_trait.specs.Bytes.{bytes_cmp}
use Rattle.host_trait.proofs.KeyOrder.{keys_sorted}
use Rattle.host_trait.proofs.NameOrder.{name_exact}
use Rattle.switch_names.specs.Names.{Name, is_name}
use Rattle.switch_names.proofs.Lists.{all_join, find_same}
use Rattle.id_memory.specs.Free.{is_free, numbers_towards}
use Rattle.host_trait.specs.Ids.{Ids}
use Rattle.id_memory.specs.Ids.{rows_of}
use Rattle.id_memory.specs.declared.id_row.IdRow.{IdRow}
use Rattle.users_merge.specs.Account.{Account, choose, free_id, give, has_id, of_other, span, unused, while_some}
use Rattle.users_merge.specs.Taken.{AreTakenIn, is_open}

-- ---- a search

-- tests that agree on a list find the same
find_alike : {X : Type 0} (p q : X → Bool) (xs : List X) → AllByRecursion (λ x. p x ≡ q x) xs → find p xs ≡ find q xs
find_alike p q [] same = refl
find_alike p q (x ∷ xs) same = λ i. cond (same.0 i) (Some x) (find_alike p q xs same.1 i)

all_range : (P : ℕ → Type 0) (first count : ℕ) → ((n : ℕ) → n < first + count → P n) → AllByRecursion P (range_with_len first count)
all_range P first zero h = tt
all_range P first (suc count) h = (h first (omega arith), all_range P (first + 1) count (λ n small. h n (omega arith)))

all_reverse : {X : Type 0} (P : X → Type 0) (xs : List X) → AllByRecursion P xs → AllByRecursion P (reverse xs)
all_reverse P [] h = tt
all_reverse P (x ∷ xs) h = subst (AllByRecursion P) (sym (reverse-append (x ∷ []) xs)) (all_join P (reverse xs) (x ∷ []) (all_reverse P xs h.1) (h.0, tt))

-- what holds of all small numbers holds of those towards a small one
pub all_towards : (P : ℕ → Type 0) (from to : ℕ) → ((n : ℕ) → n < 30000 → P n) → from < 30000 → to < 30000 → AllByRecursion P (numbers_towards from to)
all_towards P from to h a b = by (nat_le from to)
  where
    by : (up : Bool) → AllByRecursion P (cond up (range_with_len from (to + 1 - from)) (reverse (range_with_len to (from + 1 - to))))
    by true = all_range P from (to + 1 - from) (λ n small. h n (omega arith))
    by false = all_reverse P _ (all_range P to (from + 1 - to) (λ n small. h n (omega arith)))

-- the ids that aren't marked are open
pub open_found :
    (used known keys : List ℕ) (marks : List Bool) (from to : ℕ) → AreTakenIn used known keys marks → from < 30000 → to < 30000 →
    find (is_free marks) (numbers_towards from to) ≡ find (is_open used known) (numbers_towards from to)
open_found used known keys marks from to are a b = find_alike _ _ _ (all_towards _ from to (λ id small. ap not (are.marked id small)) a b)

-- ---- an id that is remembered for another name

module _ (used : List ℕ) (name : Name) (id : ℕ) where
  abbrev of_any : List (Name × ℕ) → Bool
  of_any es = list_any (λ (e : Name × ℕ). e.1 == id) es

  abbrev of_others : List (Name × ℕ) → Bool
  of_others es = list_any (λ (e : Name × ℕ). not (is_name name e.0) && (e.1 == id)) es

  -- where no entry has the name, all are of others
  all_others : (es : List (Name × ℕ)) → AllByRecursion (λ (e : Name × ℕ). is_name name e.0 ≡ false) es → of_any es ≡ of_others es
  all_others [] other = refl
  all_others (e ∷ es) other =
      sym (ap (λ b. (not b && (e.1 == id)) || of_any es) other.0) ∙ ap (λ b. (not (is_name name e.0) && (e.1 == id)) || b) (all_others es other.1)

  above_apart : (key : Name) (es : List (Name × ℕ)) → name ≡ key → AllByRecursion (λ other. bytes_cmp key other ≡ Less) (map (λ (e : Name × ℕ). e.0) es) → AllByRecursion (λ (e : Name × ℕ). is_name name e.0 ≡ false) es
  above_apart key [] same above = tt
  above_apart key (e ∷ es) same above = (ap (λ k. is_name k e.0) same ∙ ap is_eq above.0, above_apart key es same above.1)

  other_id : (n : ℕ) → unused used (Some n) ≡ None → has_id used id ≡ false → (n == id) ≡ false
  other_id n none free = by (eqb_tells n id)
    where
      by : (((n == id) ≡ true) × (n ≡ id)) ⊎ (((n == id) ≡ false) × (n ≢ id)) → (n == id) ≡ false
      by (inl same) =
          let is : cond (has_id used n) None (Some n) ≡ Some n = ap (λ b. cond b None (Some n)) (ap (has_id used) same.1 ∙ free) in
          absurd (let wrong : None ≡ Some n = sym none ∙ is in cc)
      by (inr other) = other.0

  known_others :
      (es : List (Name × ℕ)) → IsStrictlySortedBy bytes_cmp (map (λ (e : Name × ℕ). e.0) es) → unused used (finmap.find bytes_cmp name es) ≡ None → has_id used id ≡ false →
      of_any es ≡ of_others es
  unfolding IsStrictlySortedBy
  known_others [] sorted none free = refl
  known_others (e ∷ es) sorted none free = by (is_name name e.0) refl none (λ rest. known_others es sorted.1 rest free)
    where
      by : (b : Bool) → is_name name e.0 ≡ b → unused used (cond b (Some e.1) (finmap.find bytes_cmp name es)) ≡ None →
          (unused used (finmap.find bytes_cmp name es) ≡ None → of_any es ≡ of_others es) → of_any (e ∷ es) ≡ of_others (e ∷ es)
      by true is own later =
          ap (λ b. b || of_any es) (other_id e.1 own free) ∙ all_others es (above_apart e.0 es (name_exact name e.0 is) sorted.0)
          ∙ sym (ap (λ b. (not b && (e.1 == id)) || of_others es) is)
      by false is rest later = ap (λ b. (e.1 == id) || b) (later rest) ∙ sym (ap (λ b. (not b && (e.1 == id)) || of_others es) is)

ids_of_rows : (id : ℕ) (es : List (Name × ℕ)) → has_id (map (λ (row : IdRow). row.id) (map (λ (e : Name × ℕ). record { name = e.0; id = e.1 }) es)) id ≡ list_any (λ (e : Name × ℕ). e.1 == id) es
ids_of_rows id [] = refl
ids_of_rows id (e ∷ es) = ap (λ b. (e.1 == id) || b) (ids_of_rows id es)

-- an account whose own remembered id is used gets a free id as any other does
pub open_is_free :
    (known : Ids) (used : List ℕ) (account : Account) → unused used (get known account.name) ≡ None →
    find (is_open used (map (λ (row : IdRow). row.id) (rows_of known))) (span account.system) ≡ free_id known used account
open_is_free known used account none = find_same _ _ (λ id. by id (has_id used id) refl) (span account.system)
  where
    by : (id : ℕ) (b : Bool) → has_id used id ≡ b →
        not (has_id used id || has_id (map (λ (row : IdRow). row.id) (rows_of known)) id) ≡ (not (has_id used id) && not (of_other known account.name id))
    by id true is = ap (λ b. not (b || has_id (map (λ (row : IdRow). row.id) (rows_of known)) id)) is ∙ sym (ap (λ b. not b && not (of_other known account.name id)) is)
    by id false is =
        ap (λ b. not (b || has_id (map (λ (row : IdRow). row.id) (rows_of known)) id)) is
        ∙ ap not (ids_of_rows id (entries known) ∙ known_others used account.name id (entries known) (keys_sorted known) (subst (λ o. unused used o ≡ None) (get-entries known account.name) none) is)
        ∙ sym (ap (λ b. not b && not (of_other known account.name id)) is)

-- ---- the id of one account

module _ (rows : Name → Option ℕ) (known : Ids) (used : List ℕ) (account : Account) where
  pub chosen_row : (id : ℕ) → rows account.name ≡ Some id → Some id ≡ choose rows known used account
  chosen_row id is = sym (ap (λ o. option_or o (option_or account.wanted (option_or (unused used (get known account.name)) (free_id known used account)))) is)

  pub chosen_wanted : (id : ℕ) → rows account.name ≡ None → account.wanted ≡ Some id → Some id ≡ choose rows known used account
  chosen_wanted id no_row is = sym (λ i. option_or (no_row i) (option_or (is i) (option_or (unused used (get known account.name)) (free_id known used account))))

  pub chosen_known : (id : ℕ) → rows account.name ≡ None → account.wanted ≡ None → unused used (get known account.name) ≡ Some id → Some id ≡ choose rows known used account
  chosen_known id no_row none is = sym (λ i. option_or (no_row i) (option_or (none i) (option_or (is i) (free_id known used account))))

  pub chosen_free : (o : Option ℕ) → rows account.name ≡ None → account.wanted ≡ None → unused used (get known account.name) ≡ None →
      o ≡ find (is_open used (map (λ (row : IdRow). row.id) (rows_of known))) (span account.system) → o ≡ choose rows known used account
  chosen_free o no_row none other is =
      is ∙ open_is_free known used account other ∙ sym (λ i. option_or (no_row i) (option_or (none i) (option_or (other i) (free_id known used account))))

-- ---- the ids of all accounts

module _ {Declared : Type 0} (asked : Declared → Account) (rows : Name → Option ℕ) (known : Ids) (accounts : List Declared) (i : ℕ) (start ids all : List ℕ) where
  abbrev so_far : Type 0
  so_far = ids ++ give rows known (start ++ ids) (map asked (drop i accounts)) ≡ all

  left : (account : Declared) → i < length accounts → account ≡ get_or accounts i account → map asked (drop i accounts) ≡ asked account ∷ map asked (drop (i + 1) accounts)
  left account inside is = ap (map asked) (drop_more accounts i account inside ∙ ap (λ a. a ∷ drop (i + 1) accounts) (sym is))

  pub give_next :
      (account : Declared) (id : ℕ) → i < length accounts → account ≡ get_or accounts i account → Some id ≡ choose rows known (start ++ ids) (asked account) → so_far →
      (ids ++ id ∷ []) ++ give rows known (start ++ (ids ++ id ∷ [])) (map asked (drop (i + 1) accounts)) ≡ all
  give_next account id inside is chosen was =
      append_assoc ids (id ∷ []) (give rows known (start ++ (ids ++ id ∷ [])) (map asked (drop (i + 1) accounts)))
      ∙ ap (λ more. ids ++ more)
      (ap (λ used. id ∷ give rows known used (map asked (drop (i + 1) accounts))) (sym (append_assoc start ids (id ∷ [])))
      ∙ ap (λ o. while_some o (λ n. give rows known ((start ++ ids) ++ n ∷ []) (map asked (drop (i + 1) accounts)))) chosen
      ∙ sym (ap (give rows known (start ++ ids)) (left account inside is)))
      ∙ was

  pub give_end : (account : Declared) → i < length accounts → account ≡ get_or accounts i account → None ≡ choose rows known (start ++ ids) (asked account) → so_far → ids ≡ all
  give_end account inside is chosen was =
      sym (append-nil ids)
      ∙ ap (λ more. ids ++ more)
      (ap (λ o. while_some o (λ n. give rows known ((start ++ ids) ++ n ∷ []) (map asked (drop (i + 1) accounts)))) chosen
      ∙ sym (ap (give rows known (start ++ ids)) (left account inside is)))
      ∙ was

  pub give_all : length accounts ≤ i → so_far → ids ≡ all
  give_all over was = sym (append-nil ids) ∙ ap (λ more. ids ++ give rows known (start ++ ids) (map asked more)) (sym (drop_all i accounts over)) ∙ was

-- ---- what is asked of a set and of a map

pub used_known : (used : List ℕ) (id : ℕ) (o : Option ℕ) (b : Bool) → Some id ≡ o → b ≡ has_id used id → b ≡ true → None ≡ unused used o
used_known used id o b is same taken = sym (ap (unused used) (sym is) ∙ ap (λ t. cond t None (Some id)) (sym same ∙ taken))

pub free_known : (used : List ℕ) (id : ℕ) (o : Option ℕ) (b : Bool) → Some id ≡ o → b ≡ has_id used id → b ≡ false → Some id ≡ unused used o
free_known used id o b is same unused_id = sym (ap (unused used) (sym is) ∙ ap (λ t. cond t None (Some id)) (sym same ∙ unused_id))

pub choose_alike : (rows other : Name → Option ℕ) (known : Ids) (used : List ℕ) (account : Account) → ((name : Name) → rows name ≡ other name) → choose rows known used account ≡ choose other known used account
choose_alike rows other known used account same =
    ap (λ o. option_or o (option_or account.wanted (option_or (unused used (get known account.name)) (free_id known used account)))) (same account.name)
