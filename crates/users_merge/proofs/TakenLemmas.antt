-- Ids that are taken one after another.
use Rattle.std.proofs.Common.{◌≡◌, ◌≢◌, ◌⊎◌, ℕ, ◌+◌, ◌<◌, ◌≤◌, ◌==◌, ◌||◌, Bool, true, false, cond, List, [], ◌∷◌, ◌++◌, length, get_or, take, set, map, replicate, refl, sym, ap, subst, ◌∙◌, inl, inr, append_assoc, arith}
use Rattle.std.proofs.Math.Bool.{or-false, or-true}
use Rattle.std.proofs.lemmas.Bool.Decides.{eqb_tells}
use Rattle.std.proofs.lemmas.List.{get_or-set_same, get_or-set_other, get_or-replicate, length-replicate, length-set, map_more}
use Rattle.std.proofs.lemmas.List.Elements.{filter_map-append}
use Rattle.std.proofs.lemmas.List.Folds.{list_any-append}
use Rattle.std.specs.BTreeMap.{is_at}
use Rattle.std.specs.Cmp.{unsigned_tied}
use Rattle.std.specs.List.{list_any}
use Rattle.std.specs.Ordering.{nat_cmp}
use Rattle.users_merge.specs.Account.{Account, has_id}
use Rattle.users_merge.specs.Taken.{AreTakenIn, wanted_ids}

has_more : (ids : List ℕ) (id i : ℕ) → has_id (ids ++ id ∷ []) i ≡ (has_id ids i || (id == i))
has_more ids id i = list_any-append (λ other. other == i) ids (id ∷ []) ∙ ap (λ b. has_id ids i || b) (or-false (id == i))

-- no id is taken at first
pub none_taken : (keys : List ℕ) (marks : List Bool) → keys ≡ [] → marks ≡ replicate 30000 false → AreTakenIn [] [] keys marks
none_taken keys marks no_key no_mark = record {
  used = λ id. ap (λ (ks : List ℕ). list_any (is_at (nat_cmp id)) ks) no_key;
  size = ap length no_mark ∙ length-replicate 30000 false;
  marked = λ id within. ap (λ (ms : List Bool). get_or ms id true) no_mark ∙ get_or-replicate 30000 id false true within;
}

-- one id more is marked
pub marked_more :
    (used known keys : List ℕ) (marks : List Bool) (id : ℕ) → id < length marks → AreTakenIn used known keys marks →
    AreTakenIn used (known ++ id ∷ []) keys (set marks id true)
marked_more used known keys marks id within are = record {
  used = are.used;
  size = length-set marks id true ∙ are.size;
  marked = λ i small. by i small (eqb_tells id i);
}
  where
    by : (i : ℕ) → i < 30000 → (((id == i) ≡ true) × (id ≡ i)) ⊎ (((id == i) ≡ false) × (id ≢ i)) →
        get_or (set marks id true) i true ≡ (has_id used i || has_id (known ++ id ∷ []) i)
    by i small (inl same) =
        subst (λ k. get_or (set marks id true) k true ≡ true) same.1 (get_or-set_same marks id true true within)
        ∙ sym (ap (λ b. has_id used i || b) (has_more known id i ∙ ap (λ b. has_id known i || b) same.0 ∙ or-true (has_id known i)) ∙ or-true (has_id used i))
    by i small (inr other) =
        get_or-set_other marks id i true true (λ e. other.1 (sym e)) ∙ are.marked i small
        ∙ sym (ap (λ b. has_id used i || b) (has_more known id i ∙ ap (λ b. has_id known i || b) other.0 ∙ or-false (has_id known i)))

-- an id that isn't among those that may be given needs no mark
pub unmarked_more :
    (used known keys : List ℕ) (marks : List Bool) (id : ℕ) → length marks ≤ id → AreTakenIn used known keys marks →
    AreTakenIn used (known ++ id ∷ []) keys marks
unmarked_more used known keys marks id beyond are = record {
  used = are.used;
  size = are.size;
  marked = λ i small. are.marked i small ∙ by i small (eqb_tells id i);
}
  where
    by : (i : ℕ) → i < 30000 → (((id == i) ≡ true) × (id ≡ i)) ⊎ (((id == i) ≡ false) × (id ≢ i)) →
        (has_id used i || has_id known i) ≡ (has_id used i || has_id (known ++ id ∷ []) i)
    by i small (inl same) = let size = are.size in let e = same.1 in absurd (omega arith)
    by i small (inr other) = sym (ap (λ b. has_id used i || b) (has_more known id i ∙ ap (λ b. has_id known i || b) other.0 ∙ or-false (has_id known i)))

moved : (a b e : Bool) → (a || (b || e)) ≡ ((a || e) || b)
moved true b e = refl
moved false true true = refl
moved false true false = refl
moved false false true = refl
moved false false false = refl

either : (e h : Bool) → cond e true h ≡ (h || e)
either true h = sym (or-true h)
either false h = sym (or-false h)

-- an id that is marked is used
pub used_more :
    (used known keys more : List ℕ) (marks : List Bool) (id : ℕ) →
    ((q : ℕ) → list_any (is_at (nat_cmp q)) more ≡ cond (is_at (nat_cmp id) q) true (list_any (is_at (nat_cmp q)) keys)) →
    AreTakenIn used (known ++ id ∷ []) keys marks → AreTakenIn (used ++ id ∷ []) known more marks
used_more used known keys more marks id updates are = record {
  used = λ q.
      updates q ∙ ap (λ b. cond b true (list_any (is_at (nat_cmp q)) keys)) (unsigned_tied id q)
      ∙ ap (cond (id == q) true) (are.used q) ∙ either (id == q) (has_id used q) ∙ sym (has_more used id q);
  size = are.size;
  marked = λ i small.
      are.marked i small ∙ ap (λ b. has_id used i || b) (has_more known id i) ∙ moved (has_id used i) (has_id known i) (id == i)
      ∙ ap (λ b. b || has_id known i) (sym (has_more used id i));
}

-- ids of some items and of one item more
pub ids_next :
    {X : Type 0} (f : X → ℕ) (start : List ℕ) (items : List X) (i : ℕ) (item : X) (id : ℕ) → i < length items → item ≡ get_or items i item → id ≡ f item →
    (start ++ map f (take i items)) ++ id ∷ [] ≡ start ++ map f (take (i + 1) items)
ids_next f start items i item id inside is same =
    append_assoc start (map f (take i items)) (id ∷ []) ∙ ap (λ x. start ++ (map f (take i items) ++ x ∷ [])) (same ∙ ap f is) ∙ ap (λ ids. start ++ ids) (sym (map_more f items i item inside))

-- the ids that are asked for by some accounts and by one account more
pub wanted_next :
    {X : Type 0} (asked : X → Account) (start : List ℕ) (items : List X) (i : ℕ) (item : X) → i < length items → item ≡ get_or items i item →
    (start ++ wanted_ids (map asked (take i items))) ++ wanted_ids (asked item ∷ []) ≡ start ++ wanted_ids (map asked (take (i + 1) items))
wanted_next asked start items i item inside is =
    append_assoc start (wanted_ids (map asked (take i items))) (wanted_ids (asked item ∷ []))
    ∙ ap (λ ids. start ++ ids)
    (ap (λ x. wanted_ids (map asked (take i items)) ++ wanted_ids (asked x ∷ [])) is
    ∙ sym (ap wanted_ids (map_more asked items i item inside) ∙ filter_map-append (λ (account : Account). account.wanted) (map asked (take i items)) (asked (get_or items i item) ∷ [])))
