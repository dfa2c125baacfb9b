-- The leaves below etc are sorted one by one.
use Rattle.std.proofs.Common.{◌≡◌, ℕ, ◌+◌, ◌<◌, ◌&&◌, ◌||◌, not, Bool, true, false, cond, List, [], ◌∷◌, ◌++◌, length, get_or, take, map, filter, Option, None, Some, is_some, refl, sym, ap, subst, ◌∙◌}
use Rattle.std.proofs.lemmas.Bool.{both_ways, or_right}
use Rattle.std.proofs.lemmas.List.{append-nil, map-append, take_more}
use Rattle.std.proofs.lemmas.List.Elements.{filter-append}
use Rattle.std.proofs.lemmas.List.Kept.{IsStrictlySortedBy-filter}
use Rattle.std.specs.FinMap.{get}
use Rattle.std.specs.List.{list_any}
use Rattle.std.specs.List.Sorted.{IsStrictlySortedBy}
use Rattle.std.specs.Cmp.{both_ways as same_test}
use Rattle.switch_names.specs.Names.{IsListOf, Name, has}
use Rattle.host_trait.specs.declared.leaf.LeafKind.{LeafKind}
use Rattle.host_trait.specs.World.{Leaves, bytes_cmp, content_of, is_in_line}
use Rattle.leaf_limits.specs.Limits.{content_past}
use Rattle.host_trait.proofs.NameOrder.{has_filter}
use Rattle.etc_manifest.specs.declared.item.Item.{Item}
use Rattle.etc_manifest.specs.declared.item.ItemKind.{ItemKind}
use Rattle.etc_manifest.specs.Manifest.{entry, places}
use Rattle.etc_manifest.specs.Place.{is_reserved}
use Rattle.etc_clean.specs.declared.found.FoundLeaves.{FoundLeaves}
use Rattle.etc_clean.specs.CleanList.{clean_name, clean_of}
use Rattle.etc_clean.specs.Farm.{at, is_blocked, is_entry, is_farm_link, is_foreign, is_gone, is_ours}
use Rattle.etc_clean.specs.Found.{AreFoundLeaves, TakesPath, is_foreign_by, is_free, is_gone_by}
use Rattle.etc_clean.specs.Names.{etc_names, is_in_etc, name_of, names_below, place}
use Rattle.etc_clean.specs.Obsolete.{IsSortedOf}
use Rattle.etc_clean.specs.Standing.{is_leaf_of, is_standing}
use Rattle.etc_clean.proofs.FarmLemmas.{entry_is}
use Rattle.etc_clean.proofs.ListLemmas.{any_among, any_filter, etc_names_sorted, names_append}
use Rattle.etc_clean.proofs.NameLemmas.{has_etc_name, in_etc}

module _ (items : List Item) (clean : List Name) (leaves : Leaves) where
  -- no name of a path is taken
  pub no_name : (path : List ℕ) (found : FoundLeaves) → is_in_etc path ≡ false → TakesPath items clean leaves path found found
  no_name path found out = record {
    gone = sym (ap (λ (names : List Name). found.gone ++ filter (is_gone_by items clean leaves) names) none ∙ append-nil found.gone);
    foreign = sym (ap (λ (names : List Name). found.foreign ++ filter (is_foreign_by items clean leaves) names) none ∙ append-nil found.foreign);
    standing = sym (ap (λ (names : List Name). found.standing ++ filter (is_standing items leaves) names) none ∙ append-nil found.standing);
  }
    where
      none : names_below (path ∷ []) ≡ []
      none = ap (λ b. map name_of (cond b (path ∷ []) [])) out

  -- the one name of a path
  one_name : (path : List ℕ) → is_in_etc path ≡ true → names_below (path ∷ []) ≡ name_of path ∷ []
  one_name path inside = ap (λ b. map name_of (cond b (path ∷ []) [])) inside

  free_by : (a b : Bool) → (a || b) ≡ true → (not a && not b) ≡ false
  free_by true b is = refl
  free_by false true is = refl
  free_by false false is = absurd (both_ways false refl is)

  free_to : (a b : Bool) → (a || b) ≡ false → (not a && not b) ≡ true
  free_to true b is = absurd (both_ways true is refl)
  free_to false true is = absurd (both_ways true is refl)
  free_to false false is = refl

  no_standing : (q : Name) → entry items q ≡ None → is_standing items leaves q ≡ false
  no_standing q none = ap (λ (kind : Option ItemKind). is_leaf_of q kind (at leaves q)) none

  -- neither is gone nor foreign what is kept
  none_gone : (path : List ℕ) (list : List Name) → is_in_etc path ≡ true → is_free items (name_of path) ≡ false → list ≡ list ++ filter (is_gone_by items clean leaves) (names_below (path ∷ []))
  none_gone path list inside out =
      let q = name_of path in
      sym (ap (λ (names : List Name). list ++ filter (is_gone_by items clean leaves) names) (one_name path inside)
      ∙ ap (λ b. list ++ cond (b && is_ours clean q (at leaves q)) (q ∷ []) []) out ∙ append-nil list)

  none_foreign : (path : List ℕ) (list : List Name) → is_in_etc path ≡ true → is_free items (name_of path) ≡ false → list ≡ list ++ filter (is_foreign_by items clean leaves) (names_below (path ∷ []))
  none_foreign path list inside out =
      let q = name_of path in
      sym (ap (λ (names : List Name). list ++ filter (is_foreign_by items clean leaves) names) (one_name path inside)
      ∙ ap (λ b. list ++ cond (b && not (is_ours clean q (at leaves q))) (q ∷ []) []) out ∙ append-nil list)

  none_standing : (path : List ℕ) (list : List Name) → is_in_etc path ≡ true → entry items (name_of path) ≡ None → list ≡ list ++ filter (is_standing items leaves) (names_below (path ∷ []))
  none_standing path list inside none =
      let q = name_of path in
      sym (ap (λ (names : List Name). list ++ filter (is_standing items leaves) names) (one_name path inside) ∙ ap (λ b. list ++ cond b (q ∷ []) []) (no_standing q none) ∙ append-nil list)

  -- a reserved name that is no entry's isn't taken
  pub reserved_name : (path : List ℕ) (found : FoundLeaves) → is_in_etc path ≡ true → is_reserved (name_of path) ≡ true → entry items (name_of path) ≡ None → TakesPath items clean leaves path found found
  reserved_name path found inside reserved none =
      let q = name_of path in
      let out : is_free items q ≡ false = free_by (is_reserved q) (is_entry items q) (ap (λ b. b || is_entry items q) reserved) in
      record { gone = none_gone path found.gone inside out; foreign = none_foreign path found.foreign inside out; standing = none_standing path found.standing inside none }

  -- an entry is taken by whether its leaf stands
  pub entry_name :
      (path : List ℕ) (name : Name) (kind : ItemKind) (stands : Bool) (old new : FoundLeaves) → is_in_etc path ≡ true → name ≡ name_of path → entry items name ≡ Some kind →
      stands ≡ is_leaf_of name (Some kind) (get leaves path) → new.gone ≡ old.gone → new.foreign ≡ old.foreign → new.standing ≡ old.standing ++ cond stands (name ∷ []) [] → TakesPath items clean leaves path old new
  entry_name path name kind stands old new inside is wanted told gone foreign standing =
      let q = name_of path in
      let there : entry items q ≡ Some kind = ap (entry items) (sym is) ∙ wanted in
      let out : is_free items q ≡ false = free_by (is_reserved q) (is_entry items q) (or_right (is_reserved q) (is_entry items q) (sym (entry_is items q) ∙ ap (λ (o : Option ItemKind). is_some o) there)) in
      let stands_there : stands ≡ is_standing items leaves q =
      told ∙ ap (λ x. is_leaf_of x (Some kind) (get leaves path)) is ∙ ap (λ p. is_leaf_of q (Some kind) (get leaves p)) (in_etc path inside)
      ∙ ap (λ (o : Option ItemKind). is_leaf_of q o (at leaves q)) (sym there) in
      record {
        gone = gone ∙ none_gone path old.gone inside out;
        foreign = foreign ∙ none_foreign path old.foreign inside out;
        standing = standing ∙ ap (λ x. old.standing ++ cond stands (x ∷ []) []) is ∙ ap (λ b. old.standing ++ cond b (q ∷ []) []) stands_there
            ∙ sym (ap (λ (names : List Name). old.standing ++ filter (is_standing items leaves) names) (one_name path inside));
      }

  swapped : (b : Bool) (q : Name) → cond b [] (q ∷ []) ≡ cond (not b) (q ∷ []) []
  swapped true q = refl
  swapped false q = refl

  -- a name that isn't kept is taken by whose its leaf is
  pub new_name :
      (path : List ℕ) (name : Name) (ours : Bool) (old new : FoundLeaves) → is_in_etc path ≡ true → name ≡ name_of path → is_reserved name ≡ false → entry items name ≡ None →
      ours ≡ is_ours clean name (get leaves path) → new.gone ≡ old.gone ++ cond ours (name ∷ []) [] → new.foreign ≡ old.foreign ++ cond ours [] (name ∷ []) → new.standing ≡ old.standing →
      TakesPath items clean leaves path old new
  new_name path name ours old new inside is free none whose gone foreign standing =
      let q = name_of path in
      let none_there : entry items q ≡ None = ap (entry items) (sym is) ∙ none in
      let kept_free : is_free items q ≡ true =
      free_to (is_reserved q) (is_entry items q)
      (ap (λ b. b || is_entry items q) (ap is_reserved (sym is) ∙ free) ∙ sym (entry_is items q) ∙ ap (λ (o : Option ItemKind). is_some o) none_there) in
      let theirs : ours ≡ is_ours clean q (at leaves q) = whose ∙ ap (λ x. is_ours clean x (get leaves path)) is ∙ ap (λ p. is_ours clean q (get leaves p)) (in_etc path inside) in
      record {
        gone = gone ∙ ap (λ x. old.gone ++ cond ours (x ∷ []) []) is ∙ ap (λ b. old.gone ++ cond b (q ∷ []) []) theirs
            ∙ sym (ap (λ (names : List Name). old.gone ++ filter (is_gone_by items clean leaves) names) (one_name path inside)
            ∙ ap (λ b. old.gone ++ cond (b && is_ours clean q (at leaves q)) (q ∷ []) []) kept_free);
        foreign = foreign ∙ ap (λ x. old.foreign ++ cond ours [] (x ∷ [])) is ∙ ap (λ b. old.foreign ++ cond b [] (q ∷ [])) theirs
            ∙ ap (λ l. old.foreign ++ l) (swapped (is_ours clean q (at leaves q)) q)
            ∙ sym (ap (λ (names : List Name). old.foreign ++ filter (is_foreign_by items clean leaves) names) (one_name path inside)
            ∙ ap (λ b. old.foreign ++ cond (b && not (is_ours clean q (at leaves q))) (q ∷ []) []) kept_free);
        standing = standing ∙ none_standing path old.standing inside none_there;
      }

  pub none_found : (found : FoundLeaves) → found.gone ≡ [] → found.foreign ≡ [] → found.standing ≡ [] → AreFoundLeaves items clean leaves [] found
  none_found found gone foreign standing = record { gone = gone; foreign = foreign; standing = standing }

  -- one more path
  pub more_found : (ks : List (List ℕ)) (path : List ℕ) (old new : FoundLeaves) → AreFoundLeaves items clean leaves (names_below ks) old → TakesPath items clean leaves path old new → AreFoundLeaves items clean leaves (names_below (ks ++ path ∷ [])) new
  more_found ks path old new before takes = record {
    gone = takes.gone ∙ ap (λ l. l ++ filter (is_gone_by items clean leaves) (names_below (path ∷ []))) before.gone
        ∙ sym (filter-append (is_gone_by items clean leaves) (names_below ks) (names_below (path ∷ [])))
        ∙ ap (filter (is_gone_by items clean leaves)) (sym (names_append ks (path ∷ [])));
    foreign = takes.foreign ∙ ap (λ l. l ++ filter (is_foreign_by items clean leaves) (names_below (path ∷ []))) before.foreign
        ∙ sym (filter-append (is_foreign_by items clean leaves) (names_below ks) (names_below (path ∷ [])))
        ∙ ap (filter (is_foreign_by items clean leaves)) (sym (names_append ks (path ∷ [])));
    standing = takes.standing ∙ ap (λ l. l ++ filter (is_standing items leaves) (names_below (path ∷ []))) before.standing
        ∙ sym (filter-append (is_standing items leaves) (names_below ks) (names_below (path ∷ [])))
        ∙ ap (filter (is_standing items leaves)) (sym (names_append ks (path ∷ [])));
  }

-- ---- all leaves below etc

turned : (free ours some : Bool) → ((free && ours) && some) ≡ ((some && free) && ours)
turned true true true = refl
turned true true false = refl
turned true false true = refl
turned true false false = refl
turned false ours true = refl
turned false ours false = refl

and_swap : (a b : Bool) → a && b ≡ b && a
and_swap true true = refl
and_swap true false = refl
and_swap false true = refl
and_swap false false = refl

leaf_there : (q : Name) (kind : Option ItemKind) (leaf : Option LeafKind) → (is_leaf_of q kind leaf && is_some leaf) ≡ is_leaf_of q kind leaf
leaf_there q None leaf = refl
leaf_there q (Some kind) None = refl
leaf_there q (Some kind) (Some leaf) = by (is_leaf_of q (Some kind) (Some leaf))
  where
    by : (b : Bool) → (b && true) ≡ b
    by true = refl
    by false = refl

-- what is found to stand stands
pub standing_list : (items : List Item) (clean : List Name) (leaves : Leaves) (found : FoundLeaves) → AreFoundLeaves items clean leaves (etc_names leaves) found → IsListOf found.standing (λ q. is_standing items leaves q ≡ true)
standing_list items clean leaves found are = record {
  sorted = subst (IsStrictlySortedBy bytes_cmp) (sym are.standing) (IsStrictlySortedBy-filter bytes_cmp (is_standing items leaves) (etc_names leaves) (etc_names_sorted leaves));
  exact = λ q.
      let same =
      ap (λ (names : List Name). has names q) are.standing ∙ has_filter (is_standing items leaves) (etc_names leaves) q ∙ ap (λ b. is_standing items leaves q && b) (has_etc_name leaves q)
      ∙ leaf_there q (entry items q) (at leaves q) in
      (λ is. sym same ∙ is, λ is. same ∙ is);
}

module _ (items : List Item) (clean : List Name) (leaves : Leaves) (listed : (q : Name) → has clean q ≡ has (clean_of leaves) q) where
  ours_same : (q : Name) → is_ours clean q (at leaves q) ≡ is_ours (clean_of leaves) q (at leaves q)
  ours_same q = ap (λ b. is_farm_link q (at leaves q) || b) (listed q)

  gone_there : (q : Name) → has (filter (is_gone_by items clean leaves) (etc_names leaves)) q ≡ is_gone items leaves q
  gone_there q =
      has_filter (is_gone_by items clean leaves) (etc_names leaves) q
      ∙ ap (λ b. is_gone_by items clean leaves q && b) (has_etc_name leaves q)
      ∙ turned (is_free items q) (is_ours clean q (at leaves q)) (is_some (at leaves q))
      ∙ ap (λ b. (is_some (at leaves q) && is_free items q) && b) (ours_same q)

  -- what is found to be gone is gone
  pub gone_list : (found : FoundLeaves) → AreFoundLeaves items clean leaves (etc_names leaves) found → IsListOf found.gone (λ q. is_gone items leaves q ≡ true)
  gone_list found are = record {
    sorted = subst (IsStrictlySortedBy bytes_cmp) (sym are.gone) (IsStrictlySortedBy-filter bytes_cmp (is_gone_by items clean leaves) (etc_names leaves) (etc_names_sorted leaves));
    exact = λ q. let same = ap (λ (names : List Name). has names q) are.gone ∙ gone_there q in (λ is. sym same ∙ is, λ is. same ∙ is);
  }

  pub foreign_sorted : (found : FoundLeaves) → AreFoundLeaves items clean leaves (etc_names leaves) found → IsStrictlySortedBy bytes_cmp found.foreign
  foreign_sorted found are =
      subst (IsStrictlySortedBy bytes_cmp) (sym are.foreign) (IsStrictlySortedBy-filter bytes_cmp (is_foreign_by items clean leaves) (etc_names leaves) (etc_names_sorted leaves))

  foreign_here : (p : Name) → has (etc_names leaves) p ≡ true → is_foreign_by items clean leaves p ≡ is_foreign items leaves p
  foreign_here p there =
      ap (λ b. is_free items p && not b) (ours_same p)
      ∙ sym (ap (λ b. (b && is_free items p) && not (is_ours (clean_of leaves) p (at leaves p))) (sym (has_etc_name leaves p) ∙ there))

  blocked_there : (found : FoundLeaves) (q : Name) → AreFoundLeaves items clean leaves (etc_names leaves) found → list_any (λ p. is_in_line p q) found.foreign ≡ is_blocked items leaves q
  unfolding is_blocked
  blocked_there found q are =
      ap (list_any (λ p. is_in_line p q)) are.foreign
      ∙ any_filter (λ p. is_in_line p q) (is_foreign_by items clean leaves) (etc_names leaves)
      ∙ any_among (λ p. is_foreign_by items clean leaves p && is_in_line p q) (λ p. is_foreign items leaves p && is_in_line p q) (etc_names leaves)
      (λ p there. ap (λ b. b && is_in_line p q) (foreign_here p there))

  -- the places that are found to be blocked are
  pub blocked_list : (found : FoundLeaves) (names : List Name) → IsStrictlySortedBy bytes_cmp (places items) → AreFoundLeaves items clean leaves (etc_names leaves) found →
      names ≡ filter (λ q. list_any (λ p. is_in_line p q) found.foreign) (places items) → IsListOf names (λ q. (is_entry items q && is_blocked items leaves q) ≡ true)
  blocked_list found names sorted are is = record {
    sorted = subst (IsStrictlySortedBy bytes_cmp) (sym is) (IsStrictlySortedBy-filter bytes_cmp (λ q. list_any (λ p. is_in_line p q) found.foreign) (places items) sorted);
    exact = λ q.
        let same =
        ap (λ (ns : List Name). has ns q) is ∙ has_filter (λ q. list_any (λ p. is_in_line p q) found.foreign) (places items) q
        ∙ ap (λ b. b && has (places items) q) (blocked_there found q are)
        ∙ and_swap (is_blocked items leaves q) (is_entry items q) in
        (λ there. sym same ∙ there, λ there. same ∙ there);
  }

-- one more path of a list
pub found_next : (items : List Item) (clean : List Name) (leaves : Leaves) (paths : List (List ℕ)) (i : ℕ) (path : List ℕ) (old new : FoundLeaves) → i < length paths → path ≡ get_or paths i path →
    AreFoundLeaves items clean leaves (names_below (take i paths)) old → TakesPath items clean leaves path old new → AreFoundLeaves items clean leaves (names_below (take (i + 1) paths)) new
found_next items clean leaves paths i path old new inside is before takes =
    subst (λ ks. AreFoundLeaves items clean leaves (names_below ks) new) (sym (take_more paths i path inside ∙ ap (λ p. take i paths ++ p ∷ []) (sym is))) (more_found items clean leaves (take i paths) path old new before takes)

-- what a name of a path is
pub name_there : (b : Bool) (x name : Name) (o : Option Name) → o ≡ cond b (Some x) None → o ≡ Some name → (b ≡ true) × (name ≡ x)
name_there true x name o is there = (refl, cc)
name_there false x name o is there = absurd (cc)

-- or that it has none
pub no_name_there : (b : Bool) (x : Name) (o : Option Name) → o ≡ cond b (Some x) None → o ≡ None → b ≡ false
no_name_there true x o is none = absurd (cc)
no_name_there false x o is none = refl

-- one more item is looked at
pub blocked_next : (test : Name → Bool) (items : List Item) (i : ℕ) (item : Item) (old new : List Name) → i < length items → item ≡ get_or items i item →
    old ≡ filter test (places (take i items)) → new ≡ old ++ filter test (item.place ∷ []) → new ≡ filter test (places (take (i + 1) items))
blocked_next test items i item old new inside is before added =
    added
    ∙ ap (λ (names : List Name). names ++ filter test (item.place ∷ [])) before
    ∙ sym (filter-append test (places (take i items)) (item.place ∷ []))
    ∙ ap (filter test) (sym (ap places (take_more items i item inside ∙ ap (λ x. take i items ++ x ∷ []) (sym is)) ∙ map-append (λ (x : Item). x.place) (take i items) (item ∷ [])))

-- all that is found in etc
pub sorted_all :
    (items : List Item) (leaves : Leaves) (clean : List Name) (found : FoundLeaves) (gone blocked standing : List Name) (past : Option ℕ) → IsStrictlySortedBy bytes_cmp (places items) →
    IsListOf clean (λ q. has (clean_of leaves) q ≡ true) → AreFoundLeaves items clean leaves (etc_names leaves) found → gone ≡ found.gone → standing ≡ found.standing →
    (IsStrictlySortedBy bytes_cmp found.foreign → blocked ≡ filter (λ q. list_any (λ p. is_in_line p q) found.foreign) (places items)) →
    past ≡ content_past (content_of leaves (place clean_name)) → IsSortedOf items leaves (record { gone = gone; blocked = blocked; standing = standing; clean = clean; past = past })
sorted_all items leaves clean found gone blocked standing past sorted list are is stands by long =
    let listed = λ (q : Name). same_test (has clean q) (has (clean_of leaves) q) (λ there. (list.exact q).0 there) (λ there. (list.exact q).1 there) in
    record {
      gone = subst (λ (names : List Name). IsListOf names (λ q. is_gone items leaves q ≡ true)) (sym is) (gone_list items clean leaves listed found are);
      blocked = blocked_list items clean leaves listed found blocked sorted are (by (foreign_sorted items clean leaves listed found are));
      standing = subst (λ (names : List Name). IsListOf names (λ q. is_standing items leaves q ≡ true)) (sym stands) (standing_list items clean leaves found are);
      clean = list;
      past = long;
    }
