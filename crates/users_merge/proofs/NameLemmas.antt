-- Names, and rows by their names.
use Rattle.std.proofs.Common.{◌≡◌, ℕ, ◌+◌, ◌<◌, ◌||◌, cond, Bor, List, [], ◌∷◌, ◌++◌, length, get_or, take, drop, map, Some, option_map, refl, sym, ap, ◌∙◌}
use Rattle.std.proofs.Math.Bool.{or-false, or_assoc}
use Rattle.std.proofs.lemmas.List.{drop_more, map_more}
use Rattle.std.proofs.lemmas.List.Folds.{list_any-append}
use Rattle.std.specs.BTreeMap.{BTreeMap, get, is_at}
use Rattle.host_trait.specs.Bytes.{bytes_cmp}
use Rattle.switch_names.proofs.Names.{name_turned}
use Rattle.switch_names.proofs.Outcomes.{option_map_cond}
use Rattle.switch_names.specs.Names.{Name, has, is_name}
use Rattle.account_text.specs.Order.{row_named}
use Rattle.users_merge.specs.ByName.{found_in}

pub has-append : (xs ys : List Name) (name : Name) → has (xs ++ ys) name ≡ (has xs name || has ys name)
has-append xs ys name = list_any-append (is_name name) xs ys

-- names that have those of some items have that of one item more
pub has_next :
    {N : Type 0} (name_of : N → Name) (items : List N) (i : ℕ) (item : N) (start old new : List Name) (added name : Name) →
    i < length items → item ≡ get_or items i item → added ≡ name_of item →
    has old name ≡ (has start name || has (map name_of (take i items)) name) → has new name ≡ (has old name || is_name name added) →
    has new name ≡ (has start name || has (map name_of (take (i + 1) items)) name)
has_next name_of items i item start old new added name inside is named was grown =
    grown ∙ (λ k. was k || is_name name (named k))
    ∙ or_assoc (has start name) (has (map name_of (take i items)) name) (is_name name (name_of item))
    ∙ ap (λ b. has start name || b)
    (ap (λ x. has (map name_of (take i items)) name || is_name name (name_of x)) is
    ∙ ap (λ b. has (map name_of (take i items)) name || b) (sym (or-false (is_name name (name_of (get_or items i item)))))
    ∙ sym (ap (λ (names : List Name). has names name) (map_more name_of items i item inside) ∙ has-append (map name_of (take i items)) (name_of (get_or items i item) ∷ []) name))

-- rows are found from the last on, and so the first one of a name
pub found_more :
    {Row : Type 0} (name_of : Row → Name) (rows : List Row) (at : ℕ) (row : Row) (old new : BTreeMap Name (Bor Row)) (key : Name) (lent : Bor Row) →
    at < length rows → row ≡ get_or rows at row → key ≡ name_of row → lent.now ≡ row →
    ((q : Name) → get bytes_cmp new q ≡ cond (is_at (bytes_cmp key) q) (Some lent) (get bytes_cmp old q)) →
    ((q : Name) → found_in old q ≡ row_named name_of (drop (at + 1) rows) q) →
    (q : Name) → found_in new q ≡ row_named name_of (drop at rows) q
found_more {Row} name_of rows at row old new key lent inside is named same updates was q =
    ap (option_map (λ (r : Bor Row). r.now)) (updates q)
    ∙ option_map_cond (λ (r : Bor Row). r.now) (is_at (bytes_cmp key) q) lent (get bytes_cmp old q)
    ∙ (λ i. cond (is_name (named i) q) (Some (same i)) (was q i))
    ∙ ap (λ b. cond b (Some row) (row_named name_of (drop (at + 1) rows) q)) (name_turned (name_of row) q)
    ∙ ap (λ r. cond (is_name q (name_of r)) (Some r) (row_named name_of (drop (at + 1) rows) q)) is
    ∙ sym (ap (λ rs. row_named name_of rs q) (drop_more rows at row inside))

pub map_same : (names : List Name) → map (λ name. name) names ≡ names
map_same [] = refl
map_same (name ∷ names) = ap (λ rest. name ∷ rest) (map_same names)
