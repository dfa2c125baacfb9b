-- Names in lists, and lists in byte order.
use Rattle.std.proofs.Common.{◌≡◌, ◌&&◌, ◌||◌, ◌∷◌, Bool, true, false, cond, List, [], filter, map, find, None, Some, refl, sym, ap, ◌∙◌, true≢false}
use Rattle.std.proofs.lemmas.Map.Views.{any-filter_same}
use Rattle.std.proofs.lemmas.Option.{none-some}
use Rattle.std.specs.BTreeMap.{is_at}
use Rattle.host_trait.specs.Bytes.{bytes_cmp}
use Rattle.host_trait.proofs.NameOrder.{has_filter, name_exact}
use Rattle.switch_names.specs.Names.{Name, has, is_name}
use Rattle.users_merge.specs.Stored.{ordered}
use Rattle.users_merge.proofs.NameOrderLemmas.{is_ordered, ordered_has, ordered_sorted}

-- names in byte order are the same for all lists with the same names
pub ordered_same : (names others : List Name) → ((name : Name) → has names name ≡ has others name) → ordered names ≡ ordered others
ordered_same names others same = is_ordered (ordered names) others (ordered_sorted names) (λ name. ordered_has names name ∙ same name)

-- ---- what is found by name

-- what isn't found by name isn't among the names
pub unnamed : {X : Type 0} (name_of : X → Name) (xs : List X) (name : Name) → find (λ x. is_name name (name_of x)) xs ≡ None → has (map name_of xs) name ≡ false
unnamed name_of [] name none = refl
unnamed name_of (x ∷ xs) name none =
    elim (is_name name (name_of x)) as (λ b. cond b (Some x) (find (λ x. is_name name (name_of x)) xs) ≡ None → (b || has (map name_of xs) name) ≡ false) [
      | true ↦ λ found. absurd (none-some x (sym found))
      | false ↦ λ more. unnamed name_of xs name more
    ] none

-- and what isn't among the names isn't found
pub not_found : {X : Type 0} (name_of : X → Name) (xs : List X) (name : Name) → has (map name_of xs) name ≡ false → find (λ x. is_name name (name_of x)) xs ≡ None
not_found name_of [] name none = refl
not_found name_of (x ∷ xs) name none =
    elim (is_name name (name_of x)) as (λ b. (b || has (map name_of xs) name) ≡ false → cond b (Some x) (find (λ x. is_name name (name_of x)) xs) ≡ None) [
      | true ↦ λ found. absurd (true≢false found)
      | false ↦ λ more. not_found name_of xs name more
    ] none
