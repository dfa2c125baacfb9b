-- Names below etc, and the places that they stand for.
use Rattle.std.proofs.Common.{◌≡◌, ◌≢◌, ℕ, ◌||◌, Bool, true, false, cond, List, [], ◌∷◌, ◌++◌, map, codes, nat_eq, None, Some, is_some, refl, sym, ap, subst, ◌∙◌, inl, inr}
use Rattle.std.proofs.lemmas.Bool.{both_ways, cases_Bool}
use Rattle.std.proofs.lemmas.Bool.Decides.{Decides-eqb}
use Rattle.std.proofs.lemmas.Slice.Eq.{starts_is}
use Rattle.std.specs.FinMap.{contains_key-keys, keys}
use Rattle.std.specs.List.{filter, list_any, starts_with}
use Rattle.std.specs.Ordering.{eq_by_cmp}
use Rattle.switch_names.specs.Names.{Name, has, is_name}
use Rattle.switch_names.specs.Path.{name_below}
use Rattle.host_trait.specs.World.{Leaves, bytes_cmp}
use Rattle.host_trait.proofs.Seen.{other_of}
use Rattle.etc_manifest.specs.Place.{is_reserved, reserved_names}
use Rattle.etc_manifest.proofs.NameLemmas.{below_is_after}
use Rattle.etc_clean.specs.Names.{etc_folder, etc_names, is_in_etc, name_of, names_below, place}
use Rattle.etc_clean.specs.CleanList.{clean_name}
use Rattle.etc_clean.specs.Etc.{static_name}
use Rattle.etc_clean.specs.Farm.{at}

-- a place in etc is that of its name
pub in_etc : (k : List ℕ) → is_in_etc k ≡ true → k ≡ place (name_of k)
unfolding is_in_etc name_of place
in_etc k is = (starts_is Decides-eqb k (codes "etc/") (starts_with nat_eq k (codes "etc/")) refl).0 is

pub place_in_etc : (q : Name) → is_in_etc (place q) ≡ true
unfolding is_in_etc place
place_in_etc q = (starts_is Decides-eqb (codes "etc/" ++ q) (codes "etc/") (starts_with nat_eq (codes "etc/" ++ q) (codes "etc/")) refl).1 q refl

-- the name of a path in etc is what it has after the folder and a slash
pub name_after : (path : List ℕ) → name_below etc_folder path ≡ cond (is_in_etc path) (Some (name_of path)) None
unfolding etc_folder is_in_etc name_of
name_after path = below_is_after (codes "etc") path

-- places are compared as their names are
pub place_cmp : (p q : Name) → bytes_cmp (place p) (place q) ≡ bytes_cmp p q
unfolding place
place_cmp p q = refl

pub place_same : (p q : Name) → is_name (place p) (place q) ≡ is_name p q
unfolding place
place_same p q = refl

pub other_place : (p q : Name) → p ≢ q → eq_by_cmp bytes_cmp (place p) (place q) ≡ false
unfolding place
other_place p q ne = other_of p q ne

pub static_reserved : is_reserved static_name ≡ true
unfolding reserved_names static_name
static_reserved = refl

pub clean_reserved : is_reserved clean_name ≡ true
unfolding reserved_names clean_name
clean_reserved = refl

-- what is reserved is another name than what isn't
pub not_reserved_other : (p q : Name) → is_reserved p ≡ false → is_reserved q ≡ true → p ≢ q
not_reserved_other p q free reserved same = both_ways _ free (ap is_reserved same ∙ reserved)

pub some_passes : (test : Name → Bool) (ks : List Name) → list_any test ks ≡ true → (p : Name) × (test p ≡ true)
some_passes test [] is = absurd (both_ways false refl is)
some_passes test (k ∷ ks) is = elim (cases_Bool (test k)) [
  | inl passes ↦ (k, passes)
  | inr fails ↦ some_passes test ks (ap (λ b. b || list_any test ks) (sym fails) ∙ is)
]

not_in_etc : (q : Name) (k : List ℕ) → is_in_etc k ≡ false → is_name (place q) k ≡ false
not_in_etc q k out = other_of (place q) k (λ same. both_ways _ out (subst (λ x. is_in_etc x ≡ true) same (place_in_etc q)))

-- the names of some places in etc are those whose places are among them
pub has_names : (ks : List (List ℕ)) (q : Name) → has (names_below ks) q ≡ has ks (place q)
has_names [] q = refl
has_names (k ∷ ks) q = elim (cases_Bool (is_in_etc k)) [
  | inl inside ↦
      ap (λ b. has (map name_of (cond b (k ∷ filter is_in_etc ks) (filter is_in_etc ks))) q) inside
      ∙ ap (λ b. is_name q (name_of k) || b) (has_names ks q)
      ∙ ap (λ b. b || has ks (place q)) (sym (place_same q (name_of k)) ∙ ap (λ x. is_name (place q) x) (sym (in_etc k inside)))
  | inr out ↦
      ap (λ b. has (map name_of (cond b (k ∷ filter is_in_etc ks) (filter is_in_etc ks))) q) out
      ∙ has_names ks q
      ∙ ap (λ b. b || has ks (place q)) (sym (not_in_etc q k out))
]

-- a name below etc is listed where a leaf stands there
pub has_etc_name : (leaves : Leaves) (q : Name) → has (etc_names leaves) q ≡ is_some (at leaves q)
has_etc_name leaves q = has_names (keys leaves) q ∙ sym (contains_key-keys leaves (place q))
