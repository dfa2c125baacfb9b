-- Comparisons of several keys, joined.
use Rattle.std.proofs.Common.{◌≡◌, Bool, true, false, not, cond, ◌&&◌, ◌||◌, List, [], ◌∷◌, ◌++◌, refl, sym, ap, ◌∙◌}
use Rattle.std.specs.List.{filter, list_all, list_any}
use Rattle.std.proofs.lemmas.List.Folds.{list_any-append}
use Rattle.switch_names.specs.declared.unit_kind.UnitKind.{UnitKind}
use Rattle.unit_text.specs.declared.unit_key.UnitKey.{UnitKey}
use Rattle.unit_compare.specs.declared.comparison.Comparison.{Comparison}
use Rattle.unit_compare.specs.declared.comparison.Comparison.TheVariants.{Same, ReloadOnly, Changed}
use Rattle.unit_compare.specs.Compare.{is_reload_key, outcome_of}
use Rattle.unit_compare.specs.Walk.{worse}

-- the outcome where a key differs that no reload takes up, and where any differs
abbrev pub by_tests : Bool → Bool → Comparison
by_tests change other = cond change Changed (cond other ReloadOnly Same)

pub worse_tests : (a b c d : Bool) → worse (by_tests a b) (by_tests c d) ≡ by_tests (a || c) (b || d)
worse_tests true b c d = refl
worse_tests false false c d = refl
worse_tests false true true d = refl
worse_tests false true false true = refl
worse_tests false true false false = refl

pub worse_assoc : (a b c : Comparison) → worse (worse a b) c ≡ worse a (worse b c)
worse_assoc Same b c = refl
worse_assoc Changed b c = refl
worse_assoc ReloadOnly Same c = refl
worse_assoc ReloadOnly Changed c = refl
worse_assoc ReloadOnly ReloadOnly Same = refl
worse_assoc ReloadOnly ReloadOnly ReloadOnly = refl
worse_assoc ReloadOnly ReloadOnly Changed = refl

pub worse_comm : (a b : Comparison) → worse a b ≡ worse b a
worse_comm Same Same = refl
worse_comm Same ReloadOnly = refl
worse_comm Same Changed = refl
worse_comm ReloadOnly Same = refl
worse_comm ReloadOnly ReloadOnly = refl
worse_comm ReloadOnly Changed = refl
worse_comm Changed Same = refl
worse_comm Changed ReloadOnly = refl
worse_comm Changed Changed = refl

pub worse_itself : (a : Comparison) → worse a a ≡ a
worse_itself Same = refl
worse_itself ReloadOnly = refl
worse_itself Changed = refl

-- ---- the outcome of a list of keys, of which some differ and a reload takes up some

module _ (kind : UnitKind) (differs : UnitKey → Bool) where
  abbrev taken_up : UnitKey → Bool
  taken_up = is_reload_key kind

  -- a key differs, and no reload takes it up
  abbrev pub is_change : UnitKey → Bool
  is_change key = differs key && not (taken_up key)

  abbrev pub made : List UnitKey → Comparison
  made keys = by_tests (list_any is_change keys) (list_any differs keys)

  abbrev pub one : UnitKey → Comparison
  one key = by_tests (is_change key) (differs key)

  pub made_first : (key : UnitKey) (keys : List UnitKey) → made (key ∷ keys) ≡ worse (one key) (made keys)
  made_first key keys = sym (worse_tests (is_change key) (differs key) (list_any is_change keys) (list_any differs keys))

  pub made_append : (xs ys : List UnitKey) → made (xs ++ ys) ≡ worse (made xs) (made ys)
  made_append xs ys =
      (λ i. by_tests (list_any-append is_change xs ys i) (list_any-append differs xs ys i))
      ∙ sym (worse_tests (list_any is_change xs) (list_any differs xs) (list_any is_change ys) (list_any differs ys))

  all_taken_up : (keys : List UnitKey) → list_all taken_up (filter differs keys) ≡ not (list_any is_change keys)
  all_taken_up [] = refl
  all_taken_up (k ∷ keys) = by (differs k) (taken_up k) refl (all_taken_up keys)
    where
      by : (d t : Bool) → taken_up k ≡ t → list_all taken_up (filter differs keys) ≡ not (list_any is_change keys)
          → list_all taken_up (cond d (k ∷ filter differs keys) (filter differs keys)) ≡ not ((d && not t) || list_any is_change keys)
      by false t e rest = rest
      by true true e rest = ap (λ b. b && list_all taken_up (filter differs keys)) e ∙ rest
      by true false e rest = ap (λ b. b && list_all taken_up (filter differs keys)) e

  -- by the keys that differ alone
  pub outcome_made : (keys : List UnitKey) → outcome_of kind (filter differs keys) ≡ made keys
  outcome_made [] = refl
  outcome_made (k ∷ keys) = by (differs k) (taken_up k) refl (outcome_made keys)
    where
      turned : (c : Bool) → cond (not c) ReloadOnly Changed ≡ cond c Changed ReloadOnly
      turned true = refl
      turned false = refl

      by : (d t : Bool) → taken_up k ≡ t → outcome_of kind (filter differs keys) ≡ made keys
          → outcome_of kind (cond d (k ∷ filter differs keys) (filter differs keys)) ≡ by_tests ((d && not t) || list_any is_change keys) (d || list_any differs keys)
      by false t e rest = rest
      by true true e rest =
          ap (λ b. cond (b && list_all taken_up (filter differs keys)) ReloadOnly Changed) e
          ∙ ap (λ b. cond b ReloadOnly Changed) (all_taken_up keys)
          ∙ turned (list_any is_change keys)
      by true false e rest = ap (λ b. cond (b && list_all taken_up (filter differs keys)) ReloadOnly Changed) e
