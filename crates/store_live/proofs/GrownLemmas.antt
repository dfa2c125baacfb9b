-- How sets grow, step by step.
use Rattle.std.proofs.Common.{◌≡◌, ◌⊎◌, ◌↔◌, ℕ, ◌+◌, ◌<◌, ◌≤◌, ◌||◌, Bool, true, cond, Option, None, Some, List, [], length, get_or, take, refl, sym, ap, subst, ◌∙◌, inl, inr}
use Rattle.std.proofs.lemmas.Bool.{or_cases, or_left, or_right}
use Rattle.std.proofs.lemmas.List.{take_all}
use Rattle.std.proofs.lemmas.List.Folds.{list_any_more}
use Rattle.std.specs.FinMap.{get}
use Rattle.host_trait.specs.World.{Leaves}
use Rattle.store_names.specs.Occurs.{Occurs}
use Rattle.switch_names.specs.Names.{Name, has, is_name}
use Rattle.host_trait.proofs.NameOrder.{name_exact, name_from, name_itself}
use Rattle.host_trait.proofs.UnitSets.{has_added}
use Rattle.store_live.specs.Grown.{AreAll, AtSome, IsGrown, IsIn, IsLinkedAt, link_target}
use Rattle.store_live.specs.Live.{counts}

pub nothing : {X : Type 0} (x : Name) → has [] x ≡ true → X
nothing x is = absurd cc

-- nothing has come
pub grown_none : (old new : List Name) (P : Name → Type 0) → new ≡ old → ((x : Name) → P x → ⊥) → IsGrown old new P
grown_none old new P same none x = (
  λ is. inl (subst (λ l. has l x ≡ true) same is),
  λ either. elim either [ inl is ↦ subst (λ l. has l x ≡ true) (sym same) is | inr holds ↦ absurd (none x holds) ],
)

-- the names of a list have come
pub grown_all : (old new names : List Name) (P : Name → Type 0) → ((x : Name) → has new x ≡ (has old x || has names x)) → AreAll names P → IsGrown old new P
grown_all old new names P added all x = (
  λ is. elim (or_cases (has old x) (has names x) (sym (added x) ∙ is)) [ inl before ↦ inl before | inr named ↦ inr ((all x).0 named) ],
  λ either. elim either [ inl is ↦ added x ∙ or_left (has old x) (has names x) is | inr holds ↦ added x ∙ or_right (has old x) (has names x) ((all x).1 holds) ],
)

-- one name has come
pub grown_one : (old new : List Name) (name : Name) (P : Name → Type 0) → ((x : Name) → has new x ≡ cond (is_name name x) true (has old x)) → P name → ((x : Name) → P x → x ≡ name) → IsGrown old new P
grown_one old new name P added holds only x = (
  λ is. elim (or_cases (has old x) (is_name x name) (sym (has_added old new name x (added x)) ∙ is)) [ inl before ↦ inl before | inr same ↦ inr (subst P (sym (name_exact x name same)) holds) ],
  λ either. has_added old new name x (added x) ∙ elim either [ inl is ↦ or_left (has old x) (is_name x name) is | inr held ↦ or_right (has old x) (is_name x name) (name_from x name (only x held)) ],
)

-- the same by another fact
pub grown_as : (old new : List Name) (P Q : Name → Type 0) → ((x : Name) → P x ↔ Q x) → IsGrown old new P → IsGrown old new Q
grown_as old new P Q same grown x = (
  λ is. elim ((grown x).0 is) [ inl before ↦ inl before | inr holds ↦ inr ((same x).0 holds) ],
  λ either. elim either [ inl before ↦ (grown x).1 (inl before) | inr holds ↦ (grown x).1 (inr ((same x).1 holds)) ],
)

-- one step and another
pub grown_then : (old middle new : List Name) (P Q : Name → Type 0) → IsGrown old middle P → IsGrown middle new Q → IsGrown old new (λ x. P x ⊎ Q x)
grown_then old middle new P Q first second x = (
  λ is. elim ((second x).0 is) [
    | inl before ↦ elim ((first x).0 before) [ inl start ↦ inl start | inr holds ↦ inr (inl holds) ]
    | inr holds ↦ inr (inr holds)
  ],
  λ either. elim either [
    | inl start ↦ (second x).1 (inl ((first x).1 (inl start)))
    | inr (inl holds) ↦ (second x).1 (inl ((first x).1 (inr holds)))
    | inr (inr holds) ↦ (second x).1 (inr holds)
  ],
)

-- from the empty set
pub grown_from : (old new : List Name) (P : Name → Type 0) → old ≡ [] → IsGrown old new P → AreAll new P
grown_from old new P none grown x = (
  λ is. elim ((grown x).0 is) [ inl before ↦ nothing x (subst (λ l. has l x ≡ true) none before) | inr holds ↦ holds ],
  λ holds. (grown x).1 (inr holds),
)

pub all_as : (names : List Name) (P Q : Name → Type 0) → ((x : Name) → P x ↔ Q x) → AreAll names P → AreAll names Q
all_as names P Q same all x = (λ is. (same x).0 ((all x).0 is), λ holds. (all x).1 ((same x).1 holds))

pub all_in : (names other : List Name) (P : Name → Type 0) → other ≡ names → AreAll names P → AreAll other P
all_in names other P same all = subst (λ l. AreAll l P) (sym same) all

-- a text that is there
pub in_text : (stored : List Name) (front : List ℕ) (text : Option (List ℕ)) (bytes : List ℕ) → text ≡ Some bytes → (x : Name) → Occurs stored front bytes x ↔ IsIn stored front text x
in_text stored front text bytes is x = (
  λ occurs. record { bytes = bytes; there = is; occurs = occurs },
  λ one. subst (λ t. Occurs stored front t x) (let same : Some one.bytes ≡ Some bytes = sym one.there ∙ is in cc) one.occurs,
)

pub nothing_in : (stored : List Name) (front : List ℕ) (text : Option (List ℕ)) → text ≡ None → (x : Name) → IsIn stored front text x → ⊥
nothing_in stored front text none x one = absurd (let no : None ≡ Some one.bytes = sym none ∙ one.there in cc)

-- a link that counts
pub linked_there : (skips : Name → Bool) (leaves : Leaves) (names : List Name) (q : Name) → counts skips q ≡ true → (x : Name) → IsIn names [] (link_target (get leaves q)) x ↔ IsLinkedAt skips leaves names q x
linked_there skips leaves names q counted x = (λ named. record { counted = counted; named = named }, λ linked. linked.named)

-- ---- along a list of places

module _ (P : Name → Name → Type 0) where
  none_at : (x : Name) → AtSome [] P x → ⊥
  none_at x at = nothing at.place at.listed

  pub grown_start : (names : List Name) → IsGrown names names (AtSome [] P)
  grown_start names = grown_none names names (AtSome [] P) refl none_at

  module _ (places : List Name) (i : ℕ) (place : Name) (inside : i < length places) (is : place ≡ get_or places i place) where
    more : (q : Name) → has (take (i + 1) places) q ≡ (has (take i places) q || is_name q place)
    more q = list_any_more (is_name q) places i place inside ∙ ap (λ p. has (take i places) q || is_name q p) (sym is)

    either : (x : Name) → (AtSome (take i places) P x ⊎ P place x) ↔ AtSome (take (i + 1) places) P x
    either x = (
      λ one. elim one [
        | inl at ↦ record { place = at.place; listed = more at.place ∙ or_left (has (take i places) at.place) (is_name at.place place) at.listed; holds = at.holds }
        | inr holds ↦ record { place = place; listed = more place ∙ or_right (has (take i places) place) (is_name place place) (name_itself place); holds = holds }
      ],
      λ at. elim (or_cases (has (take i places) at.place) (is_name at.place place) (sym (more at.place) ∙ at.listed)) [
        | inl before ↦ inl record { place = at.place; listed = before; holds = at.holds }
        | inr same ↦ inr (subst (λ q. P q x) (name_exact at.place place same) at.holds)
      ],
    )

    pub grown_more : (old now new : List Name) → IsGrown old now (AtSome (take i places) P) → IsGrown now new (P place) → IsGrown old new (AtSome (take (i + 1) places) P)
    grown_more old now new before step =
        grown_as old new (λ x. AtSome (take i places) P x ⊎ P place x) (AtSome (take (i + 1) places) P) either
        (grown_then old now new (AtSome (take i places) P) (P place) before step)

  pub grown_end : (places : List Name) (i : ℕ) (old new : List Name) → length places ≤ i → IsGrown old new (AtSome (take i places) P) → IsGrown old new (AtSome places P)
  grown_end places i old new over grown = subst (λ l. IsGrown old new (AtSome l P)) (take_all i places over) grown
