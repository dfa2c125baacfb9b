-- Names in lists, and tests that hold of one of them.
use Rattle.std.proofs.Common.{◌≡◌, ◌&&◌, ◌||◌, ◌++◌, ◌∷◌, ℕ, zero, suc, Bool, true, false, not, List, [], filter, take, inl, inr, refl, ◌∙◌}
use Rattle.std.specs.List.{list_any}
use Rattle.std.proofs.lemmas.Bool.{or_cases, or_left, or_right}
use Rattle.std.proofs.lemmas.List.Folds.{list_any-append}
use Rattle.owed_plan.specs.Owed.{sockets_first}
use Rattle.switch_names.specs.declared.unit_kind.UnitKind.{UnitKind}
use Rattle.switch_names.specs.declared.unit_kind.UnitKind.TheVariants.{Socket}
use Rattle.switch_names.specs.Names.{Name, has, is_name}
use Rattle.unit_decide.specs.Kinds.{is_kind}
use Rattle.host_trait.proofs.NameOrder.{name_itself, has_filter}

-- a weaker test holds of one of the names too
pub any_more : (test weaker : Name → Bool) (names : List Name) → ((unit : Name) → has names unit ≡ true → test unit ≡ true → weaker unit ≡ true) → list_any test names ≡ true → list_any weaker names ≡ true
any_more test weaker [] each found = absurd cc
any_more test weaker (name ∷ names) each found =
    elim (or_cases (test name) (list_any test names) found) [
      | inl holds ↦ or_left (weaker name) (list_any weaker names) (each name (or_left (is_name name name) (has names name) (name_itself name)) holds)
      | inr more ↦ or_right (weaker name) (list_any weaker names) (any_more test weaker names (λ unit among. each unit (or_right (is_name unit name) (has names unit) among)) more)
    ]

-- a beginning of a list has only names of it
pub has-take : (count : ℕ) (names : List Name) (unit : Name) → has (take count names) unit ≡ true → has names unit ≡ true
has-take zero names unit found = absurd cc
has-take (suc count) [] unit found = absurd cc
has-take (suc count) (name ∷ names) unit found =
    elim (or_cases (is_name unit name) (has (take count names) unit) found) [
      | inl is ↦ or_left (is_name unit name) (has names unit) is
      | inr more ↦ or_right (is_name unit name) (has names unit) (has-take count names unit more)
    ]

-- a beginning of two lists with a name that isn't in the first has all of the first
pub take_two : (first more : List Name) (count : ℕ) (unit other : Name) → (has first unit ≡ true → ⊥) → has (take count (first ++ more)) unit ≡ true → has first other ≡ true → has (take count (first ++ more)) other ≡ true
take_two first more zero unit other without found among = absurd cc
take_two [] more (suc count) unit other without found among = absurd cc
take_two (name ∷ first) more (suc count) unit other without found among =
    elim (or_cases (is_name unit name) (has (take count (first ++ more)) unit) found) [
      | inl is ↦ absurd (without (or_left (is_name unit name) (has first unit) is))
      | inr later ↦ elim (or_cases (is_name other name) (has first other) among) [
        | inl is ↦ or_left (is_name other name) (has (take count (first ++ more)) other) is
        | inr rest ↦
            or_right (is_name other name) (has (take count (first ++ more)) other)
            (take_two first more count unit other (λ in_first. without (or_right (is_name unit name) (has first unit) in_first)) later rest)
      ]
    ]

either : (test listed : Bool) → (test && listed || not test && listed) ≡ listed
either true true = refl
either true false = refl
either false true = refl
either false false = refl

-- names of which the sockets come first are the same names
pub has-sockets_first : (kind : Name → UnitKind) (names : List Name) (unit : Name) → has (sockets_first kind names) unit ≡ has names unit
has-sockets_first kind names unit =
    list_any-append (is_name unit) (filter (λ u. is_kind (kind u) Socket) names) (filter (λ u. not (is_kind (kind u) Socket)) names)
    ∙ (λ i. has_filter (λ u. is_kind (kind u) Socket) names unit i || has_filter (λ u. not (is_kind (kind u) Socket)) names unit i)
    ∙ either (is_kind (kind unit) Socket) (has names unit)
