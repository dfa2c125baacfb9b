-- What is reached stands in a list, where all that is wanted does.
use Rattle.std.proofs.Common.{◌≡◌, ◌⊎◌, ◌↔◌, ◌||◌, ◌&&◌, Bool, true, List, [], ◌∷◌, filter, sym, subst, ◌∙◌, inl, inr}
use Rattle.std.specs.List.{list_any}
use Rattle.std.proofs.lemmas.Bool.{and_from, and_parts, or_cases, or_left, or_right}
use Rattle.std.proofs.lemmas.List.Kept.{IsStrictlySortedBy-filter}
use Rattle.host_trait.specs.World.{bytes_cmp}
use Rattle.owed_lists.proofs.OrderLemmas.{has_ordered, ordered, ordered_sorted}
use Rattle.owed_plan.proofs.ActiveLemmas.{one_of}
use Rattle.switch_names.specs.Names.{IsListOf, Name, has, is_name}
use Rattle.unit_defs.specs.Pull.{Reached, FromRoot, FromWant}
use Rattle.host_trait.proofs.NameOrder.{name_exact, name_itself, passes_among, has_filter}

module _ (wanted : Name → List Name) where
  -- a unit leads to another: it is that one or wants it, or it does so by way of these units
  abbrev leads : List Name → Name → Name → Bool
  leads [] from to = is_name from to || has (wanted from) to
  leads (mid ∷ mids) from to = leads mids from to || (leads mids from mid && leads mids mid to)

  at_once : (mids : List Name) (from to : Name) → leads [] from to ≡ true → leads mids from to ≡ true
  at_once [] from to is = is
  at_once (mid ∷ mids) from to is = or_left (leads mids from to) (leads mids from mid && leads mids mid to) (at_once mids from to is)

  -- what a unit leads to is reached where the unit is
  leads_reached : (IsStart : Name → Type 0) (mids : List Name) (from to : Name) → leads mids from to ≡ true → Reached wanted IsStart from → Reached wanted IsStart to
  leads_reached IsStart [] from to is reached =
      elim (or_cases (is_name from to) (has (wanted from) to) is) [
        | inl same ↦ subst (Reached wanted IsStart) (name_exact from to same) reached
        | inr wants ↦ FromWant to from reached wants
      ]
  leads_reached IsStart (mid ∷ mids) from to is reached =
      elim (or_cases (leads mids from to) (leads mids from mid && leads mids mid to) is) [
        | inl there ↦ leads_reached IsStart mids from to there reached
        | inr both ↦
            let parts = and_parts (leads mids from mid) (leads mids mid to) both in
            leads_reached IsStart mids mid to parts.1 (leads_reached IsStart mids from mid parts.0 reached)
      ]

  -- a way with one more unit doesn't pass it, or leads to it and on from it
  module _ (first : Name) (mids : List Name) where
    ways : (from to : Name) → leads (first ∷ mids) from to ≡ true → (leads mids from to ≡ true) ⊎ ((leads mids from first ≡ true) × (leads mids first to ≡ true))
    ways from to is =
        elim (or_cases (leads mids from to) (leads mids from first && leads mids first to) is) [
          | inl there ↦ inl there
          | inr both ↦ inr (and_parts (leads mids from first) (leads mids first to) both)
        ]

    around : (from to : Name) → leads mids from to ≡ true → leads (first ∷ mids) from to ≡ true
    around from to is = or_left (leads mids from to) (leads mids from first && leads mids first to) is

    by_way : (from to : Name) → leads mids from first ≡ true → leads mids first to ≡ true → leads (first ∷ mids) from to ≡ true
    by_way from to one two = or_right (leads mids from to) (leads mids from first && leads mids first to) (and_from (leads mids from first) (leads mids first to) one two)

    to_first : (from : Name) → leads (first ∷ mids) from first ≡ true → leads mids from first ≡ true
    to_first from is = elim (ways from first is) [
      | inl there ↦ there
      | inr both ↦ both.0
    ]

    from_first : (to : Name) → leads (first ∷ mids) first to ≡ true → leads mids first to ≡ true
    from_first to is = elim (ways first to is) [
      | inl there ↦ there
      | inr both ↦ both.1
    ]

  -- two ways that meet in one of these units are one
  joined : (mids : List Name) (mid from to : Name) → has mids mid ≡ true → leads mids from mid ≡ true → leads mids mid to ≡ true → leads mids from to ≡ true
  joined [] mid from to there one two = absurd cc
  joined (first ∷ mids) mid from to there one two =
      elim (or_cases (is_name mid first) (has mids mid) there) [
        | inl same ↦
            let is : mid ≡ first = name_exact mid first same in
            by_way first mids from to (to_first first mids from (subst (λ n. leads (first ∷ mids) from n ≡ true) is one)) (from_first first mids to (subst (λ n. leads (first ∷ mids) n to ≡ true) is two))
        | inr later ↦
            elim (ways first mids from mid one) [
              | inl to_mid ↦
                  elim (ways first mids mid to two) [
                    | inl on ↦ around first mids from to (joined mids mid from to later to_mid on)
                    | inr back ↦ by_way first mids from to (joined mids mid from first later to_mid back.0) back.1
                  ]
              | inr came ↦
                  elim (ways first mids mid to two) [
                    | inl on ↦ by_way first mids from to came.0 (joined mids mid first to later came.1 on)
                    | inr back ↦ by_way first mids from to came.0 back.1
                  ]
            ]
      ]

module _ (wanted : Name → List Name) (IsStart : Name → Type 0) (is_start : Name → Bool) (all : List Name) (starts : (unit : Name) → (is_start unit ≡ true) ↔ IsStart unit) (start_in : (unit : Name) → IsStart unit → has all unit ≡ true) (wanted_in : (by unit : Name) → has (wanted by) unit ≡ true → has all unit ≡ true) where
  reached_in : (unit : Name) → Reached wanted IsStart unit → has all unit ≡ true
  reached_in unit (FromRoot _ start) = start_in unit start
  reached_in unit (FromWant _ by reached wants) = wanted_in by unit wants

  -- a start leads to the unit
  abbrev is_led : Name → Name → Bool
  is_led unit start = is_start start && leads wanted all start unit

  abbrev is_reached : Name → Bool
  is_reached unit = list_any (is_led unit) all

  reached_from : (unit : Name) → is_reached unit ≡ true → Reached wanted IsStart unit
  reached_from unit found =
      let one = one_of (is_led unit) all found in
      let parts = and_parts (is_start one.0) (leads wanted all one.0 unit) one.2 in
      leads_reached wanted IsStart all one.0 unit parts.1 (FromRoot one.0 ((starts one.0).0 parts.0))

  reached_to : (unit : Name) → Reached wanted IsStart unit → is_reached unit ≡ true
  reached_to unit (FromRoot _ start) =
      passes_among (is_led unit) all unit (start_in unit start)
      (and_from (is_start unit) (leads wanted all unit unit) ((starts unit).1 start) (at_once wanted all unit unit (or_left (is_name unit unit) (has (wanted unit) unit) (name_itself unit))))
  reached_to unit (FromWant _ by reached wants) =
      let one = one_of (is_led by) all (reached_to by reached) in
      let parts = and_parts (is_start one.0) (leads wanted all one.0 by) one.2 in
      passes_among (is_led unit) all one.0 one.1
      (and_from (is_start one.0) (leads wanted all one.0 unit) parts.0
      (joined wanted all by one.0 unit (reached_in by reached) parts.1 (at_once wanted all by unit (or_right (is_name by unit) (has (wanted by) unit) wants))))

  -- what is reached, in order
  pub reached_list : (names : List Name) × IsListOf names (Reached wanted IsStart)
  reached_list = (
    filter is_reached (ordered all),
    record {
      sorted = IsStrictlySortedBy-filter bytes_cmp is_reached (ordered all) (ordered_sorted all);
      exact = λ unit. (
        λ found. reached_from unit (and_parts (is_reached unit) (has (ordered all) unit) (sym (has_filter is_reached (ordered all) unit) ∙ found)).0,
        λ reached. has_filter is_reached (ordered all) unit
            ∙ and_from (is_reached unit) (has (ordered all) unit) (reached_to unit reached) (has_ordered all unit ∙ reached_in unit reached),
      );
    },
  )
