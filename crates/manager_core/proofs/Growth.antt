-- The lines of a state with one more.
use Rattle.std.proofs.Common.{◌≡◌, ℕ, ◌-◌, suc, ◌==◌, ◌&&◌, Bool, true, false, List, [], ◌∷◌, ◌++◌, length, map, T, refl, sym, ap, ◌∙◌, append_assoc, arith}
use Rattle.std.proofs.lemmas.List.{map-append}
use Rattle.std.specs.List.{AllByRecursion, slice_get}
use Rattle.std.specs.Option.{option_map_or}
use Rattle.std.specs.Ordering.{is_lt, ordering_reverse}
use Rattle.std.specs.declared.cmp.Ordering.{Ordering}
use Rattle.std.specs.declared.cmp.Ordering.TheVariants.{Less, Equal, Greater}
use Rattle.std.specs.FinMap.{empty, entries, entries_sorted, entries-insert, insert, is_sorted, len-empty, len-entries, put}
use Rattle.std.specs.FinMap.Entries.{by_order}
use Rattle.std.proofs.lemmas.Bool.{both_ways, and_parts}
use Rattle.host_trait.specs.Bytes.{bytes_cmp}
use Rattle.host_trait.specs.States.{listed_states, with_state, UnitStates}
use Rattle.host_trait.specs.declared.manager_state.ManagerState.{ManagerState}
use Rattle.host_trait.specs.declared.unit_state.State.{State}
use Rattle.host_trait.specs.declared.unit_state.UnitState.{UnitState}
use Rattle.host_trait.proofs.Places.{bytes_total}
use Rattle.host_trait.proofs.StateLists.{with_listed}
use Rattle.manager_core.specs.declared.line.Line.{Line}
use Rattle.manager_core.specs.declared.line.Line.TheVariants as line
use Rattle.manager_core.specs.Placing.{added, is_above, may_stand, only_loaded}
use Rattle.manager_core.specs.StateText.{IsLine, state_lines}
use Rattle.manager_core.proofs.Order.{both_of, true_is}

pub no_items : {X : Type 0} (xs : List X) → (length xs == 0) ≡ true → xs ≡ []
no_items [] e = refl
no_items (x ∷ xs) e = absurd (let n : false ≡ true = grind arith in cc)

pub less_is : (o : Ordering) → is_lt o ≡ true → o ≡ Less
less_is Less e = refl
less_is Equal e = absurd (both_ways false refl e)
less_is Greater e = absurd (both_ways false refl e)

later_above : (e f : List ℕ × State) (es : List (List ℕ × State)) (unit : List ℕ) →
    is_above (map (λ (x : List ℕ × State). record { unit = x.0; state = x.1 }) (f ∷ es)) unit ≡ is_above (map (λ (x : List ℕ × State). record { unit = x.0; state = x.1 }) (e ∷ f ∷ es)) unit
later_above e f es unit =
    let units : List UnitState = map (λ (x : List ℕ × State). record { unit = x.0; state = x.1 }) (f ∷ es) in
    let one : UnitState = record { unit = e.0; state = e.1 } in
    let last : suc (length units - 1) ≡ length (one ∷ units) - 1 = omega arith in
    ap (λ k. option_map_or (λ (u : UnitState). is_lt (bytes_cmp u.unit unit)) (slice_get (one ∷ units) k) true) last

-- a unit above the last is above each
all_are_below : (es : List (List ℕ × State)) (unit : List ℕ) → T (is_sorted bytes_cmp es) → is_above (map (λ (e : List ℕ × State). record { unit = e.0; state = e.1 }) es) unit ≡ true
    → AllByRecursion (λ (e : List ℕ × State). bytes_cmp e.0 unit ≡ Less) es
all_are_below [] unit sorted above = tt
all_are_below (e ∷ []) unit sorted above = (less_is _ above, tt)
all_are_below (e ∷ f ∷ es) unit sorted above =
    let parts = both_of _ _ sorted in
    let first : bytes_cmp e.0 f.0 ≡ Less = less_is _ (true_is _ (both_of _ _ parts.0).0) in
    let later = all_are_below (f ∷ es) unit parts.1 (later_above e f es unit ∙ above) in
    (bytes_total.trans e.0 f.0 unit first later.0, later)

-- it is put behind them
put_last : (es : List (List ℕ × State)) (unit : List ℕ) (state : State) → AllByRecursion (λ (e : List ℕ × State). bytes_cmp e.0 unit ≡ Less) es
    → put bytes_cmp unit state es ≡ es ++ (unit, state) ∷ []
put_last [] unit state below = refl
put_last (e ∷ es) unit state below =
    ap (λ o. by_order o ((unit, state) ∷ e ∷ es) ((e.0, state) ∷ es) (e ∷ put bytes_cmp unit state es)) (bytes_total.antisymm unit e.0 ∙ ap ordering_reverse below.0)
    ∙ ap (λ rest. e ∷ rest) (put_last es unit state below.1)

-- the units in order with one more above them
listed_more : (states : UnitStates) (one : UnitState) → is_above (listed_states states) one.unit ≡ true → listed_states (insert states one.unit one.state) ≡ listed_states states ++ one ∷ []
listed_more states one above =
    ap (map (λ (e : List ℕ × State). record { unit = e.0; state = e.1 }))
    (entries-insert bytes_total states one.unit one.state ∙ put_last (entries states) one.unit one.state (all_are_below (entries states) one.unit (entries_sorted states) above))
    ∙ map-append (λ (e : List ℕ × State). record { unit = e.0; state = e.1 }) (entries states) ((one.unit, one.state) ∷ [])

no_end : {X : Type 0} (xs : List X) → xs ++ [] ≡ xs
no_end [] = refl
no_end (x ∷ xs) = ap (λ ys. x ∷ ys) (no_end xs)

-- a line that may stand after those of a state is added to them
pub added_lines : (state : ManagerState) (one : Line) → IsLine one → may_stand one state ≡ true → state_lines (added one state) ≡ state_lines state ++ one ∷ []
added_lines state (line.Loaded text) is may = absurd (both_ways false refl may)
added_lines state (line.State one) is may =
    let parts = and_parts _ _ may in
    let more = and_parts _ _ parts.1 in
    let bad = no_items state.bad parts.0 in
    let journal = no_items state.journal more.0 in
    let units = map line.State (listed_states state.states) in
    ap (λ bs. line.Loaded state.loaded ∷ (map line.State (listed_states (with_state one.unit one.state state.states)) ++ (map line.Bad bs ++ map line.Entry state.journal))) bad
    ∙ ap (λ es. line.Loaded state.loaded ∷ (map line.State (listed_states (with_state one.unit one.state state.states)) ++ map line.Entry es)) journal
    ∙ ap (λ ls. line.Loaded state.loaded ∷ ls) (no_end _ ∙ ap (map line.State) (ap listed_states (with_listed one.unit one.state state.states is.1) ∙ listed_more state.states one more.1)
    ∙ map-append line.State (listed_states state.states) (one ∷ []) ∙ ap (λ us. us ++ line.State one ∷ []) (sym (no_end units)))
    ∙ sym (ap (λ bs. (line.Loaded state.loaded ∷ (units ++ (map line.Bad bs ++ map line.Entry state.journal))) ++ line.State one ∷ []) bad
    ∙ ap (λ es. (line.Loaded state.loaded ∷ (units ++ map line.Entry es)) ++ line.State one ∷ []) journal)
added_lines state (line.Bad one) is may =
    let journal = no_items state.journal may in
    let units = map line.State (listed_states state.states) in
    ap (λ es. line.Loaded state.loaded ∷ (units ++ (map line.Bad (state.bad ++ one ∷ []) ++ map line.Entry es))) journal
    ∙ ap (λ ls. line.Loaded state.loaded ∷ (units ++ ls)) (no_end _ ∙ map-append line.Bad state.bad (one ∷ []) ∙ ap (λ bs. bs ++ line.Bad one ∷ []) (sym (no_end (map line.Bad state.bad))))
    ∙ ap (λ ls. line.Loaded state.loaded ∷ ls) (sym (append_assoc units (map line.Bad state.bad ++ []) (line.Bad one ∷ [])))
    ∙ sym (ap (λ es. (line.Loaded state.loaded ∷ (units ++ (map line.Bad state.bad ++ map line.Entry es))) ++ line.Bad one ∷ []) journal)
added_lines state (line.Entry one) is may =
    let units = map line.State (listed_states state.states) in
    let bad = map line.Bad state.bad in
    ap (λ es. line.Loaded state.loaded ∷ (units ++ (bad ++ es))) (map-append line.Entry state.journal (one ∷ []))
    ∙ ap (λ ls. line.Loaded state.loaded ∷ (units ++ ls)) (sym (append_assoc bad (map line.Entry state.journal) (line.Entry one ∷ [])))
    ∙ ap (λ ls. line.Loaded state.loaded ∷ ls) (sym (append_assoc units (bad ++ map line.Entry state.journal) (line.Entry one ∷ [])))

no_entries : (es : List (List ℕ × State)) → length es ≡ 0 → es ≡ []
no_entries [] e = refl
no_entries (x ∷ es) e = absurd (omega arith)

-- the one line of a state that has only loaded
pub begun_lines : (text : List ℕ) → state_lines (only_loaded text) ≡ line.Loaded text ∷ []
begun_lines text =
    ap (λ es. line.Loaded text ∷ (map line.State (map (λ (e : List ℕ × State). record { unit = e.0; state = e.1 }) es) ++ []))
    (no_entries _ (sym (len-entries empty) ∙ len-empty bytes_cmp State))
