use Rattle.std.proofs.Common.{[], ◌∷◌, ◌++◌, ◌≡◌, ◌<◌, ◌==◌, ℕ, List, length, map, sym, ap, ◌∙◌, subst, ⊎_elim, OnErr, OnOk, Result, Ok, Err, Some}
use Rattle.std.specs.List.{insert, slice_get, slice_index_or, slice_set}
use Rattle.std.proofs.lemmas.Bool.{cases_lt}
use Rattle.std.proofs.lemmas.Option.{slice_get_past, none-some}
use Rattle.std.proofs.lemmas.Result.{on_ok_weaker}
use Rattle.unit_text.specs.declared.assignment.Assignment.{Assignment}
use Rattle.unit_text.specs.declared.index.Index.{Index}
use Rattle.unit_text.specs.declared.unit_key.UnitKey.{UnitKey}
use Rattle.unit_text.specs.UnitKey.{key_of}
use Rattle.unit_text.specs.Index.{IsIndexOf, IsPlaceFor}
use Rattle.unit_text.specs.UnitText.{AreAssignedIn, values_of}
use Rattle.unit_text.proofs.IndexLemmas.{added, cleared, entering, had, inserts, replaces}
use Rattle.unit_text.proofs.index.Index.apply.Goals as goal
use Rattle.switch_names.proofs.Outcomes.{on_ok_both}

within : {X : Type 0} (xs : List X) (at : ℕ) (x : X) → slice_get xs at ≡ Some x → at < length xs
within xs at x e = ⊎_elim (λ h. h) (λ h. absurd (none-some x (sym (slice_get_past xs at h) ∙ e))) (cases_lt at (length xs))

both_err : {T E P Q R : Type 0} (r : Result T E) → (P → Q → R) → OnErr r P → OnErr r Q → OnErr r R
both_err (Ok x) f p q = tt
both_err (Err e) f p q = f p q

unchanged : {old new : Index} (front later : List Assignment) → IsIndexOf front later old → new.keys ≡ old.keys → new.values.items ≡ old.values.items → IsIndexOf front later new
unchanged front later is keys values = record {
  keys = subst (AreAssignedIn later) (sym keys) is.keys;
  values = values ∙ is.values ∙ ap (map (values_of (front ++ later))) (sym keys);
}

pub returns-in-Ok-clause-ok : goal.returns-in-Ok-clause-ok
returns-in-Ok-clause-ok c front later is before =
    let one = c.args.assignment in
    let found = c.in-Ok.ensures.found ∙ ap Some (λ i. key_of (c.as_str-2.ensures i) (c.as_str-3.ensures i)) in
    replaces front later one c.args.self.now c.clear.new.self is c.in-Ok.at [] found
    (cleared front later one (ap (λ t. length t == 0) (sym c.as_str.ensures) ∙ sym c.if-is_empty.ensures)) c.clear.ensures.keys c.clear.ensures.values

pub clear-requires : goal.clear-requires
clear-requires c = subst (λ (n : ℕ). c.in-Ok.at < n) (sym c.requires.as_many) (within _ _ _ c.in-Ok.ensures.found)

pub add_value-requires : goal.add_value-requires
add_value-requires c = subst (λ (n : ℕ). c.in-Ok.at < n) (sym c.requires.as_many) (within _ _ _ c.in-Ok.ensures.found)

pub returns-in-Ok-2-clause-ok : goal.returns-in-Ok-2-clause-ok
returns-in-Ok-2-clause-ok c front later is before =
    let one = c.args.assignment in
    let old = c.args.self.now in
    let found = c.in-Ok.ensures.found ∙ ap Some (λ i. key_of (c.as_str-2.ensures i) (c.as_str-3.ensures i)) in
    let values = subst (λ (value : List ℕ). OnOk c.add_value.result (c.add_value.new.self.values.items ≡ slice_set old.values.items c.in-Ok.at (slice_index_or old.values.items c.in-Ok.at [] ++ value ∷ [])))
    c.into_parts.ensures.value c.add_value.ensures.values in
    on_ok_weaker c.add_value.result
    (replaces front later one old c.add_value.new.self is c.in-Ok.at (slice_index_or old.values.items c.in-Ok.at [] ++ one.value ∷ []) found
    (added front later one (slice_index_or old.values.items c.in-Ok.at []) (had front later one old c.add_value.new.self is c.in-Ok.at found)
    (ap (λ t. length t == 0) (sym c.as_str.ensures) ∙ sym c.if-is_empty.ensures)) c.add_value.ensures.keys)
    values

pub returns-in-Err-clause-ok : goal.returns-in-Err-clause-ok
returns-in-Err-clause-ok c front later is before =
    let one = c.args.assignment in
    let old = c.args.self.now in
    let place = subst (λ (key : UnitKey). IsPlaceFor old.keys key c.in-Err.at) (λ i. key_of (c.as_str-2.ensures i) (c.as_str-3.ensures i)) c.in-Err.ensures.missing in
    let keys = subst (λ (key : UnitKey). OnOk c.insert.result (c.insert.new.self.keys ≡ insert old.keys c.in-Err.at key)) c.into_parts-in-Err.ensures.key c.insert.ensures.keys in
    let values = subst (λ (values : List (List ℕ)). OnOk c.insert.result (c.insert.new.self.values.items ≡ insert old.values.items c.in-Err.at values)) c.new.ensures c.insert.ensures.values in
    on_ok_both c.insert.result
    (inserts front later one old c.insert.new.self is c.in-Err.at [] place
    (cleared front later one (ap (λ t. length t == 0) (sym c.as_str.ensures) ∙ sym c.if-is_empty-2.ensures)))
    keys values

pub returns-in_ok-with_value-in-Err-2-clause-ok : goal.returns-in_ok-with_value-in-Err-2-clause-ok
returns-in_ok-with_value-in-Err-2-clause-ok c front later is before =
    let one = c.args.assignment in
    let old = c.args.self.now in
    let new = c.insert-in-Err-2.new.self in
    let all = c.args.before.now ++ one.value ∷ [] in
    let place = subst (λ (key : UnitKey). IsPlaceFor old.keys key c.in-Err.at) (λ i. key_of (c.as_str-2.ensures i) (c.as_str-3.ensures i)) c.in-Err.ensures.missing in
    let keys = subst (λ (key : UnitKey). OnOk c.insert-in-Err-2.result (new.keys ≡ insert old.keys c.in-Err.at key)) c.into_parts-key.ensures.key c.insert-in-Err-2.ensures.keys in
    let made = c.in_ok-with_value-in-Err-2.ensures ∙ ap (λ (value : List ℕ). c.args.before.now ++ value ∷ []) c.into_parts-key.ensures.value in
    let values = subst (λ (values : List (List ℕ)). OnOk c.insert-in-Err-2.result (new.values.items ≡ insert old.values.items c.in-Err.at values)) made c.insert-in-Err-2.ensures.values in
    on_ok_both c.insert-in-Err-2.result
    (inserts front later one old new is c.in-Err.at all place
    (added front later one c.args.before.now (entering front later one old new is c.in-Err.at c.args.before.now place before)
    (ap (λ t. length t == 0) (sym c.as_str.ensures) ∙ sym c.if-is_empty-2.ensures)))
    keys values
