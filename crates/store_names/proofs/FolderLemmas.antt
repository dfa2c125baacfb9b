-- A name that begins with the store's folder stands wherever that does and the text goes on with the name.
use Rattle.std.proofs.Common.{◌≡◌, ◌↔◌, ℕ, zero, suc, ◌+◌, ◌-◌, ◌<◌, ◌≤◌, ◌||◌, ◌&&◌, true, List, [], ◌∷◌, ◌++◌, length, take, drop, IsTrue, refl, sym, ap, subst, ◌∙◌, inl, inr, arith, append_assoc, length-append, take-append-drop, length-drop, nat_eq}
use Rattle.std.proofs.lemmas.Bool.{and_from, and_parts, cases_lt, or_cases, or_left, or_right}
use Rattle.std.proofs.lemmas.Bool.Decides.{Decides-eqb}
use Rattle.std.proofs.lemmas.Slice.Eq.{ends_is}
use Rattle.std.specs.List.{AllByRecursion, ends_with, starts_with}
use Rattle.host_trait.proofs.Fronts.{begins, begins_there, begins_with}
use Rattle.host_trait.proofs.NameOrder.{name_exact}
use Rattle.memchr.specs.Find.{Nowhere, OccursAt}
use Rattle.memchr.proofs.lemmas.MatchLemmas.{OccursAt-from_part}
use Rattle.switch_names.specs.Names.{Name, has, is_name}
use Rattle.switch_names.specs.SystemName.{store_folder}
use Rattle.store_names.specs.Occurs.{AreInFolder, Occurs}

drop_within : (n : ℕ) (a b : List ℕ) → n ≤ length a → drop n (a ++ b) ≡ drop n a ++ b
drop_within zero a b within = refl
drop_within (suc n) [] b within = absurd (omega arith)
drop_within (suc n) (x ∷ a) b within = drop_within n a b (omega arith)

drop_seam : (a b : List ℕ) → drop (length a) (a ++ b) ≡ b
drop_seam [] b = refl
drop_seam (x ∷ a) b = drop_seam a b

take_seam : (a b : List ℕ) → take (length a) (a ++ b) ≡ a
take_seam [] b = refl
take_seam (x ∷ a) b = ap (λ l. x ∷ l) (take_seam a b)

-- some bytes stand where a text is cut
pub occurs_here : (bytes before after : List ℕ) → OccursAt (before ++ (bytes ++ after)) bytes (length before)
occurs_here bytes before after =
    OccursAt-from_part (before ++ (bytes ++ after)) bytes (length before) (omega (arith, length-append before (bytes ++ after), length-append bytes after)) part
  where
    part : take (length bytes) (drop (length before) (before ++ (bytes ++ after))) ≡ bytes
    part = ap (take (length bytes)) (drop_seam before (bytes ++ after)) ∙ take_seam bytes after

nothing_named : {X : Type 0} (name : Name) → has [] name ≡ true → X
nothing_named name is = absurd cc

named_in : (P : Name → Type 0) (names : List Name) (name : Name) → AllByRecursion P names → has names name ≡ true → P name
named_in P [] name all is = absurd cc
named_in P (first ∷ names) name all is = elim (or_cases (is_name name first) (has names name) is) [
  | inl same ↦ subst P (sym (name_exact name first same)) all.0
  | inr later ↦ named_in P names name all.1 later
]

module _ (names : List Name) (front text : List ℕ) where
  -- what is found occurs, and is all that occurs with the folder before a place
  pub record IsPassed (from : ℕ) (found : List Name) : Type 0 where
    pub sound : (name : Name) → has found name ≡ true → Occurs names front text name
    pub whole : (name : Name) → has names name ≡ true → (before after : List ℕ) → text ≡ (before ++ front) ++ (name ++ after) → length (before ++ front) < from → has found name ≡ true

  pub passed_start : (found : List Name) → found ≡ [] → IsPassed 0 found
  passed_start found none = record {
    sound = λ name is. nothing_named name (subst (λ l. has l name ≡ true) none is);
    whole = λ name listed before after there less. absurd (omega (arith, less));
  }

  module _ (in_folder : AreInFolder names) (from : ℕ) (found : List Name) (passed : IsPassed from found) where
    -- where one of the names stands, the folder does
    folder_there : (name : Name) → has names name ≡ true → (before after : List ℕ) → text ≡ (before ++ front) ++ (name ++ after) → from ≤ length (before ++ front) →
        OccursAt (drop from text) store_folder (length (before ++ front) - from)
    folder_there name listed before after there low =
        let lead : List ℕ = before ++ front in
        let with = begins_with store_folder name (named_in (λ n. begins store_folder n ≡ true) names name in_folder listed) in
        let rest : List ℕ = with.0 ++ after in
        let split : drop from text ≡ drop from lead ++ (store_folder ++ rest) =
        ap (drop from) (there ∙ ap (λ n. lead ++ (n ++ after)) with.1 ∙ ap (λ r. lead ++ r) (append_assoc store_folder with.0 after)) ∙ drop_within from lead (store_folder ++ rest) low in
        subst (λ k. OccursAt (drop from text) store_folder k) (length-drop from lead)
        (subst (λ t. OccursAt t store_folder (length (drop from lead))) (sym split) (occurs_here store_folder (drop from lead) rest))

    -- where the folder stands no more, all is found
    pub passed_end : Nowhere (OccursAt (drop from text) store_folder) 0 (length (drop from text) + 1) → (name : Name) → IsTrue (has found name) ↔ Occurs names front text name
    passed_end none name = (λ is. passed.sound name is, λ occurs. by occurs)
      where
        by : Occurs names front text name → has found name ≡ true
        by occurs =
            let stands = occurs.stands in
            let there : text ≡ (stands.before ++ front) ++ (name ++ stands.after) =
            stands.whole ∙ ap (λ r. stands.before ++ r) (append_assoc front name stands.after) ∙ sym (append_assoc stands.before front (name ++ stands.after)) in
            elim (cases_lt (length (stands.before ++ front)) from) [
              | inl less ↦ passed.whole name occurs.listed stands.before stands.after there less
              | inr more ↦
                  let at = folder_there name occurs.listed stands.before stands.after there more in
                  absurd (none (length (stands.before ++ front) - from) (omega arith) (omega (arith, at.fits)) at)
            ]

    module _
        (at : ℕ) (more : List Name) (before : Nowhere (OccursAt (drop from text) store_folder) 0 at) (within : from + at ≤ length text)
        (added : (name : Name) → has more name ≡ (has found name || (ends_with nat_eq (take (from + at) text) front && (has names name && starts_with nat_eq (drop (from + at) text) name)))) where
      abbrev place : ℕ
      place = from + at

      sound_more : (name : Name) → has more name ≡ true → Occurs names front text name
      sound_more name is = elim (or_cases (has found name) _ (sym (added name) ∙ is)) [
        | inl old ↦ passed.sound name old
        | inr new ↦
            let parts = and_parts (ends_with nat_eq (take place text) front) _ new in
            let rest = and_parts (has names name) (begins name (drop place text)) parts.1 in
            let lead = (ends_is Decides-eqb (take place text) front (ends_with nat_eq (take place text) front) refl).0 parts.0 in
            let with = begins_with name (drop place text) rest.1 in
            let b = take (length (take place text) - length front) (take place text) in
            record {
              listed = rest.0;
              stands = record {
                before = b;
                after = with.0;
                whole = sym (take-append-drop place text) ∙ ap (λ l. l ++ drop place text) lead ∙ ap (λ r. (b ++ front) ++ r) with.1
                    ∙ append_assoc b front (name ++ with.0) ∙ ap (λ r. b ++ r) (sym (append_assoc front name with.0));
              };
            }
      ]

      -- at the place itself
      here : (name : Name) → has names name ≡ true → (b a : List ℕ) → text ≡ (b ++ front) ++ (name ++ a) → length (b ++ front) ≡ place → has more name ≡ true
      here name listed b a there is =
          let lead : take place text ≡ b ++ front = ap (λ n. take n text) (sym is) ∙ ap (take (length (b ++ front))) there ∙ take_seam (b ++ front) (name ++ a) in
          let rest : drop place text ≡ name ++ a = ap (λ n. drop n text) (sym is) ∙ ap (drop (length (b ++ front))) there ∙ drop_seam (b ++ front) (name ++ a) in
          let ends = (ends_is Decides-eqb (take place text) front (ends_with nat_eq (take place text) front) refl).1 b lead in
          let begun : begins name (drop place text) ≡ true = subst (λ t. begins name t ≡ true) (sym rest) (begins_there name a) in
          added name ∙ or_right (has found name) _ (and_from _ _ ends (and_from _ _ listed begun))

      whole_more : (name : Name) → has names name ≡ true → (b a : List ℕ) → text ≡ (b ++ front) ++ (name ++ a) → length (b ++ front) < from + (at + 1) → has more name ≡ true
      whole_more name listed b a there less = elim (cases_lt (length (b ++ front)) from) [
        | inl old ↦ added name ∙ or_left (has found name) _ (passed.whole name listed b a there old)
        | inr new ↦ elim (cases_lt (length (b ++ front)) place) [
          | inl between ↦ absurd (before (length (b ++ front) - from) (omega arith) (omega (arith, between, new)) (folder_there name listed b a there new))
          | inr high ↦ here name listed b a there (omega (arith, high, less))
        ]
      ]

      pub passed_step : IsPassed (from + (at + 1)) more
      passed_step = record { sound = sound_more; whole = whole_more }
