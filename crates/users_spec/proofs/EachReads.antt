-- What is read one after another.
use Rattle.std.proofs.Common.{◌≡◌, ◌⊎◌, ℕ, ◌+◌, ◌<◌, List, [], ◌∷◌, ◌++◌, map, length, drop, get_or, Ok, Err, refl, sym, ap, subst, ◌∙◌, arith, length-append}
use Rattle.std.proofs.lemmas.List.{at_drop_more, map-append}
use Rattle.std.specs.Result.{IsErrAnd}
use Rattle.serde_json.specs.Data.{Data}
use Rattle.serde_json.specs.View.{view}
use Rattle.serde_json.specs.declared.value.Value.{Value}
use Rattle.users_spec.specs.Fields.{Read, ◌>>=◌, Gives, read_each}
use Rattle.users_spec.specs.declared.spec_fault.SpecFault.{SpecFault}
use Rattle.users_spec.specs.declared.spec_fault.SpecFault.TheVariants.{Memory}
use Rattle.users_spec.proofs.Handed.{past, gives_at}

module _ {A : Type 0} (name : A → List ℕ) (read : List A → Data → Read A) (values : List Value) where
  -- so many values have been read, into these, which have these names
  abbrev pub IsReadTo : ℕ → List A → List (List ℕ) → Type 0
  IsReadTo at before names =
      (names ≡ map name before) × (length before ≡ at) × (read_each read before (map view (drop at values)) ≡ read_each read [] (map view values))

  turn : (at : ℕ) (before : List A) (value : Value) → at < length values → value ≡ get_or values at value
      → read_each read before (map view (drop at values)) ≡ (read before (view value) >>= λ one. read_each read (before ++ one ∷ []) (map view (drop (at + 1) values)))
  turn at before value within is =
      at_drop_more (λ rest. read_each read before (map view rest)) values at value within
      ∙ ap (λ v. read before (view v) >>= λ one. read_each read (before ++ one ∷ []) (map view (drop (at + 1) values))) (sym is)

  -- the value at a place isn't read
  pub each_fails : (at : ℕ) (before : List A) (names : List (List ℕ)) (value : Value) (result : Read (List A)) (fault : SpecFault) → IsReadTo at before names → at < length values
      → value ≡ get_or values at value → IsErrAnd result (λ given. given ≡ fault) → (fault ≡ Memory) ⊎ (read before (view value) ≡ Err fault) → Gives result (read_each read [] (map view values))
  each_fails at before names value result fault to within is same why =
      subst (Gives result) (sym (turn at before value within is) ∙ to.2) (gives_at _ _ _ _ same why)

  -- the value at a place is read
  pub each_goes_on : (at : ℕ) (before after : List A) (names more : List (List ℕ)) (value : Value) (one : A) → IsReadTo at before names → at < length values
      → value ≡ get_or values at value → after ≡ before ++ one ∷ [] → more ≡ names ++ name one ∷ [] → read before (view value) ≡ Ok one → IsReadTo (at + 1) after more
  each_goes_on at before after names more value one to within is longer named reads =
      rw longer (
        named ∙ ap (λ ns. ns ++ name one ∷ []) to.0 ∙ sym (map-append name before (one ∷ [])),
        omega (arith, length-append before (one ∷ []), to.1),
        sym (turn at before value within is ∙ past _ _ _ _ reads refl) ∙ to.2,
      )
