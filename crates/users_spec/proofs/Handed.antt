-- What a call answers after each step of reading.
use Rattle.std.proofs.Common.{◌≡◌, ◌⊎◌, Ok, Err, inl, inr, sym, ap, subst, ◌∙◌}
use Rattle.std.specs.Result.{IsErrAnd}
use Rattle.users_spec.specs.Fields.{Read, ◌>>=◌, read_and_then, Gives}
use Rattle.users_spec.specs.declared.spec_fault.SpecFault.{SpecFault}
use Rattle.users_spec.specs.declared.spec_fault.SpecFault.TheVariants.{Memory}

-- what is read fails as its part did
handed : {A : Type 0} (result read : Read A) (fault : SpecFault) → IsErrAnd result (λ given. given ≡ fault) → (fault ≡ Memory) ⊎ (read ≡ Err fault) → Gives result read
handed (Ok x) read fault given why = absurd given
handed (Err given) read fault same why = elim why [ inl memory ↦ inl (same ∙ memory) | inr fails ↦ inr (fails ∙ ap Err (sym same)) ]

-- what two steps read, of which the first read x
pub past : {A B : Type 0} (read : Read A) (f : A → Read B) (x : A) (y : Read B) → read ≡ Ok x → f x ≡ y → (read >>= f) ≡ y
unfolding read_and_then
past read f x y is then = ap (λ r. read_and_then r f) is ∙ then

-- a call answers what two steps read, of which the first read x
pub gives_past : {A B : Type 0} (result : Read B) (read : Read A) (f : A → Read B) (x : A) → read ≡ Ok x → Gives result (f x) → Gives result (read >>= f)
unfolding read_and_then
gives_past result read f x is gives = subst (λ r. Gives result (read_and_then r f)) (sym is) gives

-- a call answers what two steps read, of which the first fails
pub gives_at : {A B : Type 0} (result : Read B) (read : Read A) (f : A → Read B) (fault : SpecFault) → IsErrAnd result (λ given. given ≡ fault) → (fault ≡ Memory) ⊎ (read ≡ Err fault) → Gives result (read >>= f)
unfolding read_and_then
gives_at result read f fault same why =
    handed result (read >>= f) fault same (elim why [ inl memory ↦ inl memory | inr fails ↦ inr (ap (λ r. read_and_then r f) fails) ])
