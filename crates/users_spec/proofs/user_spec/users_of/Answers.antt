use Rattle.std.proofs.Common.{◌≡◌, ℕ, List, map, length, sym, ap, ◌∙◌, inl, inr}
use Rattle.serde_json.specs.Data.{Data}
use Rattle.users_spec.specs.Place.{place_number}
use Rattle.users_spec.specs.UserSpec.{user_at, user_after}
use Rattle.users_spec.specs.declared.place.Place.TheVariants.{User}
use Rattle.users_spec.specs.declared.user_spec.UserSpec.{UserSpec}
use Rattle.users_spec.proofs.EachReads.{each_fails, each_goes_on}
use Rattle.users_spec.proofs.user_spec.users_of.Goals as goal

-- what stands at a place is read as the user of its number, beside the names before it
here : (d : Data) (at number : ℕ) (users : List UserSpec) (names : List (List ℕ)) → names ≡ map (λ (user : UserSpec). user.name) users → length users ≡ at → number ≡ place_number at
    → user_after users d ≡ user_at (User number) names d
here d at number users names named long numbered =
    ap (λ k. user_at (User (place_number k)) (map (λ (user : UserSpec). user.name) users) d) long
    ∙ ap (λ k. user_at (User k) (map (λ (user : UserSpec). user.name) users) d) (sym numbered)
    ∙ ap (λ earlier. user_at (User number) earlier d) (sym named)

pub returns-in_err-user_at : goal.returns-in_err-user_at
returns-in_err-user_at c =
    let to = c.loop-at.invariant in
    each_fails _ _ _ _ _ _ _ _ _ to c.loop-at-test.true c.index-values-at.is c.from_residual.ensures.1
    (elim c.in_err-user_at.ensures.read [ inl memory ↦ inl memory | inr fails ↦ inr (here _ _ _ _ _ to.0 to.1 c.place_number.ensures ∙ fails) ])

pub loop-at-preserved : goal.loop-at-preserved
loop-at-preserved c =
    let to = c.loop-at.invariant in
    each_goes_on _ _ _ _ _ _ _ _ _ _ to c.loop-at-test.true c.index-values-at.is c.in_ok-push.ensures.ok c.in_ok-user_at.ensures.names
    (here _ _ _ _ _ to.0 to.1 c.place_number.ensures ∙ c.in_ok-user_at.ensures.read)
