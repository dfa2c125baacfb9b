use Rattle.std.proofs.Common.{◌≡◌, ℕ, List, map, length, sym, ap, ◌∙◌, inl, inr}
use Rattle.serde_json.specs.Data.{Data}
use Rattle.users_spec.specs.Place.{place_number}
use Rattle.users_spec.specs.GroupSpec.{group_at, group_after}
use Rattle.users_spec.specs.declared.place.Place.TheVariants.{Group}
use Rattle.users_spec.specs.declared.group_spec.GroupSpec.{GroupSpec}
use Rattle.users_spec.proofs.EachReads.{each_fails, each_goes_on}
use Rattle.users_spec.proofs.group_spec.groups_of.Goals as goal

-- what stands at a place is read as the group of its number, beside the names before it
here : (d : Data) (at number : ℕ) (groups : List GroupSpec) (names : List (List ℕ)) → names ≡ map (λ (group : GroupSpec). group.name) groups → length groups ≡ at → number ≡ place_number at
    → group_after groups d ≡ group_at (Group number) names d
here d at number groups names named long numbered =
    ap (λ k. group_at (Group (place_number k)) (map (λ (group : GroupSpec). group.name) groups) d) long
    ∙ ap (λ k. group_at (Group k) (map (λ (group : GroupSpec). group.name) groups) d) (sym numbered)
    ∙ ap (λ earlier. group_at (Group number) earlier d) (sym named)

pub returns-in_err-group_at : goal.returns-in_err-group_at
returns-in_err-group_at c =
    let to = c.loop-at.invariant in
    each_fails _ _ _ _ _ _ _ _ _ to c.loop-at-test.true c.index-values-at.is c.from_residual.ensures.1
    (elim c.in_err-group_at.ensures.read [ inl memory ↦ inl memory | inr fails ↦ inr (here _ _ _ _ _ to.0 to.1 c.place_number.ensures ∙ fails) ])

pub loop-at-preserved : goal.loop-at-preserved
loop-at-preserved c =
    let to = c.loop-at.invariant in
    each_goes_on _ _ _ _ _ _ _ _ _ _ to c.loop-at-test.true c.index-values-at.is c.in_ok-push.ensures.ok c.in_ok-group_at.ensures.names
    (here _ _ _ _ _ to.0 to.1 c.place_number.ensures ∙ c.in_ok-group_at.ensures.read)
