-- The places whose contents are taken to set accounts.
use Rattle.std.proofs.Common.{◌≡◌, ◌||◌, List, [], ◌∷◌, ◌++◌, refl, ap, ◌∙◌}
use Rattle.std.proofs.lemmas.Map.Text.{is_eq-slice_cmp}
use Rattle.switch_names.specs.Names.{Name, has, is_name}
use Rattle.switch_parts.specs.Leaves.{is_among}
use Rattle.accounts_stage.specs.Lengths.{takes_accounts}
use Rattle.accounts_stage.specs.Places.{gids_place, group_place, groups_place, passwd_place, shadow_place, spec_path, taken_names, uids_place, users_place}

-- a place is added to some
pub added : (old new are : List Name) (at place : Name) → new ≡ old ++ at ∷ [] → at ≡ place → old ≡ are → new ≡ are ++ place ∷ []
added old new are at place more is_place is_old = more ∙ (λ i. is_old i ++ is_place i ∷ [])

-- a name is among places as a path is
same_among : (places : List Name) (q : Name) → has places q ≡ is_among places q
same_among [] q = refl
same_among (place ∷ places) q = λ i. is_eq-slice_cmp q place i || same_among places q i

-- the specification of a system, and the places of accounts
pub takes_these :
    (system : Name) (places : List Name) →
    places ≡ spec_path system ∷ group_place ∷ passwd_place ∷ shadow_place ∷ groups_place ∷ users_place ∷ gids_place ∷ uids_place ∷ [] →
    (q : Name) → has places q ≡ takes_accounts system q
unfolding taken_names
takes_these system places are q = ap (λ (ps : List Name). has ps q) are ∙ ap (λ b. is_name q (spec_path system) || b) (same_among taken_names q)
