-- What a put leaves, world by world.
use Rattle.std.proofs.Common.{◌≡◌, ◌≢◌, ℕ, true, List, [], ◌∷◌, ◌++◌, IsSome, refl, sym, ap, subst, ◌∙◌, inl, inr, ⊎_elim}
use Rattle.std.proofs.lemmas.Bool.{both_ways}
use Rattle.std.specs.Cmp.Lexicographic.{nat_list_eq_equiv}
use Rattle.std.specs.FinMap.{get}
use Rattle.host_trait.specs.declared.leaf.LeafKind.{LeafKind}
use Rattle.host_trait.specs.Change.{Stage, Rename, finished, IsMoment}
use Rattle.host_trait.specs.World.{WorldState, IsClear, is_path, seen, stage, with_leaf}
use Rattle.host_trait.proofs.Places.{at_same}
use Rattle.host_trait.proofs.Seen.{seen_staged, renamed}
use Rattle.host_trait.proofs.Sound.{line_turned, clear_insert}
use Rattle.tree_put.specs.Put.{AreApart, IsOldOrNew}

pub apart_ne : (p q : List ℕ) → AreApart p q → p ≢ q
apart_ne p q apart same = both_ways _ apart.other (subst (λ x. is_path p x ≡ true) same (nat_list_eq_equiv.refl p))

-- whatever a cut leaves of the write at the stage isn't seen
pub staged_moment : (leaf : LeafKind) (w m : WorldState) → IsMoment (Stage leaf) w m → seen m ≡ seen w
staged_moment leaf w m moment =
    ⊎_elim (λ same. ap seen same) (λ later. ⊎_elim (λ done. ap seen done ∙ seen_staged leaf w) (λ middle. middle) later) moment

-- the rename leaves the old leaf or the new one
pub renamed_moment : (at : List ℕ) (leaf : LeafKind) (w v m : WorldState) → at ≢ stage → v ≡ finished (Stage leaf) w → IsMoment (Rename at) v m → IsOldOrNew at leaf w m
renamed_moment at leaf w v m ne is moment =
    ⊎_elim (λ same. inl (ap seen (same ∙ is) ∙ seen_staged leaf w))
    (λ later. ⊎_elim (λ done. inr (ap seen done ∙ ap (λ x. seen (finished (Rename at) x)) is ∙ renamed at leaf w ne)) (λ none. absurd none) later) moment

pub renamed_world : (at : List ℕ) (leaf : LeafKind) (w v u : WorldState) → at ≢ stage → v ≡ finished (Stage leaf) w → u ≡ finished (Rename at) v → seen u ≡ seen (with_leaf at leaf w)
renamed_world at leaf w v u ne is done = ap seen done ∙ ap (λ x. seen (finished (Rename at) x)) is ∙ renamed at leaf w ne

-- the rename writes the place, and what came before it none
pub renamed_written : (at : List ℕ) (leaf : LeafKind) (w v u : WorldState) → v ≡ finished (Stage leaf) w → u ≡ finished (Rename at) v → u.written ≡ w.written ++ at ∷ []
renamed_written at leaf w v u is done = ap (λ (x : WorldState). x.written) done ∙ ap (λ (x : WorldState). x.written ++ at ∷ []) is

-- the stage holds what was written
pub stage_has : (leaf : LeafKind) (w v : WorldState) → v ≡ finished (Stage leaf) w → IsSome (get v.leaves stage)
stage_has leaf w v is = subst (λ o. IsSome o) (sym (ap (λ (x : WorldState). get x.leaves stage) is ∙ at_same w.leaves stage leaf)) refl

pub place_clear : (at : List ℕ) (leaf : LeafKind) (w v : WorldState) → AreApart at stage → IsClear w.leaves at → v ≡ finished (Stage leaf) w → IsClear v.leaves at
place_clear at leaf w v apart clear is =
    subst (λ (x : WorldState). IsClear x.leaves at) (sym is) (clear_insert w.leaves stage at leaf (line_turned at stage apart.line) clear)
