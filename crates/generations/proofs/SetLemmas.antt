-- What a set leaves, world by world.
use Rattle.std.proofs.Common.{◌≡◌, ℕ, true, false, cond, List, sym, ap, subst, ◌∙◌, inl, inr, ⊎_elim}
use Rattle.host_trait.specs.declared.leaf.LeafKind.{LeafKind}
use Rattle.host_trait.specs.declared.leaf.LeafKind.TheVariants.{Link}
use Rattle.host_trait.specs.World.{WorldState, IsClear, is_in_line, seen, stage, with_leaf}
use Rattle.host_trait.proofs.Seen.{seen_with_leaf, clear_seen, stage_clear_seen}
use Rattle.host_trait.proofs.Sound.{clear_insert, line_turned}
use Rattle.tree_put.specs.Put.{CanPut, IsOldOrNew}
use Rattle.generations.specs.Places.{generation_at, highest, is_of, link_name, link_path, link_target, number_after, profile, set_end, with_generation, with_profile}
use Rattle.generations.specs.Set.{CanSet, IsLinkMoment, IsSetMoment, link_end}
use Rattle.generations.proofs.Apart.{profile_apart, link_apart, link_profile}

-- the generation's link, put or kept
pub kept_generation : (system : List ℕ) (n : ℕ) (w : WorldState) → is_of (generation_at w.leaves (highest w.leaves)) system ≡ true → with_generation system n w ≡ w
kept_generation system n w is = ap (λ b. cond b w (with_leaf (link_path n) (Link (link_target system)) w)) is

pub new_generation : (system : List ℕ) (n : ℕ) (w : WorldState) → is_of (generation_at w.leaves (highest w.leaves)) system ≡ false → with_generation system n w ≡ with_leaf (link_path n) (Link (link_target system)) w
new_generation system n w is = ap (λ b. cond b w (with_leaf (link_path n) (Link (link_target system)) w)) is

-- what is clear stays so where the generation's link is put
pub clear_with_generation : (system : List ℕ) (n : ℕ) (w : WorldState) (p : List ℕ) → is_in_line (link_path n) p ≡ false → IsClear w.leaves p → IsClear (with_generation system n w).leaves p
clear_with_generation system n w p apart clear =
    elim (is_of (generation_at w.leaves (highest w.leaves)) system) as (λ b. IsClear (cond b w (with_leaf (link_path n) (Link (link_target system)) w)).leaves p) [
      | true ↦ clear
      | false ↦ clear_insert w.leaves (link_path n) p (Link (link_target system)) apart clear
    ]

pub can_put_link : (system : List ℕ) (n : ℕ) (at : List ℕ) (w : WorldState) → at ≡ link_path n → n ≡ number_after w.leaves system →
    is_of (generation_at w.leaves (highest w.leaves)) system ≡ false → CanSet system w → CanPut at w
can_put_link system n at w place number other can = record {
  stage = can.stage;
  place = subst (λ p. IsClear w.leaves p) (sym (place ∙ ap link_path number)) (can.link other);
}

pub can_point : (system : List ℕ) (w v : WorldState) → CanSet system w → seen v ≡ link_end system w → CanPut profile v
can_point system w v can is = record {
  stage = stage_clear_seen v u is (clear_with_generation system n w stage (link_apart n).line can.stage);
  place = clear_seen v u profile (line_turned profile stage profile_apart.line) is (clear_with_generation system n w profile (link_profile n).line can.profile);
}
  where
    n : ℕ
    n = number_after w.leaves system

    u : WorldState
    u = with_generation system n w

-- a put of the generation's link
pub link_moment : (system : List ℕ) (n : ℕ) (at : List ℕ) (leaf : LeafKind) (w m : WorldState) → at ≡ link_path n → leaf ≡ Link (link_target system) → n ≡ number_after w.leaves system →
    is_of (generation_at w.leaves (highest w.leaves)) system ≡ false → IsOldOrNew at leaf w m → IsLinkMoment system w m
link_moment system n at leaf w m place link number other moment =
    ⊎_elim (λ old. inl old) (λ new. inr (new ∙ link_put system n at leaf w place link number other)) moment
  where
    link_put : (system : List ℕ) (n : ℕ) (at : List ℕ) (leaf : LeafKind) (w : WorldState) → at ≡ link_path n → leaf ≡ Link (link_target system) → n ≡ number_after w.leaves system →
        is_of (generation_at w.leaves (highest w.leaves)) system ≡ false → seen (with_leaf at leaf w) ≡ link_end system w
    link_put system n at leaf w place link number other =
        ap (λ p. seen (with_leaf p leaf w)) (place ∙ ap link_path number) ∙ ap (λ l. seen (with_leaf (link_path (number_after w.leaves system)) l w)) link
        ∙ ap seen (sym (new_generation system (number_after w.leaves system) w other))

pub link_world : (system : List ℕ) (n : ℕ) (at : List ℕ) (leaf : LeafKind) (w v : WorldState) → at ≡ link_path n → leaf ≡ Link (link_target system) → n ≡ number_after w.leaves system →
    is_of (generation_at w.leaves (highest w.leaves)) system ≡ false → seen v ≡ seen (with_leaf at leaf w) → seen v ≡ link_end system w
link_world system n at leaf w v place link number other is =
    is ∙ ap (λ p. seen (with_leaf p leaf w)) (place ∙ ap link_path number) ∙ ap (λ l. seen (with_leaf (link_path (number_after w.leaves system)) l w)) link
    ∙ ap seen (sym (new_generation system (number_after w.leaves system) w other))

-- a put of the profile's link after it
pub profile_world : (system : List ℕ) (n : ℕ) (w v u : WorldState) → n ≡ number_after w.leaves system → seen v ≡ link_end system w → seen u ≡ seen (with_profile n v) → seen u ≡ set_end system w
profile_world system n w v u number linked is =
    is ∙ ap (λ k. seen (with_profile k v)) number
    ∙ seen_with_leaf profile (Link (link_name (number_after w.leaves system))) v (with_generation system (number_after w.leaves system) w) linked

pub profile_moment : (system : List ℕ) (n : ℕ) (w v m : WorldState) → n ≡ number_after w.leaves system → seen v ≡ link_end system w → IsOldOrNew profile (Link (link_name n)) v m → IsSetMoment system w m
profile_moment system n w v m number linked moment =
    ⊎_elim (λ old. inr (inl (old ∙ linked))) (λ new. inr (inr (profile_world system n w v m number linked new))) moment

pub link_is_set : (system : List ℕ) (w m : WorldState) → IsLinkMoment system w m → IsSetMoment system w m
link_is_set system w m moment = ⊎_elim (λ old. inl old) (λ linked. inr (inl linked)) moment
