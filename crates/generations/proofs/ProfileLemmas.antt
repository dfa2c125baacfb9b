-- The profile is a part of a switch: a set that was cut can be made again, and leaves the same.
use Rattle.std.proofs.Common.{◌≡◌, ◌≢◌, ◌&&◌, ◌^◌, ℕ, nat_lt, Bool, true, false, cond, not, ◌∷◌, Option, None, Some, refl, sym, ap, subst, ◌∙◌, ⊎_elim}
use Rattle.std.specs.FinMap.{get}
use Rattle.switch_names.specs.Names.{Name}
use Rattle.switch_names.specs.Path.{slash}
use Rattle.switch_names.specs.SystemName.{NamesSystem}
use Rattle.host_trait.specs.declared.leaf.LeafKind.{LeafKind}
use Rattle.host_trait.specs.declared.leaf.LeafKind.TheVariants.{Link}
use Rattle.host_trait.specs.World.{IsClear, WorldState, is_in_line, is_path, seen, stage, with_leaf}
use Rattle.host_trait.proofs.Seen.{clear_seen, other_of, seen_at}
use Rattle.host_trait.proofs.Sound.{clear_insert, get_other, not_in_line, line_turned}
use Rattle.tree_put.proofs.LeftLemmas.{leaf_after}
use Rattle.switch_parts.specs.Part.{IsAtEnd, IsFree, IsPartMoment, IsOnly, IsPart, IsSameFor}
use Rattle.generations.specs.Places.{generation_at, highest, is_of, link_name, link_path, link_target, number_after, profile, set_end, with_generation, with_profile}
use Rattle.generations.specs.ProfilePart.{has_number, is_kept, owns_profile, profile_end, profile_part, profile_places, reads_profile}
use Rattle.switch_parts.specs.declared.refusal.Refusal.TheVariants.{GenerationsFull}
use Rattle.switch_parts.proofs.LeafLemmas.{leaf_is_part}
use Rattle.generations.specs.Set.{CanSet, IsSetMoment}
use Rattle.generations.proofs.Apart.{link_apart, link_profile, profile_apart}
use Rattle.generations.proofs.ProfileApart.{link_line_read, link_owned, owned_other, owned_read, profile_line_read, profile_owned, stage_line_read, stage_not_owned, stage_unread}
use Rattle.generations.proofs.ProfilePlaces.{can_of_free, free_of, number_of_free}
use Rattle.generations.proofs.SetLaws.{KeepsSet, generation_of, generation_seen, highest_of_same, moment_keeps, number_is, number_same}
use Rattle.generations.proofs.SetLemmas.{clear_with_generation}

-- the world with both links of a set
abbrev set_world : Name → WorldState → WorldState
set_world system w = with_profile (number_after w.leaves system) (with_generation system (number_after w.leaves system) w)

set_at : (system : Name) (w : WorldState) (q : Name) → get (set_world system w).leaves q ≡ profile_end system w.leaves q
set_at system w q =
    leaf_after (with_generation system (number_after w.leaves system) w).leaves profile q (Link (link_name (number_after w.leaves system)))
    ∙ ap (λ o. cond (is_path q profile) (Some (Link (link_name (number_after w.leaves system)))) o) (link_at (is_kept w.leaves system))
  where
    link_at : (kept : Bool) → get (cond kept w (with_leaf (link_path (number_after w.leaves system)) (Link (link_target system)) w)).leaves q
        ≡ cond (not kept && is_path q (link_path (number_after w.leaves system))) (Some (Link (link_target system))) (get w.leaves q)
    link_at true = refl
    link_at false = leaf_after w.leaves (link_path (number_after w.leaves system)) q (Link (link_target system))

pub owned_not_stage : (q : Name) → owns_profile q ≡ true → q ≢ stage
owned_not_stage q own = owned_other q stage own stage_not_owned

-- a set leaves each place that is owned at its end
pub profile_at_end : (system : Name) (w v : WorldState) → seen v ≡ set_end system w → IsAtEnd (profile_part system) w v
profile_at_end system w v is q own = seen_at v (set_world system w) is q (owned_not_stage q own) ∙ set_at system w q

-- where the end of a set is the same, the part's is
same_end : (system : Name) (w m : WorldState) → set_end system m ≡ set_end system w → (q : Name) → owns_profile q ≡ true →
    profile_end system m.leaves q ≡ profile_end system w.leaves q
same_end system w m same q own = sym (set_at system m q) ∙ seen_at (set_world system m) (set_world system w) same q (owned_not_stage q own) ∙ set_at system w q

-- what is clear stays so at each moment
clear_moment : (system : Name) (w m : WorldState) (p : Name) → IsSetMoment system w m → is_in_line stage p ≡ false → is_in_line (link_path (number_after w.leaves system)) p ≡ false → is_in_line profile p ≡ false →
    IsClear w.leaves p → IsClear m.leaves p
clear_moment system w m p moment stage_apart link_is_apart profile_is_apart clear =
    let n = number_after w.leaves system in
    let v = with_generation system n w in
    let linked = clear_with_generation system n w p link_is_apart clear in
    ⊎_elim
    (λ same. clear_seen m w p stage_apart same clear)
    (λ later. ⊎_elim
    (λ link. clear_seen m v p stage_apart link linked)
    (λ both. clear_seen m (with_profile n v) p stage_apart both (clear_insert v.leaves profile p (Link (link_name n)) profile_is_apart linked))
    later)
    moment

-- what can be set can be set again at each moment
pub can_again : (system : Name) (w m : WorldState) → CanSet system w → KeepsSet system w m → IsSetMoment system w m → CanSet system m
can_again system w m can keeps moment =
    let n = number_after w.leaves system in
    record {
      stage = clear_moment system w m stage moment (not_in_line stage) (link_apart n).line profile_apart.line can.stage;
      profile = clear_moment system w m profile moment (line_turned profile stage profile_apart.line) (link_profile n).line (not_in_line profile) can.profile;
      link = λ other.
          let same = keeps.only_new other in
          let before : is_of (generation_at w.leaves (highest w.leaves)) system ≡ false = sym (highest_of_same m.leaves w.leaves system (λ k. generation_seen m w k same)) ∙ other in
          subst (λ k. IsClear m.leaves (link_path k)) (sym keeps.number)
          (clear_seen m w (link_path n) (line_turned (link_path n) stage (link_apart n).line) same (can.link before));
    }

-- a set leaves the manager as it is
linked_manager : (system : Name) (n : ℕ) (w : WorldState) → (with_generation system n w).manager ≡ w.manager
linked_manager system n w =
    elim (is_of (generation_at w.leaves (highest w.leaves)) system) as (λ b. (cond b w (with_leaf (link_path n) (Link (link_target system)) w)).manager ≡ w.manager) [
      | true ↦ refl
      | false ↦ refl
    ]

pub end_manager : (system : Name) (w v : WorldState) → seen v ≡ set_end system w → v.manager ≡ w.manager
end_manager system w v is = ap (λ (x : WorldState). x.manager) is ∙ linked_manager system (number_after w.leaves system) w

pub set_manager : (system : Name) (w m : WorldState) → IsSetMoment system w m → m.manager ≡ w.manager
set_manager system w m moment =
    ⊎_elim
    (λ same. ap (λ (x : WorldState). x.manager) same)
    (λ later. ⊎_elim
    (λ link. ap (λ (x : WorldState). x.manager) link ∙ linked_manager system (number_after w.leaves system) w)
    (λ both. end_manager system w m both)
    later)
    moment

-- and each place that isn't owned
linked_other : (system : Name) (n : ℕ) (w : WorldState) (q : Name) → owns_profile q ≡ false → get (with_generation system n w).leaves q ≡ get w.leaves q
linked_other system n w q none =
    elim (is_of (generation_at w.leaves (highest w.leaves)) system) as (λ b. get (cond b w (with_leaf (link_path n) (Link (link_target system)) w)).leaves q ≡ get w.leaves q) [
      | true ↦ refl
      | false ↦ get_other w.leaves (link_path n) q (Link (link_target system)) (other_of q (link_path n) (λ same. owned_other (link_path n) q (link_owned n) none (sym same)))
    ]

set_other : (system : Name) (w : WorldState) (q : Name) → owns_profile q ≡ false → get (set_world system w).leaves q ≡ get w.leaves q
set_other system w q none =
    let n = number_after w.leaves system in
    get_other (with_generation system n w).leaves profile q (Link (link_name n)) (other_of q profile (λ same. owned_other profile q profile_owned none (sym same)))
    ∙ linked_other system n w q none

-- nothing has changed at any moment but what is owned, and the stage
pub moment_only : (system : Name) (w m : WorldState) → IsSetMoment system w m → IsOnly (profile_part system) w m
moment_only system w m moment = record {
  leaves = λ q none ne.
      let n = number_after w.leaves system in
      ⊎_elim
      (λ same. seen_at m w same q ne)
      (λ later. ⊎_elim
      (λ link. seen_at m (with_generation system n w) link q ne ∙ linked_other system n w q none)
      (λ both. seen_at m (set_world system w) both q ne ∙ set_other system w q none)
      later)
      moment;
  manager = λ calls. set_manager system w m moment;
}

-- each moment of a set that isn't refused is one of the part
pub profile_moment : (system : Name) (w m : WorldState) → NamesSystem (slash ∷ system) system → IsFree (profile_part system) w.leaves → IsSetMoment system w m → IsPartMoment (profile_part system) w m
profile_moment system w m names free moment =
    let further = number_of_free system w.leaves free in
    let keeps = moment_keeps system w m (number_is w.leaves system further) names moment in
    record {
      keeps = record {
        ends = λ q own. same_end system w m keeps.same_end q own;
        free = λ way refusal.
            let again = free_of system m (can_again system w m (can_of_free system w free) keeps moment) (ap (λ n. nat_lt n (2 ^ 32)) keeps.number ∙ further) in
            (again.way, again.refusal);
      };
      only = moment_only system w m moment;
    }

-- where the same stands wherever the part looks, the same generations stand
module _ (system : Name) (w m : WorldState) (same : IsSameFor (profile_part system) w m) where
  same_generation : (k : ℕ) → generation_at m.leaves k ≡ generation_at w.leaves k
  same_generation k = generation_of m.leaves w.leaves k (same.leaves (link_path k) (owned_read (link_path k) (link_owned k)))

  same_number : number_after m.leaves system ≡ number_after w.leaves system
  same_number = number_same m.leaves w.leaves system same_generation

  same_kept : is_kept m.leaves system ≡ is_kept w.leaves system
  same_kept = highest_of_same m.leaves w.leaves system same_generation

  -- the end at a place, given what it depends on
  end_of : Name → Bool → ℕ → Option LeafKind → Option LeafKind
  end_of q kept n old = cond (is_path q profile) (Some (Link (link_name n))) (cond (not kept && is_path q (link_path n)) (Some (Link (link_target system))) old)

  frame_end : (q : Name) → owns_profile q ≡ true → profile_end system m.leaves q ≡ profile_end system w.leaves q
  unfolding end_of
  frame_end q own =
      ap (λ b. end_of q b (number_after m.leaves system) (get m.leaves q)) same_kept
      ∙ ap (λ n. end_of q (is_kept w.leaves system) n (get m.leaves q)) same_number
      ∙ ap (λ old. end_of q (is_kept w.leaves system) (number_after w.leaves system) old) (same.leaves q (owned_read q own))

  frame_can : CanSet system w → has_number w.leaves system ≡ true → CanSet system m
  frame_can can further = record {
    stage = λ q line. same.leaves q (stage_line_read q line) ∙ can.stage q line;
    profile = λ q line. same.leaves q (profile_line_read q line) ∙ can.profile q line;
    link = λ other. subst (λ k. IsClear m.leaves (link_path k)) (sym same_number)
        (λ q line. same.leaves q (link_line_read (number_after w.leaves system) (number_is w.leaves system further) q line) ∙ can.link (sym same_kept ∙ other) q line);
  }

  frame_free : IsFree (profile_part system) w.leaves → IsFree (profile_part system) m.leaves
  frame_free free =
      let further = number_of_free system w.leaves free in
      free_of system m (frame_can (can_of_free system w free) further) (ap (λ n. nat_lt n (2 ^ 32)) same_number ∙ further)

-- the profile is a part of a switch
pub profile_is : (system : Name) → IsPart (profile_part system)
profile_is system =
    leaf_is_part owns_profile (λ leaves. profile_places leaves system) (λ leaves. cond (has_number leaves system) None (Some GenerationsFull)) (profile_end system) reads_profile
    (λ w m same. record {
      ends = λ q own. frame_end system w m same q own;
      free = λ way refusal. let free = frame_free system w m same (record { way = way; refusal = refusal; short = refl }) in (free.way, free.refusal);
    })
    (λ q own. owned_read q own) stage_unread
