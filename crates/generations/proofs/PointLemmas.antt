-- The profile is pointed to a generation that stands.
use Rattle.std.proofs.Common.{◌≡◌, ◌≢◌, ◌^◌, ℕ, Bool, true, false, cond, List, [], ◌∷◌, map, Option, None, Some, IfSome, is_some, refl, sym, ap, subst, ◌∙◌, inl, inr, ⊎_elim}
use Rattle.std.proofs.lemmas.Bool.{cases_lt}
use Rattle.std.specs.FinMap.{get}
use Rattle.std.specs.List.{AllByRecursion}
use Rattle.std.specs.List.Sorted.{IsStrictlySortedBy}
use Rattle.std.specs.Ordering.{nat_cmp}
use Rattle.host_trait.specs.declared.leaf.LeafKind.{LeafKind}
use Rattle.host_trait.specs.declared.leaf.LeafKind.TheVariants.{Link}
use Rattle.host_trait.specs.World.{IsClear, Leaves, WorldState, is_in_line, is_path, seen, stage}
use Rattle.host_trait.proofs.Places.{at_same}
use Rattle.host_trait.proofs.Seen.{clear_seen, seen_at}
use Rattle.host_trait.proofs.Sound.{clear_insert, line_turned, not_in_line}
use Rattle.switch_names.specs.Names.{Name}
use Rattle.switch_names.specs.SystemName.{IsSystemPath}
use Rattle.switch_parts.specs.Part.{IsAtEnd, IsFree, IsPartMoment, IsOnly, IsPart}
use Rattle.switch_parts.proofs.LeafLemmas.{leaf_is_part}
use Rattle.tree_put.specs.Put.{CanPut, IsOldOrNew}
use Rattle.tree_put.specs.WrittenPlace.{in_the_way, written}
use Rattle.tree_put.proofs.LeftLemmas.{leaf_after}
use Rattle.tree_put.proofs.PutLemmas.{apart_ne}
use Rattle.tree_put.proofs.WayLemmas.{clear_first}
use Rattle.generations.specs.After.{gens_below}
use Rattle.generations.specs.declared.gens.Gen.{Gen}
use Rattle.generations.specs.declared.gens.Gens.{Gens}
use Rattle.generations.specs.declared.moving.Move.TheVariants.{Point}
use Rattle.generations.specs.Gens.{IsGensOf}
use Rattle.generations.specs.Move.{gens_at, move_part, move_world, point_end, point_places}
use Rattle.generations.specs.Places.{IsCurrent, Names, generation_at, is_number, link_name, link_path, profile, with_profile}
use Rattle.generations.specs.ProfilePart.{owns_profile, reads_profile}
use Rattle.generations.specs.Set.{NamesOldOrNew}
use Rattle.generations.proofs.AfterLemmas.{listed_small, named_at, no_number, other_path, same_number}
use Rattle.generations.proofs.Apart.{link_profile, profile_apart}
use Rattle.generations.proofs.BelowLemmas.{all_below, below_at, below_rising, below_same, beyond_at, list_is_below}
use Rattle.generations.proofs.NamesLaws.{names_seen_too, unchanged}
use Rattle.generations.proofs.Numbers.{small_number, stands_at_number}
use Rattle.generations.proofs.ProfileApart.{link_owned, owned_other, owned_read, profile_line_read, profile_owned, stage_line_read, stage_unread}
use Rattle.generations.proofs.ProfileLemmas.{owned_not_stage}
use Rattle.generations.proofs.ProfilePlaces.{free_first}
use Rattle.generations.proofs.SetLaws.{generation_of, generation_seen, profile_keeps}

-- ---- a part

-- what is pointed already stays at its end
twice : (b : Bool) (new : LeafKind) (old : Option LeafKind) → cond b (Some new) (cond b (Some new) old) ≡ cond b (Some new) old
twice true new old = refl
twice false new old = refl

module _ (n : ℕ) (system : Name) where
  abbrev link : LeafKind
  link = Link (link_name n)

  way_of : (w m : WorldState) → (IsClear w.leaves profile → IsClear m.leaves profile) → (IsClear w.leaves stage → IsClear m.leaves stage) → in_the_way point_places w.leaves ≡ None → in_the_way point_places m.leaves ≡ None
  way_of w m profile_clear stage_clear free =
      let first = clear_first w.leaves (written false profile) (written false stage ∷ []) free in
      let second = clear_first w.leaves (written false stage) [] first.1 in
      free_first m.leaves profile (written false stage ∷ []) (profile_clear first.0) (free_first m.leaves stage [] (stage_clear second.0) refl)

  pub point_is : IsPart (move_part (Point n) system)
  point_is = leaf_is_part owns_profile (λ leaves. point_places) (λ leaves. None) (point_end n) reads_profile
      (λ w m same. record {
        ends = λ q own. ap (λ o. cond (is_path q profile) (Some link) o) (same.leaves q (owned_read q own));
        free = λ way none. (
          way_of w m (λ clear q line. same.leaves q (profile_line_read q line) ∙ clear q line) (λ clear q line. same.leaves q (stage_line_read q line) ∙ clear q line) way,
          refl,
        );
      })
      (λ q own. owned_read q own) stage_unread

  pub can_point : (w : WorldState) → IsFree (move_part (Point n) system) w.leaves → CanPut profile w
  can_point w free =
      let first = clear_first w.leaves (written false profile) (written false stage ∷ []) free.way in
      record { stage = (clear_first w.leaves (written false stage) [] first.1).0; place = first.0 }

  -- ---- its moments

  -- where it is pointed
  pointed_at : (w u : WorldState) → seen u ≡ seen (with_profile n w) → (q : Name) → q ≢ stage → get u.leaves q ≡ point_end n w.leaves q
  pointed_at w u is q ne = seen_at u (with_profile n w) is q ne ∙ leaf_after w.leaves profile q link

  not_pointed : (w : WorldState) (q : Name) → owns_profile q ≡ false → point_end n w.leaves q ≡ get w.leaves q
  not_pointed w q none = ap (λ b. cond b (Some link) (get w.leaves q)) (other_path q profile (λ same. owned_other profile q profile_owned none (sym same)))

  same_manager : (w m : WorldState) → IsOldOrNew profile link w m → m.manager ≡ w.manager
  same_manager w m moment = ⊎_elim (λ old. ap (λ (x : WorldState). x.manager) old) (λ new. ap (λ (x : WorldState). x.manager) new) moment

  point_only : (w m : WorldState) → IsOldOrNew profile link w m → IsOnly (move_part (Point n) system) w m
  point_only w m moment = record {
    leaves = λ q none ne. ⊎_elim (λ old. seen_at m w old q ne) (λ new. pointed_at w m new q ne ∙ not_pointed w q none) moment;
    manager = λ calls. same_manager w m moment;
  }

  point_ends : (w m : WorldState) → IsOldOrNew profile link w m → (q : Name) → owns_profile q ≡ true → point_end n m.leaves q ≡ point_end n w.leaves q
  point_ends w m moment q own = ⊎_elim
      (λ old. ap (λ o. cond (is_path q profile) (Some link) o) (seen_at m w old q (owned_not_stage q own)))
      (λ new. ap (λ o. cond (is_path q profile) (Some link) o) (pointed_at w m new q (owned_not_stage q own)) ∙ twice (is_path q profile) link (get w.leaves q))
      moment

  still_clear : (w m : WorldState) (p : Name) → is_in_line stage p ≡ false → is_in_line profile p ≡ false → IsOldOrNew profile link w m → IsClear w.leaves p → IsClear m.leaves p
  still_clear w m p stage_apart profile_apart moment clear = ⊎_elim
      (λ old. clear_seen m w p stage_apart old clear)
      (λ new. clear_seen m (with_profile n w) p stage_apart new (clear_insert w.leaves profile p link profile_apart clear))
      moment

  pub point_moment : (w m : WorldState) → IsOldOrNew profile link w m → IsPartMoment (move_part (Point n) system) w m
  point_moment w m moment = record {
    keeps = record {
      ends = λ q own. point_ends w m moment q own;
      free = λ way none. (
        way_of w m (λ clear. still_clear w m profile (line_turned profile stage profile_apart.line) (not_in_line profile) moment clear)
            (λ clear. still_clear w m stage (not_in_line stage) profile_apart.line moment clear) way,
        refl,
      );
    };
    only = point_only w m moment;
  }

  pub point_at_end : (w v : WorldState) → seen v ≡ move_world (Point n) system w → IsAtEnd (move_part (Point n) system) w v
  point_at_end w v is q own = pointed_at w v is q (owned_not_stage q own)

-- ---- the generations that stand

gens_at_is : (n : ℕ) (leaves : Leaves) → gens_at n leaves ≡ record { list = gens_below (generation_at leaves) (2 ^ 32); current = Some n }
unfolding gens_at
gens_at_is n leaves = refl

list_at_is : (n : ℕ) (leaves : Leaves) → (gens_at n leaves).list ≡ gens_below (generation_at leaves) (2 ^ 32)
unfolding gens_at
list_at_is n leaves = refl

-- those of a list
pub at_of_list : (leaves : Leaves) (gens after : Gens) (n : ℕ) → IsGensOf leaves gens → after.list ≡ gens.list → after.current ≡ Some n → after ≡ gens_at n leaves
at_of_list leaves gens after n is list current =
    (λ i. record { list = (list ∙ list_is_below gens.list (generation_at leaves) (2 ^ 32) is.rising (λ k below. is.exact k) (listed_small leaves gens is)) i; current = current i })
    ∙ sym (gens_at_is n leaves)

module _ (n : ℕ) (system : Name) (w : WorldState) (stands : generation_at w.leaves n ≡ Some (Some system)) (u : WorldState) (is : seen u ≡ seen (with_profile n w)) where
  number_is : is_number n ≡ true
  number_is = stands_at_number w.leaves n (ap is_some stands)

  generation_same : (k : ℕ) → generation_at u.leaves k ≡ generation_at w.leaves k
  generation_same k = generation_seen u (with_profile n w) k is ∙ profile_keeps k n w

  linked : get u.leaves profile ≡ Some (Link (link_name n))
  linked = seen_at u (with_profile n w) is profile (apart_ne _ _ profile_apart) ∙ at_same w.leaves profile (Link (link_name n))

  current : IsCurrent u.leaves n
  current = record { linked = linked; stands = ap is_some (generation_same n ∙ stands) }

  pub point_gens : IsGensOf u.leaves (gens_at n w.leaves)
  point_gens = subst (IsGensOf u.leaves) (sym (gens_at_is n w.leaves)) (record {
    rising = below_rising (generation_at w.leaves) (2 ^ 32);
    exact = λ k. elim (cases_lt k (2 ^ 32)) [
      | inl below ↦ below_at (generation_at w.leaves) (2 ^ 32) k below ∙ sym (generation_same k)
      | inr beyond ↦ beyond_at (generation_at w.leaves) (2 ^ 32) k beyond ∙ sym (no_number u.leaves k beyond)
    ];
    current = current;
    only_current = λ k other. ap Some (sym (same_number u.leaves n k (small_number n number_is) linked other));
  })

  pub point_named : Names u.leaves system
  point_named = record { number = n; current = current; named = generation_same n ∙ stands }

-- the profile names what it named, or that generation's system
pub point_names : (n : ℕ) (system : Name) (w m : WorldState) → generation_at w.leaves n ≡ Some (Some system) → IsOldOrNew profile (Link (link_name n)) w m → NamesOldOrNew system w m
point_names n system w m stands moment = ⊎_elim
    (λ old. names_seen_too system w m w old (inl (unchanged w)))
    (λ new. inr (point_named n system w stands m new))
    moment

-- the links of the generations are the same at each moment
pub links_stay : (n : ℕ) (system : Name) (w m : WorldState) → (move_part (Point n) system).Keeps w m → (k : ℕ) → get m.leaves (link_path k) ≡ get w.leaves (link_path k)
links_stay n system w m keeps k = sym (end_at_link m.leaves) ∙ keeps.ends (link_path k) (link_owned k) ∙ end_at_link w.leaves
  where
    end_at_link : (leaves : Leaves) → point_end n leaves (link_path k) ≡ get leaves (link_path k)
    end_at_link leaves = ap (λ b. cond b (Some (Link (link_name n))) (get leaves (link_path k))) (other_path (link_path k) profile (apart_ne _ _ (link_profile k)))

-- they are the same at each moment
pub gens_at_stay : (n : ℕ) (system : Name) (w m : WorldState) → (move_part (Point n) system).Keeps w m → gens_at n m.leaves ≡ gens_at n w.leaves
gens_at_stay n system w m keeps =
    gens_at_is n m.leaves
    ∙ ap (λ (l : List Gen). record { list = l; current = Some n }) (below_same (generation_at m.leaves) (generation_at w.leaves) (2 ^ 32) same)
    ∙ sym (gens_at_is n w.leaves)
  where
    same : (k : ℕ) → generation_at m.leaves k ≡ generation_at w.leaves k
    same k = generation_of m.leaves w.leaves k (links_stay n system w m keeps k)

-- ---- they are such as a boot menu has

pub gens_at_rising : (n : ℕ) (leaves : Leaves) → IsStrictlySortedBy nat_cmp (map (λ (gen : Gen). gen.number) (gens_at n leaves).list)
gens_at_rising n leaves =
    subst (λ l. IsStrictlySortedBy nat_cmp (map (λ (gen : Gen). gen.number) l)) (sym (list_at_is n leaves)) (below_rising (generation_at leaves) (2 ^ 32))

pub gens_at_numbers : (n : ℕ) (leaves : Leaves) → AllByRecursion (λ (gen : Gen). is_number gen.number ≡ true) (gens_at n leaves).list
gens_at_numbers n leaves =
    subst (AllByRecursion (λ (gen : Gen). is_number gen.number ≡ true)) (sym (list_at_is n leaves))
    (all_below (λ (gen : Gen). is_number gen.number ≡ true) (generation_at leaves) (2 ^ 32) (λ k target below is. stands_at_number leaves k (ap is_some is)))

pub gens_at_systems : (n : ℕ) (leaves : Leaves) → AllByRecursion (λ (gen : Gen). IfSome gen.target IsSystemPath) (gens_at n leaves).list
gens_at_systems n leaves =
    subst (AllByRecursion (λ (gen : Gen). IfSome gen.target IsSystemPath)) (sym (list_at_is n leaves))
    (all_below (λ (gen : Gen). IfSome gen.target IsSystemPath) (generation_at leaves) (2 ^ 32) (λ k target below is. named_at leaves k target is))
