-- The goal of a rollback is a part of a switch.
use Rattle.std.proofs.Common.{◌≡◌, ◌≢◌, ◌≤◌, ◌<◌, ◌^◌, ◌||◌, ◌∷◌, ℕ, Bool, true, false, cond, [], length, length-append, None, Some, refl, sym, ap, subst, ◌∙◌, ⊎_elim, arith}
use Rattle.std.proofs.lemmas.Bool.{both_ways, le-ltb, or_left, or_right}
use Rattle.std.proofs.lemmas.Fmt.{length-decimal-le}
use Rattle.std.specs.Cmp.Lexicographic.{nat_list_eq_equiv, same_text}
use Rattle.std.specs.FinMap.{get}
use Rattle.std.specs.Fmt.{decimal}
use Rattle.host_trait.specs.World.{IsClear, Leaves, WorldState, content_of, is_in_line, is_path, leaf_content, stage, with_leaf, without_leaf}
use Rattle.host_trait.proofs.Places.{at_same}
use Rattle.host_trait.proofs.Seen.{clear_seen, get_removed_here, get_removed_other, other_of, seen_at}
use Rattle.host_trait.proofs.Sound.{clear_insert, clear_remove, get_other, line_turned, not_in_line}
use Rattle.leaf_limits.specs.Limits.{content_past, leaf_max}
use Rattle.switch_names.specs.Names.{Name}
use Rattle.switch_parts.specs.declared.refusal.What.TheVariants.{LeafBytes}
use Rattle.switch_parts.specs.Leaves.{is_near}
use Rattle.switch_parts.specs.Limits.{too_many}
use Rattle.switch_parts.specs.Part.{IsAtEnd, IsFree, IsPartMoment, IsOnly, IsPart}
use Rattle.switch_parts.specs.Store.{is_in_store}
use Rattle.switch_parts.proofs.LeafLemmas.{leaf_is_part}
use Rattle.switch_parts.proofs.StoreLemmas.{store_content_kept, store_not_stage}
use Rattle.tree_put.specs.Put.{IsOldOrGone, IsOldOrNew}
use Rattle.tree_put.specs.WrittenPlace.{in_the_way, written}
use Rattle.tree_put.proofs.WayLemmas.{clear_first}
use Rattle.generations.specs.Goal.{goal, goal_leaf, goal_place, goal_text}
use Rattle.generations.specs.GoalPart.{goal_part, goal_places, goal_refusal, goal_too_long, owns_goal, reads_goal}
use Rattle.generations.proofs.Apart.{goal_apart}
use Rattle.generations.proofs.GoalLemmas.{goal_names, number_of}
use Rattle.generations.proofs.Numbers.{below_bound}
use Rattle.generations.proofs.ProfilePlaces.{free_first}

goal_unread : reads_goal stage ≡ false
unfolding goal_place stage is_in_store
goal_unread = refl

way_of : (w m : WorldState) → (IsClear w.leaves goal_place → IsClear m.leaves goal_place) → in_the_way goal_places w.leaves ≡ None → in_the_way goal_places m.leaves ≡ None
way_of w m clear free = free_first m.leaves goal_place [] (clear (clear_first w.leaves (written false goal_place) [] free).0) refl

-- where no goal is too long that wasn't, none is refused that wasn't
refusal_of : (back : Bool) (w m : Leaves) → (goal_too_long w ≡ None → goal_too_long m ≡ None) → goal_refusal back w ≡ None → goal_refusal back m ≡ None
refusal_of true w m short none = short none
refusal_of false w m short none = refl

-- a goal that has the same content is as long
same_length : (w m : Leaves) → content_of m goal_place ≡ content_of w goal_place → goal_too_long m ≡ goal_too_long w
same_length w m same = ap (λ content. too_many LeafBytes (content_past content)) same

own_goal : owns_goal goal_place ≡ true
own_goal = nat_list_eq_equiv.refl goal_place

owned_read : (q : Name) → owns_goal q ≡ true → reads_goal q ≡ true
owned_read q own = or_left (owns_goal q) (is_in_store q || is_near goal_places q) own

store_read : (q : Name) → is_in_store q ≡ true → reads_goal q ≡ true
store_read q is = or_right (owns_goal q) (is_in_store q || is_near goal_places q) (or_left (is_in_store q) (is_near goal_places q) is)

line_read : (q : Name) → is_in_line q goal_place ≡ true → reads_goal q ≡ true
line_read q line =
    or_right (owns_goal q) (is_in_store q || is_near goal_places q)
    (or_right (is_in_store q) (is_near goal_places q) (or_left (is_in_line q goal_place) false line))

pub goal_is : (back : Bool) → IsPart (goal_part back)
goal_is back = leaf_is_part owns_goal (λ leaves. goal_places) (goal_refusal back) (λ leaves q. None) reads_goal
    (λ w m same. record {
      ends = λ q own. refl;
      free = λ way none. (
        way_of w m (λ clear q line. same.leaves q (line_read q line) ∙ clear q line) way,
        refusal_of back w.leaves m.leaves
            (λ short. same_length w.leaves m.leaves (store_content_kept w.leaves m.leaves (λ q is. same.leaves q (store_read q is)) goal_place (same.leaves goal_place (owned_read goal_place own_goal))) ∙ short) none,
      );
    })
    owned_read goal_unread

-- where nothing is in its way, its place is clear
pub goal_clear : (back : Bool) (w : WorldState) → IsFree (goal_part back) w.leaves → IsClear w.leaves goal_place
goal_clear back w free = (clear_first w.leaves (written false goal_place) [] free.way).0

-- a place that isn't owned is another one
not_goal : (q : Name) → owns_goal q ≡ false → q ≢ goal_place
not_goal q none same = both_ways _ none (subst (λ x. is_path q x ≡ true) same (nat_list_eq_equiv.refl q))

goal_not_stage : goal_place ≢ stage
goal_not_stage same = both_ways _ goal_apart.other (subst (λ p. is_path p stage ≡ true) (sym same) (nat_list_eq_equiv.refl stage))

-- ---- a goal is short

-- the text of a number is short
pub goal_short : (n : ℕ) → n < 2 ^ 32 → content_past (Some (goal_text n)) ≡ None
goal_short n small =
    let digits : length (decimal n) ≤ 10 = length-decimal-le 10 n (omega arith) (omega arith) (omega arith) in
    ap (λ b. cond b (Some (length (goal_text n))) None) (le-ltb leaf_max (length (goal_text n)) (omega (arith, digits, length-append (decimal n) (10 ∷ []))))

-- the goal of a rollback is the number of a generation
pub goal_small : (leaves : Leaves) (n : ℕ) → goal leaves ≡ Some n → n < 2 ^ 32
goal_small leaves n is = below_bound n (number_of leaves n (goal_names leaves n is))

-- ---- the goal is recorded

module _ (back : Bool) (n : ℕ) (w m : WorldState) (moment : IsOldOrNew goal_place (goal_leaf n) w m) where
  pub recorded_only : IsOnly (goal_part back) w m
  recorded_only = record {
    leaves = λ q none ne. ⊎_elim
        (λ old. seen_at m w old q ne)
        (λ new. seen_at m (with_leaf goal_place (goal_leaf n) w) new q ne ∙ get_other w.leaves goal_place q (goal_leaf n) (other_of q goal_place (not_goal q none)))
        moment;
    manager = λ calls. ⊎_elim (λ old. ap (λ (x : WorldState). x.manager) old) (λ new. ap (λ (x : WorldState). x.manager) new) moment;
  }

  recorded_clear : IsClear w.leaves goal_place → IsClear m.leaves goal_place
  recorded_clear clear = ⊎_elim
      (λ old. clear_seen m w goal_place (line_turned goal_place stage goal_apart.line) old clear)
      (λ new. clear_seen m (with_leaf goal_place (goal_leaf n) w) goal_place (line_turned goal_place stage goal_apart.line) new (clear_insert w.leaves goal_place goal_place (goal_leaf n) (not_in_line goal_place) clear))
      moment

  -- what was recorded stands, or the text of the goal does
  recorded_length : content_past (Some (goal_text n)) ≡ None → goal_too_long w.leaves ≡ None → goal_too_long m.leaves ≡ None
  recorded_length short none = ⊎_elim
      (λ old. same_length w.leaves m.leaves (store_content_kept w.leaves m.leaves (λ q is. seen_at m w old q (store_not_stage q is)) goal_place (seen_at m w old goal_place goal_not_stage)) ∙ none)
      (λ new. ap (λ leaf. too_many LeafBytes (content_past (leaf_content m.leaves leaf)))
      (seen_at m (with_leaf goal_place (goal_leaf n) w) new goal_place goal_not_stage ∙ at_same w.leaves goal_place (goal_leaf n))
      ∙ ap (too_many LeafBytes) short)
      moment

  pub recorded_moment : content_past (Some (goal_text n)) ≡ None → IsPartMoment (goal_part back) w m
  recorded_moment short = record {
    keeps = record { ends = λ q own. refl; free = λ way none. (way_of w m recorded_clear way, refusal_of back w.leaves m.leaves (recorded_length short) none) };
    only = recorded_only;
  }

-- ---- the goal is removed

module _ (back : Bool) (w m : WorldState) (moment : IsOldOrGone goal_place w m) where
  cleared_only : IsOnly (goal_part back) w m
  cleared_only = record {
    leaves = λ q none ne. ⊎_elim
        (λ old. ap (λ (x : WorldState). get x.leaves q) old)
        (λ gone. ap (λ (x : WorldState). get x.leaves q) gone ∙ get_removed_other w.leaves goal_place q (other_of q goal_place (not_goal q none)))
        moment;
    manager = λ calls. ⊎_elim (λ old. ap (λ (x : WorldState). x.manager) old) (λ gone. ap (λ (x : WorldState). x.manager) gone) moment;
  }

  cleared_clear : IsClear w.leaves goal_place → IsClear m.leaves goal_place
  cleared_clear clear = ⊎_elim
      (λ old. subst (λ (x : WorldState). IsClear x.leaves goal_place) (sym old) clear)
      (λ gone. subst (λ (x : WorldState). IsClear x.leaves goal_place) (sym gone) (clear_remove w.leaves goal_place goal_place clear))
      moment

  -- what was recorded stands, or nothing
  cleared_length : goal_too_long w.leaves ≡ None → goal_too_long m.leaves ≡ None
  cleared_length none = ⊎_elim
      (λ old. ap (λ (x : WorldState). goal_too_long x.leaves) old ∙ none)
      (λ gone. ap (λ leaf. too_many LeafBytes (content_past (leaf_content m.leaves leaf))) (ap (λ (x : WorldState). get x.leaves goal_place) gone ∙ get_removed_here w.leaves goal_place))
      moment

  pub cleared_moment : IsPartMoment (goal_part back) w m
  cleared_moment = record {
    keeps = record { ends = λ q own. refl; free = λ way none. (way_of w m cleared_clear way, refusal_of back w.leaves m.leaves cleared_length none) };
    only = cleared_only;
  }

pub cleared_at_end : (back : Bool) (w v : WorldState) → v ≡ without_leaf goal_place w → IsAtEnd (goal_part back) w v
cleared_at_end back w v is q own =
    ap (λ (x : WorldState). get x.leaves q) is ∙ ap (λ p. get (without_leaf goal_place w).leaves p) (same_text q goal_place (sym own)) ∙ get_removed_here w.leaves goal_place
