-- Two parts together are a part.
use Rattle.std.proofs.Common.{◌≡◌, ◌≢◌, Bool, true, false, ◌&&◌, ◌||◌, cond, None, Some, option_map, List, [], ◌∷◌, ◌++◌, refl, sym, ap, subst, ◌∙◌, inl, inr}
use Rattle.std.proofs.lemmas.Option.{none-some}
use Rattle.std.proofs.lemmas.Bool.{cases_Bool, both_ways, or_left, or_right, or_from}
use Rattle.std.specs.FinMap.{get}
use Rattle.host_trait.specs.World.{Leaves, WorldState, stage}
use Rattle.switch_names.specs.Names.{Name}
use Rattle.switch_names.proofs.Outcomes.{option_or_parts, option_or_nothing, none_mapped}
use Rattle.std.specs.List.{find}
use Rattle.tree_put.specs.WrittenPlace.{is_in_the_way}
use Rattle.switch_parts.proofs.LongLemmas.{long_parts, none_long}
use Rattle.switch_parts.specs.Part.{AreParted, IsAtEnd, IsDone, IsFree, IsPartMoment, IsOnly, IsPart, IsSameFor, Part, both, final_leaf}

pub left_false : (a b : Bool) → a || b ≡ false → a ≡ false
left_false true b is = absurd (both_ways _ is refl)
left_false false b is = refl

pub right_false : (a b : Bool) → a || b ≡ false → b ≡ false
right_false true b is = absurd (both_ways _ is refl)
right_false false b is = is

pub false_by : (a b : Bool) → (a ≡ true → b ≡ true) → b ≡ false → a ≡ false
false_by a b then none = elim (cases_Bool a) [ inl is ↦ absurd (both_ways _ none (then is)) | inr not ↦ not ]

-- no part owns the stage
pub not_stage : (p : Part) → IsPart p → (q : Name) → p.owns q ≡ true → q ≢ stage
not_stage p part q own same = both_ways _ part.no_stage (subst (λ x. p.reads x ≡ true) same (part.reads_own q own))

-- where one part alone has changed something, nothing has changed for the other
pub only_beside : (p q : Part) → IsPart q → ((at : Name) → p.owns at ≡ true → q.reads at ≡ false) → p.calls && q.calls ≡ false → (w m : WorldState) → IsOnly p w m → IsSameFor q w m
only_beside p q part beside calls w m only = record {
  leaves = λ at read. only.leaves at (not_owned at read) (λ same. both_ways _ part.no_stage (subst (λ x. q.reads x ≡ true) same read));
  manager = λ call. only.manager (not_called p.calls q.calls calls call);
}
  where
    not_owned : (at : Name) → q.reads at ≡ true → p.owns at ≡ false
    not_owned at read = elim (cases_Bool (p.owns at)) [ inl own ↦ absurd (both_ways _ (beside at own) read) | inr other ↦ other ]

    not_called : (a b : Bool) → a && b ≡ false → b ≡ true → a ≡ false
    not_called true b none is = absurd (both_ways _ none is)
    not_called false b none is = refl

-- the first of two lists of places that something is in the way of
pub find_none : {X : Type 0} (test : X → Bool) (xs ys : List X) → find test (xs ++ ys) ≡ None → (find test xs ≡ None) × (find test ys ≡ None)
find_none test [] ys none = (refl, none)
find_none test (x ∷ xs) ys none = elim (cases_Bool (test x)) [
  | inl is ↦ absurd (none-some x (sym none ∙ ap (λ b. cond b (Some x) (find test (xs ++ ys))) is))
  | inr not ↦
      let rest = find_none test xs ys (sym (ap (λ b. cond b (Some x) (find test (xs ++ ys))) not) ∙ none) in
      (ap (λ b. cond b (Some x) (find test xs)) not ∙ rest.0, rest.1)
]

pub find_none_both : {X : Type 0} (test : X → Bool) (xs ys : List X) → find test xs ≡ None → find test ys ≡ None → find test (xs ++ ys) ≡ None
find_none_both test [] ys first second = second
find_none_both test (x ∷ xs) ys first second = elim (cases_Bool (test x)) [
  | inl is ↦ absurd (none-some x (sym first ∙ ap (λ b. cond b (Some x) (find test xs)) is))
  | inr not ↦ ap (λ b. cond b (Some x) (find test (xs ++ ys))) not ∙ find_none_both test xs ys (sym (ap (λ b. cond b (Some x) (find test xs)) not) ∙ first) second
]

module _ (p q : Part) where
  pub first_free : (leaves : Leaves) → IsFree (both p q) leaves → IsFree p leaves
  first_free leaves free = record {
    way = ap (option_map (λ place. place.at)) (find_none (is_in_the_way leaves) (p.places leaves) (q.places leaves) (none_mapped _ _ free.way)).0;
    refusal = (option_or_parts (p.refusal leaves) (q.refusal leaves) free.refusal).0;
    short = (long_parts (p.long leaves) (q.long leaves) free.short).0;
  }

  pub second_free : (leaves : Leaves) → IsFree (both p q) leaves → IsFree q leaves
  second_free leaves free = record {
    way = ap (option_map (λ place. place.at)) (find_none (is_in_the_way leaves) (p.places leaves) (q.places leaves) (none_mapped _ _ free.way)).1;
    refusal = (option_or_parts (p.refusal leaves) (q.refusal leaves) free.refusal).1;
    short = (long_parts (p.long leaves) (q.long leaves) free.short).1;
  }

  pub both_free : (leaves : Leaves) → IsFree p leaves → IsFree q leaves → IsFree (both p q) leaves
  both_free leaves first second = record {
    way = ap (option_map (λ place. place.at)) (find_none_both (is_in_the_way leaves) (p.places leaves) (q.places leaves) (none_mapped _ _ first.way) (none_mapped _ _ second.way));
    refusal = option_or_nothing (p.refusal leaves) (q.refusal leaves) first.refusal second.refusal;
    short = none_long (p.long leaves) (q.long leaves) first.short second.short;
  }

module _ (p q : Part) (first : IsPart p) (second : IsPart q) where
  pub both_part : IsPart (both p q)
  both_part = record {
    keeps_self = λ w. (first.keeps_self w, second.keeps_self w);
    keeps_then = λ w v m one then. (first.keeps_then w v m one.0 then.0, second.keeps_then w v m one.1 then.1);
    same_end = λ w m keeps at own. elim (cases_Bool (p.owns at)) [
      | inl is ↦ ap (λ b. cond b (p.end m.leaves at) (q.end m.leaves at)) is ∙ first.same_end w m keeps.0 at is ∙ sym (ap (λ b. cond b (p.end w.leaves at) (q.end w.leaves at)) is)
      | inr not ↦ ap (λ b. cond b (p.end m.leaves at) (q.end m.leaves at)) not ∙ second.same_end w m keeps.1 at (sym (ap (λ b. b || q.owns at) not) ∙ own) ∙ sym (ap (λ b. cond b (p.end w.leaves at) (q.end w.leaves at)) not)
    ];
    stays_free = λ w m keeps free. both_free p q m.leaves (first.stays_free w m keeps.0 (first_free p q w.leaves free)) (second.stays_free w m keeps.1 (second_free p q w.leaves free));
    frame = λ w m same. (
      first.frame w m (record { leaves = λ at read. same.leaves at (or_left _ _ read); manager = λ call. same.manager (or_left _ _ call) }),
      second.frame w m (record { leaves = λ at read. same.leaves at (or_right _ _ read); manager = λ call. same.manager (or_right _ _ call) }),
    );
    reads_own = λ at own. elim (cases_Bool (p.owns at)) [
      | inl is ↦ or_left (p.reads at) (q.reads at) (first.reads_own at is)
      | inr not ↦ or_right (p.reads at) (q.reads at) (second.reads_own at (sym (ap (λ b. b || q.owns at) not) ∙ own))
    ];
    no_stage = or_from _ _ first.no_stage second.no_stage;
  }

  module _ (parted : AreParted p q) where
    -- a moment of one part's work is one of both
    pub first_moment : (w m : WorldState) → IsPartMoment p w m → IsPartMoment (both p q) w m
    first_moment w m moment = record {
      keeps = (moment.keeps, second.frame w m (only_beside p q second parted.first parted.manager w m moment.only));
      only = record {
        leaves = λ at none. moment.only.leaves at (left_false _ _ none);
        manager = λ none. moment.only.manager (left_false _ _ none);
      };
    }

    pub second_moment : (w m : WorldState) → IsPartMoment q w m → IsPartMoment (both p q) w m
    second_moment w m moment = record {
      keeps = (first.frame w m (only_beside q p first parted.second (and_swap p.calls q.calls parted.manager) w m moment.only), moment.keeps);
      only = record {
        leaves = λ at none. moment.only.leaves at (right_false _ _ none);
        manager = λ none. moment.only.manager (right_false _ _ none);
      };
    }
      where
        and_swap : (a b : Bool) → a && b ≡ false → b && a ≡ false
        and_swap true true none = none
        and_swap false true none = refl
        and_swap a false none = refl

module _ (p : Part) (part : IsPart p) where
  pub moment_self : (w : WorldState) → IsPartMoment p w w
  moment_self w = record { keeps = part.keeps_self w; only = record { leaves = λ q none ne. refl; manager = λ none. refl } }

  pub moment_then : (w v m : WorldState) → IsPartMoment p w v → IsPartMoment p v m → IsPartMoment p w m
  moment_then w v m one then = record {
    keeps = part.keeps_then w v m one.keeps then.keeps;
    only = record {
      leaves = λ q none ne. then.only.leaves q none ne ∙ one.only.leaves q none ne;
      manager = λ none. then.only.manager none ∙ one.only.manager none;
    };
  }

  -- a switch from any moment leaves the same at each place as one from the beginning
  pub ends_alike : (w m : WorldState) → IsPartMoment p w m → (q : Name) → q ≢ stage → final_leaf p m.leaves q ≡ final_leaf p w.leaves q
  ends_alike w m moment q ne = elim (cases_Bool (p.owns q)) [
    | inl is ↦ ap (λ b. cond b (p.end m.leaves q) (get m.leaves q)) is ∙ part.same_end w m moment.keeps q is ∙ sym (ap (λ b. cond b (p.end w.leaves q) (get w.leaves q)) is)
    | inr not ↦ ap (λ b. cond b (p.end m.leaves q) (get m.leaves q)) not ∙ moment.only.leaves q not ne ∙ sym (ap (λ b. cond b (p.end w.leaves q) (get w.leaves q)) not)
  ]

module _ (p : Part) where
  -- where all that is owned is at its end, and nothing else has changed, each place is at its final leaf
  pub is_final : (w v : WorldState) → IsOnly p w v → IsAtEnd p w v → (q : Name) → q ≢ stage → get v.leaves q ≡ final_leaf p w.leaves q
  is_final w v only end q ne = elim (cases_Bool (p.owns q)) [
    | inl is ↦ end q is ∙ sym (ap (λ b. cond b (p.end w.leaves q) (get w.leaves q)) is)
    | inr not ↦ only.leaves q not ne ∙ sym (ap (λ b. cond b (p.end w.leaves q) (get w.leaves q)) not)
  ]

  pub only_then : (w v m : WorldState) → IsOnly p w v → IsOnly p v m → IsOnly p w m
  only_then w v m one then = record {
    leaves = λ q none ne. then.leaves q none ne ∙ one.leaves q none ne;
    manager = λ none. then.manager none ∙ one.manager none;
  }

  pub only_self : (w : WorldState) → IsOnly p w w
  only_self w = record { leaves = λ q none ne. refl; manager = λ none. refl }

-- what one part alone has changed is what two have changed
module _ (p q : Part) where
  pub only_first : (w m : WorldState) → IsOnly p w m → IsOnly (both p q) w m
  only_first w m only = record { leaves = λ at none. only.leaves at (left_false _ _ none); manager = λ none. only.manager (left_false _ _ none) }

  pub only_second : (w m : WorldState) → IsOnly q w m → IsOnly (both p q) w m
  only_second w m only = record { leaves = λ at none. only.leaves at (right_false _ _ none); manager = λ none. only.manager (right_false _ _ none) }

module _ (p q : Part) (first : IsPart p) (second : IsPart q) (beside : (at : Name) → p.owns at ≡ true → q.reads at ≡ false) where
  -- where one part is at its end, and then the other, both are
  pub ends_both : (w u v : WorldState) → IsAtEnd p w u → IsSameFor q w u → IsAtEnd q u v → IsOnly q u v → IsAtEnd (both p q) w v
  ends_both w u v end same then only at own = elim (cases_Bool (p.owns at)) [
    | inl is ↦
        only.leaves at (false_by (q.owns at) (q.reads at) (second.reads_own at) (beside at is)) (not_stage p first at is)
        ∙ end at is ∙ sym (ap (λ b. cond b (p.end w.leaves at) (q.end w.leaves at)) is)
    | inr not ↦
        let is = sym (ap (λ b. b || q.owns at) not) ∙ own in
        then at is ∙ second.same_end w u (second.frame w u same) at is ∙ sym (ap (λ b. cond b (p.end w.leaves at) (q.end w.leaves at)) not)
  ]

-- ---- parts that are done

module _ (p : Part) (part : IsPart p) where
  -- where a part is done, it keeps what the last moment of its work keeps
  pub done_keeps : p.calls ≡ false → (w u v : WorldState) → IsPartMoment p w u → IsAtEnd p w u → IsDone p w v → p.Keeps w v
  done_keeps silent w u v moment end done = part.keeps_then w u v moment.keeps (part.frame u v (record {
    leaves = λ q read. elim (cases_Bool (p.owns q)) [
      | inl own ↦ done.end q own ∙ sym (end q own)
      | inr other ↦ done.beside q read other ∙ sym (moment.only.leaves q other (λ same. both_ways _ part.no_stage (subst (λ x. p.reads x ≡ true) same read)))
    ];
    manager = λ calls. absurd (both_ways _ silent calls);
  }))

  -- what is kept where a part is at its end, has that end again
  pub end_again : (w v : WorldState) → IsAtEnd p w v → p.Keeps w v → IsAtEnd p v v
  end_again w v end keeps q own = end q own ∙ sym (part.same_end w v keeps q own)

module _ (p q : Part) (first : IsPart p) (second : IsPart q) (parted : AreParted p q) where
  not_first : (at : Name) → q.owns at ≡ true → p.owns at ≡ false
  not_first at own = false_by (p.owns at) (p.reads at) (first.reads_own at) (parted.second at own)

  -- where two parts are done, each of them is
  pub first_done : (w v : WorldState) → IsDone (both p q) w v → IsDone p w v
  first_done w v done = record {
    end = λ at own. done.end at (or_left _ _ own) ∙ ap (λ b. cond b (p.end w.leaves at) (q.end w.leaves at)) own;
    beside = λ at read none. done.beside at (or_left _ _ read) (or_from _ _ none (not_owned at read));
  }
    where
      not_owned : (at : Name) → p.reads at ≡ true → q.owns at ≡ false
      not_owned at read = elim (cases_Bool (q.owns at)) [ inl own ↦ absurd (both_ways _ (parted.second at own) read) | inr other ↦ other ]

  pub second_done : (w v : WorldState) → IsDone (both p q) w v → IsDone q w v
  second_done w v done = record {
    end = λ at own. done.end at (or_right _ _ own) ∙ ap (λ b. cond b (p.end w.leaves at) (q.end w.leaves at)) (not_first at own);
    beside = λ at read none. done.beside at (or_right _ _ read) (or_from _ _ (not_owned at read) none);
  }
    where
      not_owned : (at : Name) → q.reads at ≡ true → p.owns at ≡ false
      not_owned at read = elim (cases_Bool (p.owns at)) [ inl own ↦ absurd (both_ways _ (parted.first at own) read) | inr other ↦ other ]

  -- where each of two parts has the same end again, both have
  pub ends_again : (v : WorldState) → IsAtEnd p v v → IsAtEnd q v v → IsAtEnd (both p q) v v
  ends_again v one other at own = elim (cases_Bool (p.owns at)) [
    | inl is ↦ one at is ∙ sym (ap (λ b. cond b (p.end v.leaves at) (q.end v.leaves at)) is)
    | inr not ↦ other at (sym (ap (λ b. b || q.owns at) not) ∙ own) ∙ sym (ap (λ b. cond b (p.end v.leaves at) (q.end v.leaves at)) not)
  ]
