use Rattle.std.proofs.lemmas.Grind.{common_steps}
use Rattle.std.proofs.Common.{◌≡◌, ◌+◌, ◌<◌, ℕ, Bool, true, cond, List, [], ◌∷◌, length, ap, sym, subst, count_by, ◌∙◌, arith}
use Rattle.std.proofs.lemmas.List.Sums.{count_by-le-length, sum_by-cons}
use Rattle.std.specs.Map.{keys_of}
use Rattle.host_trait.proofs.Places.{ordered_keys}
use Rattle.host_trait.proofs.leaf_map.count_leaves.Goals as goal
use Rattle.host_trait.specs.World.{is_elsewhere}

-- a count of items is whole where none are left
counted_all : (p : List ℕ → Bool) (count total : ℕ) (rest : List (List ℕ)) → rest ≡ [] → count + count_by p rest ≡ total → count ≡ total
counted_all p count total rest none is =
    let at_end : count + count_by p [] ≡ total = subst (λ r. count + count_by p r ≡ total) none is in omega arith

-- and less than their number where one is left
counts_less :
    (p : List ℕ → Bool) (count : ℕ) (x : List ℕ) (rest now all : List (List ℕ)) →
    now ≡ x ∷ rest → p x ≡ true → count + count_by p now ≡ count_by p all → count < length all
counts_less p count x rest now all first passes is =
    let more : count + count_by p (x ∷ rest) ≡ count_by p all = subst (λ r. count + count_by p r ≡ count_by p all) first is in
    let one : count_by p (x ∷ rest) ≡ 1 + count_by p rest = sum_by-cons (λ y. cond (p y) 1 0) x rest ∙ ap (λ b. cond b 1 0 + count_by p rest) passes in
    let most = count_by-le-length p all in omega arith

-- the map's keys are in order
pub returns : goal.returns
returns c =
    counted_all _ _ _ _ c.in-None.ensures.steps.0 c.loop-path.invariant
    ∙ ap (count_by is_elsewhere) (sym (ordered_keys c.args.leaves.now.entries c.keys-path-items.ensures.ordered))

pub overflow_add-count : goal.overflow_add-count
overflow_add-count c =
    let less : c.loop-path.count < length (keys_of c.args.leaves.now.entries) = counts_less is_elsewhere _ _ _ _ _ c.in-Some.ensures.steps (sym c.is_elsewhere.ensures ∙ c.if-is_elsewhere.true) c.loop-path.invariant in
    let len = ap (λ ks. length ks) (sym c.keys-path-items.ensures.rest) ∙ c.keys-path-items.ensures.len in
    omega (arith, less, len, c.keys-path-items.ensures.fits)

pub loop-path-preserved-then-is_elsewhere : goal.loop-path-preserved-then-is_elsewhere
loop-path-preserved-then-is_elsewhere c = grind (arith, common_steps)
