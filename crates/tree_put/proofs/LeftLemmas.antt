-- What stands at a place after puts, and after removals.
use Rattle.std.proofs.Common.{◌≡◌, ◌||◌, Bool, true, false, cond, List, [], ◌∷◌, ◌++◌, Option, None, Some, refl, sym, ap, ◌∙◌}
use Rattle.std.specs.Cmp.Lexicographic.{texts_ties}
use Rattle.std.specs.FinMap.{get, get-insert, get-remove, insert}
use Rattle.std.specs.List.{AllByRecursion, list_any}
use Rattle.std.specs.Ordering.{eq_by_cmp}
use Rattle.host_trait.specs.declared.leaf.LeafKind.{LeafKind}
use Rattle.host_trait.specs.World.{Leaves, WorldState, bytes_cmp, is_path, with_leaf, without_leaf}
use Rattle.host_trait.proofs.Places.{bytes_total}
use Rattle.switch_names.specs.Names.{Name}
use Rattle.tree_put.specs.declared.leaf_put.LeafPut.{LeafPut}
use Rattle.tree_put.specs.Sequence.{with_puts, without_places}

-- what stands at a place after a leaf is put
pub leaf_after : (leaves : Leaves) (at q : Name) (leaf : LeafKind) → get (insert leaves at leaf) q ≡ cond (is_path q at) (Some leaf) (get leaves q)
leaf_after leaves at q leaf = get-insert bytes_total leaves at leaf q ∙ ap (λ b. cond b (Some leaf) (get leaves q)) (sym (texts_ties q at))

-- what stands at a place after puts, where this stood
unfoldable pub left_by : List LeafPut → Name → Option LeafKind → Option LeafKind
left_by [] q old = old
left_by (put ∷ puts) q old = left_by puts q (cond (eq_by_cmp bytes_cmp q put.at) (Some put.leaf) old)

pub left_at : (puts : List LeafPut) (w : WorldState) (q : Name) → get (with_puts puts w).leaves q ≡ left_by puts q (get w.leaves q)
unfolding left_by
left_at [] w q = refl
left_at (put ∷ puts) w q = left_at puts (with_leaf put.at put.leaf w) q ∙ ap (left_by puts q) (get-insert bytes_total w.leaves put.at put.leaf q)

-- some puts, and then others
pub left_on : (puts more : List LeafPut) (q : Name) (old : Option LeafKind) → left_by (puts ++ more) q old ≡ left_by more q (left_by puts q old)
unfolding left_by
left_on [] more q old = refl
left_on (put ∷ puts) more q old = left_on puts more q (cond (eq_by_cmp bytes_cmp q put.at) (Some put.leaf) old)

-- puts elsewhere leave what stood
abbrev pub AreElsewhere : Name → List LeafPut → Type 0
AreElsewhere q puts = AllByRecursion (λ put. eq_by_cmp bytes_cmp q put.at ≡ false) puts

pub left_elsewhere : (puts : List LeafPut) (q : Name) (old : Option LeafKind) → AreElsewhere q puts → left_by puts q old ≡ old
unfolding left_by
left_elsewhere [] q old elsewhere = refl
left_elsewhere (put ∷ puts) q old elsewhere = ap (λ b. left_by puts q (cond b (Some put.leaf) old)) elsewhere.0 ∙ left_elsewhere puts q old elsewhere.1

-- a place apart from another is elsewhere
pub other_path : (q at : Name) → is_path q at ≡ false → eq_by_cmp bytes_cmp q at ≡ false
other_path q at apart = sym (texts_ties q at) ∙ apart

joined : {X : Type 0} (a b : Bool) (o : Option X) → cond b None (cond a None o) ≡ cond (a || b) None o
joined true true o = refl
joined true false o = refl
joined false true o = refl
joined false false o = refl

-- what stands at a place after removals
pub gone_at : (places : List Name) (w : WorldState) (q : Name) → get (without_places places w).leaves q ≡ cond (list_any (eq_by_cmp bytes_cmp q) places) None (get w.leaves q)
gone_at [] w q = refl
gone_at (at ∷ places) w q =
    gone_at places (without_leaf at w) q ∙ ap (λ o. cond (list_any (eq_by_cmp bytes_cmp q) places) None o) (get-remove bytes_total w.leaves at q)
    ∙ joined (eq_by_cmp bytes_cmp q at) (list_any (eq_by_cmp bytes_cmp q) places) (get w.leaves q)
