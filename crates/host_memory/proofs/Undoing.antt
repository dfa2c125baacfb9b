-- How a history goes on by each call: what undoes the call is in its record.
use Rattle.std.proofs.Common.{arith, length, take, ◌≡◌, ◌≢◌, ℕ, true, false, length, refl, List, [], ◌∷◌, ◌++◌, Option, None, Some, IsSome, sym, ap, subst, ◌∙◌, inl, inr, rules}
use Rattle.std.specs.FinMap.{get, insert, remove, gets, get_tied}
use Rattle.std.specs.Ordering.{eq_by_cmp}
use Rattle.std.specs.Cmp.{eq_by_cmp_equiv}
use Rattle.host_memory.proofs.Histories.{entered, recorded, recorded_beside}
use Rattle.host_memory.specs.declared.history.DoneCall.TheVariants.{Staged, Renamed, Removed, Appended, Replaced}
use Rattle.host_memory.specs.declared.history.DoneCall.{DoneCall}
use Rattle.host_memory.specs.declared.history.History.{History}
use Rattle.host_memory.proofs.ManagerUndoing.{shorter}
use Rattle.host_memory.specs.History.{Cuts, Makes, with_at, with_shortened, undone, without_last}
use Rattle.host_memory.specs.Files.{file_length}
use Rattle.std.proofs.lemmas.List.{length-append, take_at}
use Rattle.host_trait.specs.declared.leaf.LeafKind.TheVariants.{File, Link}
use Rattle.host_trait.proofs.Places.{bytes_total, alike, same_or_other, at_same, none_or_present, some_of}
use Rattle.host_trait.proofs.Seen.{unfolded_move}
use Rattle.host_trait.specs.Change.{finished, IsMoment, Stage, Rename, Remove, Append}
use Rattle.host_trait.specs.declared.leaf.LeafKind.{LeafKind}
use Rattle.host_trait.specs.World.{IsClear, IsFileAt, IsInTheWay, Leaves, WorldState, file_bytes, with_extended, with_more, bytes_cmp, is_in_line, moved, with_leaf, with_manager, without_leaf, stage}

put_back : (m : Leaves) (at : List ℕ) (leaf : LeafKind) (was : Option LeafKind) → get m at ≡ was → with_at (insert m at leaf) at was ≡ m
put_back m at leaf None is = alike _ _ (λ q. let tied = get_tied bytes_total m q at in grind (gets, rules))
put_back m at leaf (Some old) is = alike _ _ (λ q. let tied = get_tied bytes_total m q at in grind (gets, rules))

brought_back : (m : Leaves) (at : List ℕ) (was : Option LeafKind) → get m at ≡ was → with_at (remove m at) at was ≡ m
brought_back m at None is = alike _ _ (λ q. let tied = get_tied bytes_total m q at in grind (gets, rules))
brought_back m at (Some old) is = alike _ _ (λ q. let tied = get_tied bytes_total m q at in grind (gets, rules))

emptied : (m : Leaves) (at : List ℕ) (leaf : LeafKind) → remove (insert m at leaf) at ≡ remove m at
emptied m at leaf = alike _ _ (λ q. grind (gets, rules))

returned :
    (m : Leaves) (from to : List ℕ) (leaf : LeafKind) →
    eq_by_cmp bytes_cmp to from ≡ false → get m from ≡ Some leaf → insert (remove (remove m from) to) from leaf ≡ remove m to
returned m from to leaf other there = alike _ _ (λ q. elim (same_or_other q from) [
  | inl is ↦
      subst (λ p. get (insert (remove (remove m from) to) from leaf) p ≡ get (remove m to) p) (sym is)
      (at_same (remove (remove m from) to) from leaf ∙ sym (let apart = (eq_by_cmp_equiv bytes_total).symm from to ∙ other in grind (gets, rules)))
  | inr apart ↦ grind (gets, rules)
])

brought_to :
    (m : Leaves) (from to : List ℕ) (leaf : LeafKind) (was : Option LeafKind) →
    eq_by_cmp bytes_cmp to from ≡ false → get m from ≡ Some leaf → get m to ≡ was →
    with_at (insert (remove (insert (remove m from) to leaf) to) from leaf) to was ≡ m
brought_to m from to leaf was other there is =
    ap (λ (n : Leaves). with_at (insert n from leaf) to was) (emptied (remove m from) to leaf)
    ∙ ap (λ (n : Leaves). with_at n to was) (returned m from to leaf other there)
    ∙ brought_back m to was is

is_there : (m : Leaves) (from to : List ℕ) (leaf : LeafKind) → get (insert (remove m from) to leaf) to ≡ Some leaf
is_there m from to leaf = at_same (remove m from) to leaf

moved_back :
    (m : Leaves) (from to : List ℕ) (leaf : LeafKind) (was : Option LeafKind) →
    eq_by_cmp bytes_cmp to from ≡ false → get m from ≡ Some leaf → get m to ≡ was →
    with_at (moved (moved m from to) to from) to was ≡ m
moved_back m from to leaf was other there is =
    ap (λ (n : Leaves). with_at (moved n to from) to was) (unfolded_move m from to leaf there)
    ∙ ap (λ (n : Leaves). with_at n to was) (unfolded_move (insert (remove m from) to leaf) to from leaf (is_there m from to leaf))
    ∙ brought_to m from to leaf was other there is

-- leaves and what was written are as they were
both_back : (w : WorldState) (m n : Leaves) (at : List ℕ) → m ≡ n → record w { leaves = m; written = without_last (w.written ++ at ∷ []) } ≡ record w { leaves = n; written = w.written }
both_back w m n at is = λ i. record w { leaves = is i; written = shorter w.written at i }

-- a file is cut back to its old length
cut_back : (m : Leaves) (at bytes more : List ℕ) (mode uid gid : ℕ) → get m at ≡ Some (File bytes mode uid gid) →
    with_shortened (insert m at (File (bytes ++ more) mode uid gid)) at (length bytes) (get (insert m at (File (bytes ++ more) mode uid gid)) at) ≡ m
cut_back m at bytes more mode uid gid is =
    ap (with_shortened (insert m at (File (bytes ++ more) mode uid gid)) at (length bytes)) (at_same m at (File (bytes ++ more) mode uid gid))
    ∙ ap (λ b. insert (insert m at (File (bytes ++ more) mode uid gid)) at (File b mode uid gid)) (take_at bytes more (length bytes) refl)
    ∙ put_back m at (File (bytes ++ more) mode uid gid) (Some (File bytes mode uid gid)) is

shortened_back : (m : Leaves) (at more : List ℕ) (stands : Option LeafKind) → get m at ≡ stands → IsSome (file_bytes stands) →
    with_shortened (with_extended m at more stands) at (file_length stands) (get (with_extended m at more stands) at) ≡ m
shortened_back m at more None is file = absurd (let no : false ≡ true = file in cc)
shortened_back m at more (Some (File bytes mode uid gid)) is file = cut_back m at bytes more mode uid gid is
shortened_back m at more (Some (Link target)) is file = absurd (let no : false ≡ true = file in cc)

-- nothing stands in the way of a path that is clear
pub blocked_clear : (leaves : Leaves) (to at : List ℕ) → IsClear leaves to → at ≡ to → IsInTheWay leaves at → ⊥
blocked_clear leaves to at clear is (q, line, stands) =
    let none : get leaves q ≡ None = clear q (subst (λ p. is_in_line q p ≡ true) is line) in
    none_or_present (get leaves q) none stands

module _ (old new : History) where
  -- a leaf was written at the stage
  pub staged :
      (at : List ℕ) (leaf copy : LeafKind) (was : Option LeafKind) →
      at ≡ stage → copy ≡ leaf → was ≡ get old.world.leaves at → new.world ≡ with_leaf at copy old.world →
      new.calls.items ≡ old.calls.items ++ Staged was ∷ [] → Makes (Stage leaf) (finished (Stage leaf) old.world) old new
  staged at leaf copy was place same is now grown =
      let after : new.world ≡ finished (Stage leaf) old.world = now ∙ ap (λ x. with_leaf x copy old.world) place ∙ ap (λ x. with_leaf stage x old.world) same in
      let before : get old.world.leaves stage ≡ was = ap (λ x. get old.world.leaves x) (sym place) ∙ sym is in
      entered old new (Staged was) (Stage leaf) tt tt grown
      (ap (undone (Staged was)) after ∙ ap (λ (m : Leaves). record old.world { leaves = m }) (put_back old.world.leaves stage leaf was before))
      after

  -- the leaf at a path was removed
  pub removed :
      (at place : List ℕ) (was : Option LeafKind) →
      place ≡ at → was ≡ get old.world.leaves at → new.world ≡ without_leaf at old.world →
      new.calls.items ≡ old.calls.items ++ Removed place was ∷ [] → Makes (Remove at) (finished (Remove at) old.world) old new
  removed at place was same is now grown =
      entered old new (Removed place was) (Remove at) tt tt grown
      (ap (λ x. undone (Removed x was) new.world) same ∙ ap (undone (Removed at was)) now
      ∙ both_back old.world _ _ at (brought_back old.world.leaves at was (sym is)))
      now

  -- the stage's leaf was moved to a path
  pub renamed :
      (from to place : List ℕ) (was : Option LeafKind) →
      from ≡ stage → place ≡ to → to ≢ stage → IsSome (get old.world.leaves stage) → was ≡ get old.world.leaves to →
      new.world ≡ record old.world { leaves = moved old.world.leaves from to; written = old.world.written ++ to ∷ [] } →
      new.calls.items ≡ old.calls.items ++ Renamed place was ∷ [] → Makes (Rename to) (finished (Rename to) old.world) old new
  renamed from to place was begins same other there is now grown =
      let after : new.world ≡ finished (Rename to) old.world = now ∙ ap (λ x. record old.world { leaves = moved old.world.leaves x to; written = old.world.written ++ to ∷ [] }) begins in
      let apart : eq_by_cmp bytes_cmp to stage ≡ false = elim (same_or_other to stage) [ inl equal ↦ absurd (other equal) | inr is_apart ↦ is_apart ] in
      let leaf = some_of (get old.world.leaves stage) there in
      entered old new (Renamed place was) (Rename to) tt tt grown
      (ap (λ x. undone (Renamed x was) new.world) same ∙ ap (undone (Renamed to was)) after
      ∙ both_back old.world _ _ to (moved_back old.world.leaves stage to leaf.0 was apart leaf.1 (sym is)))
      after

  -- bytes were appended to the file at a path
  pub appended :
      (at bytes place : List ℕ) (count : ℕ) →
      place ≡ at → count ≡ file_length (get old.world.leaves at) → IsFileAt old.world.leaves at →
      new.world ≡ record old.world { leaves = with_more old.world.leaves at bytes; written = old.world.written ++ at ∷ [] } →
      new.calls.items ≡ old.calls.items ++ Appended place count ∷ [] → Makes (Append at bytes) (finished (Append at bytes) old.world) old new
  appended at bytes place count same long file now grown =
      entered old new (Appended place count) (Append at bytes) tt tt grown
      (ap (λ x. undone (Appended x count) new.world) same ∙ ap (λ n. undone (Appended at n) new.world) long ∙ ap (undone (Appended at (file_length (get old.world.leaves at)))) now
      ∙ both_back old.world _ _ at (shortened_back old.world.leaves at bytes (get old.world.leaves at) refl file))
      now

  -- the first of some bytes were appended
  pub appended_part :
      (at place key : List ℕ) (was : Option LeafKind) (leaf : LeafKind) (part : List ℕ) →
      place ≡ at → key ≡ at → was ≡ get old.world.leaves key → new.world ≡ with_leaf key leaf old.world →
      insert old.world.leaves at leaf ≡ with_more old.world.leaves at part →
      new.calls.items ≡ old.calls.items ++ Replaced place was ∷ [] →
      (whole : List ℕ) (count : ℕ) → part ≡ take count whole → Cuts (Append at whole) (record old.world { leaves = with_more old.world.leaves at (take count whole) }) old new
  appended_part at place key was leaf part same same_key is now longer grown whole count of =
      let put : new.world ≡ with_leaf at leaf old.world = now ∙ ap (λ k. with_leaf k leaf old.world) same_key in
      let after : new.world ≡ record old.world { leaves = with_more old.world.leaves at (take count whole) } =
      put ∙ ap (λ (m : Leaves). record old.world { leaves = m }) longer ∙ ap (λ p. record old.world { leaves = with_more old.world.leaves at p }) of in
      let before : get old.world.leaves at ≡ was = ap (λ k. get old.world.leaves k) (sym same_key) ∙ sym is in
      let one = ap (λ (calls : List DoneCall). length calls) grown ∙ length-append old.calls.items (Replaced place was ∷ []) in
      let back : undone (Replaced place was) new.world ≡ old.world =
      ap (λ x. undone (Replaced x was) new.world) same ∙ ap (undone (Replaced at was)) put ∙ ap (λ (m : Leaves). record old.world { leaves = m }) (put_back old.world.leaves at leaf was before) in
      record {
        world = after;
        later = omega (arith, one);
        clock = omega (arith, one);
        moments = recorded old new (Replaced place was) (IsMoment (Append at whole)) grown back (inr (inr (count, after)));
        beside = λ tree.
            recorded_beside old new (Replaced place was) (IsMoment (Append at whole)) tt grown back (ap (λ (w : WorldState). w.manager) after)
            (λ manager. inr (inr (count, ap (with_manager manager) after)));
      }
