-- Leaves are put one after the other, and removed so.
use Rattle.std.proofs.Common.{◌≡◌, ◌≢◌, ℕ, zero, suc, ◌+◌, ◌<◌, Bool, false, List, [], ◌∷◌, ◌++◌, append-nil, append_assoc, Option, Some, MatchBool, length, get_or, take, Result, Err, IsErrAnd, refl, sym, ap, subst, ◌∙◌, ⊎_elim, arith, rules}
use Rattle.std.proofs.lemmas.List.{take_more}
use Rattle.std.specs.FinMap.{gets, remove}
use Rattle.std.specs.List.{AllByRecursion}
use Rattle.host_trait.specs.declared.leaf.LeafKind.{LeafKind}
use Rattle.host_trait.specs.declared.tree.HostFault.{HostFault}
use Rattle.host_trait.specs.Host.{HasCause, HostState}
use Rattle.host_trait.specs.World.{IsClear, Leaves, WorldState, is_in_line, seen, stage, with_leaf, without_leaf}
use Rattle.host_trait.proofs.Causes.{cause_on}
use Rattle.host_trait.proofs.Places.{alike}
use Rattle.host_trait.proofs.Readings.{handed_on}
use Rattle.host_trait.proofs.Seen.{clear_seen, seen_at, seen_with_leaf, stage_clear_seen}
use Rattle.host_trait.proofs.Sound.{clear_insert, clear_remove, line_turned}
use Rattle.switch_names.specs.Names.{Name}
use Rattle.switch_names.proofs.Lists.{all_at}
use Rattle.tree_put.specs.declared.leaf_put.LeafPut.{LeafPut}
use Rattle.tree_put.specs.Put.{AreApart, CanPut, IsOldOrGone, IsOldOrNew, IsPutIfOther, written_if}
use Rattle.tree_put.proofs.PutLemmas.{apart_ne}
use Rattle.tree_put.specs.Sequence.{ArePutsApart, AreWritten, CanPutAll, IsPutting, IsRemoving, WritesOthers, with_puts, without_places}

-- the cause of a fault that is handed on
pub cause_handed :
    {a b c : HostState} {T U V : Type 0} {r : Result T HostFault} {f : HostFault} → HasCause a b r → HasCause {T = U} b c (Err f) → (s : Result V HostFault) → IsErrAnd s (λ x. x ≡ f) → HasCause a c s
cause_handed {f = f} first second s is = cause_on first second (handed_on f s is)

-- ---- lists

pub all_take : {X : Type 0} (P : X → Type 0) (list : List X) (i : ℕ) → AllByRecursion P list → AllByRecursion P (take i list)
all_take P [] zero all = tt
all_take P [] (suc i) all = tt
all_take P (x ∷ list) zero all = tt
all_take P (x ∷ list) (suc i) all = (all.0, all_take P list i all.1)

-- ---- what is clear stays so

-- puts at places that aren't in line with a path leave it clear
pub clear_after : (puts : List LeafPut) (p : Name) (w : WorldState) → AllByRecursion (λ put. is_in_line put.at p ≡ false) puts → IsClear w.leaves p → IsClear (with_puts puts w).leaves p
clear_after [] p w apart clear = clear
clear_after (put ∷ puts) p w apart clear = clear_after puts p (with_leaf put.at put.leaf w) apart.1 (clear_insert w.leaves put.at p put.leaf apart.0 clear)

stage_lines : (puts : List LeafPut) → AllByRecursion (λ put. AreApart put.at stage) puts → AllByRecursion (λ put. is_in_line put.at stage ≡ false) puts
stage_lines [] apart = tt
stage_lines (put ∷ puts) apart = (apart.0.line, stage_lines puts apart.1)

pub stage_after : (puts : List LeafPut) (w : WorldState) → AllByRecursion (λ put. AreApart put.at stage) puts → IsClear w.leaves stage → IsClear (with_puts puts w).leaves stage
stage_after puts w apart clear = clear_after puts stage w (stage_lines puts apart) clear

pub removed_clear : (places : List Name) (w : WorldState) (p : Name) → IsClear w.leaves p → IsClear (without_places places w).leaves p
removed_clear [] w p clear = clear
removed_clear (at ∷ places) w p clear = removed_clear places (without_leaf at w) p (clear_remove w.leaves at p clear)

pub put_apart : (puts : List LeafPut) (i : ℕ) (one : LeafPut) → i < length puts → one ≡ get_or puts i one → ArePutsApart puts → AreApart one.at stage
put_apart puts i one inside is apart = all_at (λ (put : LeafPut). AreApart put.at stage) puts i one inside is apart.stage

pub can_put_after :
    (puts : List LeafPut) (i : ℕ) (one : LeafPut) (w v : WorldState) → i < length puts → one ≡ get_or puts i one → ArePutsApart puts →
    seen v ≡ seen (with_puts (take i puts) w) → CanPutAll puts w → CanPut one.at v
can_put_after puts i one w v inside is apart before can =
    let lines = all_at (λ (put : LeafPut). AllByRecursion (λ (other : LeafPut). is_in_line other.at put.at ≡ false) puts) puts i one inside is apart.others in
    record {
      stage = stage_clear_seen v (with_puts (take i puts) w) before (stage_after (take i puts) w (all_take (λ (put : LeafPut). AreApart put.at stage) puts i apart.stage) can.stage);
      place = clear_seen v (with_puts (take i puts) w) one.at (line_turned one.at stage (put_apart puts i one inside is apart).line) before
          (clear_after (take i puts) one.at w (all_take (λ (other : LeafPut). is_in_line other.at one.at ≡ false) puts i lines)
          (all_at (λ (put : LeafPut). IsClear w.leaves put.at) puts i one inside is can.places));
    }

-- puts are apart where all their places are of a kind whose places are
module _
    (P : Name → Type 0) (stages : (p : Name) → P p → AreApart p stage) (lines : (p q : Name) → P p → P q → is_in_line p q ≡ false) where
  one_apart : (q : Name) → P q → (puts : List LeafPut) → AllByRecursion (λ (put : LeafPut). P put.at) puts → AllByRecursion (λ (other : LeafPut). is_in_line other.at q ≡ false) puts
  one_apart q is [] all = tt
  one_apart q is (put ∷ puts) all = (lines put.at q all.0 is, one_apart q is puts all.1)

  each_apart : (all puts : List LeafPut) → AllByRecursion (λ (put : LeafPut). P put.at) all → AllByRecursion (λ (put : LeafPut). P put.at) puts →
      AllByRecursion (λ (put : LeafPut). AllByRecursion (λ (other : LeafPut). is_in_line other.at put.at ≡ false) all) puts
  each_apart all [] whole some = tt
  each_apart all (put ∷ puts) whole some = (one_apart put.at some.0 all whole, each_apart all puts whole some.1)

  each_stage : (puts : List LeafPut) → AllByRecursion (λ (put : LeafPut). P put.at) puts → AllByRecursion (λ (put : LeafPut). AreApart put.at stage) puts
  each_stage [] all = tt
  each_stage (put ∷ puts) all = (stages put.at all.0, each_stage puts all.1)

  pub apart_by : (puts : List LeafPut) → AllByRecursion (λ (put : LeafPut). P put.at) puts → ArePutsApart puts
  apart_by puts all = record { stage = each_stage puts all; others = each_apart puts puts all all }

-- ---- one put after another

puts_more : (puts : List LeafPut) (one : LeafPut) (w : WorldState) → with_puts (puts ++ one ∷ []) w ≡ with_leaf one.at one.leaf (with_puts puts w)
puts_more [] one w = refl
puts_more (put ∷ puts) one w = puts_more puts one (with_leaf put.at put.leaf w)

-- and what it writes
written_more :
    (puts : List LeafPut) (one : LeafPut) (w : WorldState) (places : List Name) (put : Bool) → AreWritten puts w places →
    IsPutIfOther one.at one.leaf put (with_puts puts w) → AreWritten (puts ++ one ∷ []) w (places ++ written_if put one.at)
written_more [] one w places put are other = (put, [], other, ap (λ ps. ps ++ written_if put one.at) are ∙ sym (append-nil (written_if put one.at)), refl)
written_more (first ∷ puts) one w places put are other = (
  are.0,
  are.1 ++ written_if put one.at,
  are.2,
  ap (λ ps. ps ++ written_if put one.at) are.3 ∙ append_assoc (written_if are.0 first.at) are.1 (written_if put one.at),
  written_more puts one (with_leaf first.at first.leaf w) are.1 put are.4 other,
)

pub none_written : (w : WorldState) → WritesOthers [] w w
none_written w = record { places = []; are = refl; written = sym (append-nil w.written) }

module _ (puts : List LeafPut) (i : ℕ) (one : LeafPut) (w v : WorldState) (inside : i < length puts) (is : one ≡ get_or puts i one) (before : seen v ≡ seen (with_puts (take i puts) w)) where
  pub put_next : (u : WorldState) → seen u ≡ seen (with_leaf one.at one.leaf v) → seen u ≡ seen (with_puts (take (i + 1) puts) w)
  put_next u now =
      now ∙ seen_with_leaf one.at one.leaf v (with_puts (take i puts) w) before
      ∙ ap seen (sym (puts_more (take i puts) one w) ∙ ap (λ (ps : List LeafPut). with_puts ps w) (sym (take_more puts i one inside ∙ ap (λ k. take i puts ++ k ∷ []) (sym is))))

  pub written_next : (u : WorldState) (put : Bool) → AreApart one.at stage → WritesOthers (take i puts) w v → IsPutIfOther one.at one.leaf put v → u.written ≡ v.written ++ written_if put one.at →
      WritesOthers (take (i + 1) puts) w u
  written_next u put apart so_far other now = record {
    places = so_far.places ++ written_if put one.at;
    are = subst (λ (ps : List LeafPut). AreWritten ps w (so_far.places ++ written_if put one.at))
        (sym (take_more puts i one inside ∙ ap (λ k. take i puts ++ k ∷ []) (sym is)))
        (written_more (take i puts) one w so_far.places put so_far.are
        (subst (λ (leaf : Option LeafKind). MatchBool put (leaf ≢ Some one.leaf) (leaf ≡ Some one.leaf))
        (seen_at v (with_puts (take i puts) w) before one.at (apart_ne one.at stage apart)) other));
    written = now ∙ ap (λ ps. ps ++ written_if put one.at) so_far.written ∙ append_assoc w.written so_far.places (written_if put one.at);
  }

  pub putting_next : (m : WorldState) → IsOldOrNew one.at one.leaf v m → IsPutting puts w m
  putting_next m moment = ⊎_elim
      (λ old. record { count = i; some = omega arith; world = old ∙ before })
      (λ new. record { count = i + 1; some = omega arith; world = put_next m new }) moment

pub putting_none : (puts : List LeafPut) (w : WorldState) → IsPutting puts w w
putting_none puts w = record { count = 0; some = omega arith; world = refl }

pub seen_with_puts : (puts : List LeafPut) (v w : WorldState) → seen v ≡ seen w → seen (with_puts puts v) ≡ seen (with_puts puts w)
seen_with_puts [] v w is = is
seen_with_puts (put ∷ puts) v w is = seen_with_puts puts (with_leaf put.at put.leaf v) (with_leaf put.at put.leaf w) (seen_with_leaf put.at put.leaf v w is)

pub puts_manager : (puts : List LeafPut) (w : WorldState) → (with_puts puts w).manager ≡ w.manager
puts_manager [] w = refl
puts_manager (put ∷ puts) w = puts_manager puts (with_leaf put.at put.leaf w)

-- ---- one removal after another

places_more : (places : List Name) (one : Name) (w : WorldState) → without_places (places ++ one ∷ []) w ≡ without_leaf one (without_places places w)
places_more [] one w = refl
places_more (at ∷ places) one w = places_more places one (without_leaf at w)

module _ (places : List Name) (i : ℕ) (one : Name) (w v : WorldState) (inside : i < length places) (is : one ≡ get_or places i one) (before : v ≡ without_places (take i places) w) where
  pub removed_next : (u : WorldState) → u ≡ without_leaf one v → u ≡ without_places (take (i + 1) places) w
  removed_next u now =
      now ∙ ap (without_leaf one) before ∙ sym (places_more (take i places) one w)
      ∙ ap (λ (ps : List Name). without_places ps w) (sym (take_more places i one inside ∙ ap (λ k. take i places ++ k ∷ []) (sym is)))

  pub removing_next : (m : WorldState) → IsOldOrGone one v m → IsRemoving places w m
  removing_next m moment = ⊎_elim
      (λ old. record { count = i; some = omega arith; world = old ∙ before })
      (λ gone. record { count = i + 1; some = omega arith; world = removed_next m gone }) moment

pub removing_none : (places : List Name) (w : WorldState) → IsRemoving places w w
removing_none places w = record { count = 0; some = omega arith; world = refl }

pub seen_without_leaf : (at : List ℕ) (v w : WorldState) → seen v ≡ seen w → seen (without_leaf at v) ≡ seen (without_leaf at w)
seen_without_leaf at v w is =
    let leaves : remove (remove v.leaves at) stage ≡ remove (remove w.leaves at) stage =
    swap v.leaves ∙ ap (λ (l : Leaves). remove l at) (ap (λ (x : WorldState). x.leaves) is) ∙ sym (swap w.leaves) in
    let manager = ap (λ (x : WorldState). x.manager) is in
    λ i. record { leaves = leaves i; manager = manager i; written = [] }
  where
    swap : (l : Leaves) → remove (remove l at) stage ≡ remove (remove l stage) at
    swap l = alike _ _ (λ q. grind (gets, rules))

pub seen_without_places : (places : List Name) (v w : WorldState) → seen v ≡ seen w → seen (without_places places v) ≡ seen (without_places places w)
seen_without_places [] v w is = is
seen_without_places (at ∷ places) v w is = seen_without_places places (without_leaf at v) (without_leaf at w) (seen_without_leaf at v w is)

pub places_manager : (places : List Name) (w : WorldState) → (without_places places w).manager ≡ w.manager
places_manager [] w = refl
places_manager (at ∷ places) w = places_manager places (without_leaf at w)
