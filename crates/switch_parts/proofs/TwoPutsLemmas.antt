-- Leaves are put in two parts.
use Rattle.std.proofs.Common.{◌≡◌, ◌≢◌, ◌+◌, List, [], ◌∷◌, ◌++◌, append_assoc, MatchBool, Option, Some, length, take, refl, sym, ap, subst, ◌∙◌, arith}
use Rattle.std.proofs.Math.Seq.{take-append-add}
use Rattle.std.proofs.lemmas.List.{length-append, take-append-le}
use Rattle.std.specs.List.{AllByRecursion}
use Rattle.host_trait.specs.declared.leaf.LeafKind.{LeafKind}
use Rattle.host_trait.specs.Host.{Comes, HostState, Leads, Passes}
use Rattle.host_trait.specs.World.{WorldState, seen, stage, with_leaf}
use Rattle.host_trait.proofs.Moments.{goes_on, leads_then, one_world, passes_as}
use Rattle.host_trait.proofs.Seen.{seen_at, seen_with_leaf}
use Rattle.switch_names.specs.Names.{Name}
use Rattle.tree_put.specs.declared.leaf_put.LeafPut.{LeafPut}
use Rattle.tree_put.specs.Put.{AreApart, written_if}
use Rattle.tree_put.specs.Sequence.{ArePutsApart, AreWritten, IsPutting, WritesOthers, with_puts}
use Rattle.tree_put.proofs.PutLemmas.{apart_ne}
use Rattle.tree_put.proofs.SequenceLemmas.{seen_with_puts}

puts_append : (xs ys : List LeafPut) (w : WorldState) → with_puts (xs ++ ys) w ≡ with_puts ys (with_puts xs w)
puts_append [] ys w = refl
puts_append (x ∷ xs) ys w = puts_append xs ys (with_leaf x.at x.leaf w)

putting_first : (xs ys : List LeafPut) (w m : WorldState) → IsPutting xs w m → IsPutting (xs ++ ys) w m
putting_first xs ys w m moment =
    let some = moment.some in let long = length-append xs ys in
    record {
      count = moment.count;
      some = omega (arith, some, long);
      world = moment.world ∙ ap (λ (puts : List LeafPut). seen (with_puts puts w)) (sym (take-append-le moment.count xs ys moment.some));
    }

putting_then : (xs ys : List LeafPut) (w v m : WorldState) → seen v ≡ seen (with_puts xs w) → IsPutting ys v m → IsPutting (xs ++ ys) w m
putting_then xs ys w v m came moment =
    let some = moment.some in let long = length-append xs ys in
    record {
      count = length xs + moment.count;
      some = omega (arith, some, long);
      world = moment.world ∙ seen_with_puts (take moment.count ys) v (with_puts xs w) came
          ∙ ap seen (sym (puts_append xs (take moment.count ys) w) ∙ ap (λ (puts : List LeafPut). with_puts puts w) (sym (take-append-add xs ys moment.count)));
    }

both_put : (xs ys : List LeafPut) (w v u : WorldState) → seen v ≡ seen (with_puts xs w) → seen u ≡ seen (with_puts ys v) → seen u ≡ seen (with_puts (xs ++ ys) w)
both_put xs ys w v u came then = then ∙ seen_with_puts ys v (with_puts xs w) came ∙ ap seen (sym (puts_append xs ys w))

-- what puts write is told by what is seen
pub written_seen :
    (puts : List LeafPut) (v z : WorldState) (places : List Name) → AllByRecursion (λ (put : LeafPut). AreApart put.at stage) puts → seen v ≡ seen z → AreWritten puts v places →
    AreWritten puts z places
written_seen [] v z places apart same are = are
written_seen (one ∷ puts) v z places apart same are = (
  are.0,
  are.1,
  subst (λ (leaf : Option LeafKind). MatchBool are.0 (leaf ≢ Some one.leaf) (leaf ≡ Some one.leaf)) (seen_at v z same one.at (apart_ne one.at stage apart.0)) are.2,
  are.3,
  written_seen puts (with_leaf one.at one.leaf v) (with_leaf one.at one.leaf z) are.1 apart.1 (seen_with_leaf one.at one.leaf v z same) are.4,
)

written_append : (xs ys : List LeafPut) (w : WorldState) (first second : List Name) → AreWritten xs w first → AreWritten ys (with_puts xs w) second → AreWritten (xs ++ ys) w (first ++ second)
written_append [] ys w first second one other = subst (λ ps. AreWritten ys w (ps ++ second)) (sym one) other
written_append (x ∷ xs) ys w first second one other = (
  one.0,
  one.1 ++ second,
  one.2,
  ap (λ ps. ps ++ second) one.3 ∙ append_assoc (written_if one.0 x.at) one.1 second,
  written_append xs ys (with_leaf x.at x.leaf w) one.1 second one.4 other,
)

both_written : (xs ys : List LeafPut) (w v u : WorldState) → ArePutsApart ys → seen v ≡ seen (with_puts xs w) → WritesOthers xs w v → WritesOthers ys v u → WritesOthers (xs ++ ys) w u
both_written xs ys w v u apart came first then = record {
  places = first.places ++ then.places;
  are = written_append xs ys w first.places then.places first.are (written_seen ys v (with_puts xs w) then.places apart.stage came then.are);
  written = then.written ∙ ap (λ ps. ps ++ then.places) first.written ∙ append_assoc w.written first.places then.places;
}

module _ (puts xs ys : List LeafPut) (parts : puts ≡ xs ++ ys) {a b : HostState} (first : Passes a b (IsPutting xs)) where
  -- some of the first part are put
  pub first_way : Passes a b (IsPutting puts)
  first_way = passes_as first (IsPutting puts) (λ w m is moment. subst (λ (ps : List LeafPut). IsPutting ps w m) (sym parts) (putting_first xs ys w m moment))

  module _ (led : Comes a b (with_puts xs)) {c : HostState} where
    -- all of the first part are put, and some of the second
    pub second_way : Passes b c (IsPutting ys) → Passes a c (IsPutting puts)
    second_way second = goes_on first_way led second (IsPutting puts) (λ w m is moment. moment)
        (λ w v m is is_v came moment. subst (λ (ps : List LeafPut). IsPutting ps w m) (sym parts) (putting_then xs ys w v m came moment))

    pub both_led : Comes b c (with_puts ys) → Comes a c (with_puts puts)
    both_led second = leads_then led second (λ w u. seen u ≡ seen (with_puts puts w))
        (λ w v u is is_v came then. both_put xs ys w v u came then ∙ ap (λ (ps : List LeafPut). seen (with_puts ps w)) (sym parts))

    -- and what both write
    pub both_wrote : ArePutsApart ys → Leads a b (WritesOthers xs) → Leads b c (WritesOthers ys) → Leads a c (WritesOthers puts)
    both_wrote apart wrote second = leads_then wrote second (WritesOthers puts)
        (λ w v u is is_v one then.
        let there = led.to w is in
        let came = subst (λ (x : WorldState). seen x ≡ seen (with_puts xs w)) (one_world b.world there.0 v there.1 is_v) there.2 in
        subst (λ (ps : List LeafPut). WritesOthers ps w u) (sym parts) (both_written xs ys w v u apart came one then))
