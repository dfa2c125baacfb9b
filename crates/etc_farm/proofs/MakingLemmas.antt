-- Each moment of putting a farm stands at one of its steps.
use Rattle.std.proofs.Common.{◌≡◌, ◌≤◌, ◌<◌, ℕ, ◌+◌, true, false, not, cond, List, [], ◌∷◌, ◌++◌, length, map, filter, take, drop, get_or, sym, ap, subst, ◌∙◌, ⊎_elim, arith}
use Rattle.std.proofs.lemmas.List.{append-nil, length-append, map-append, take-append-drop, take-append-le, take_more}
use Rattle.std.proofs.lemmas.List.Elements.{filter-append}
use Rattle.std.proofs.Math.Seq.{take-append_seam}
use Rattle.switch_names.specs.Names.{Name, has}
use Rattle.host_trait.specs.Host.{HostState, Leads, Passes, Told}
use Rattle.host_trait.specs.World.{WorldState, seen, with_leaf}
use Rattle.host_trait.proofs.Moments.{goes_on, leads_as, leads_then, passes_as, told_after, told_as}
use Rattle.host_trait.proofs.Seen.{seen_with_leaf}
use Rattle.tree_put.specs.declared.leaf_put.LeafPut.{LeafPut}
use Rattle.tree_put.specs.Put.{IsOldOrNew}
use Rattle.tree_put.specs.Sequence.{ArePutsApart, CanPutAll, IsPutting, IsRemoving, put_at, with_puts, without_places}
use Rattle.tree_put.proofs.SequenceLemmas.{seen_with_puts, seen_without_places}
use Rattle.switch_parts.specs.Part.{IsAtEnd}
use Rattle.etc_manifest.specs.declared.item.Item.{Item}
use Rattle.etc_clean.specs.declared.sorting.Sorted.{Sorted}
use Rattle.etc_clean.specs.CleanList.{clean_leaf, clean_name}
use Rattle.etc_clean.specs.Etc.{Farm}
use Rattle.etc_clean.specs.Farm.{placed}
use Rattle.etc_clean.specs.Names.{place}
use Rattle.etc_farm.specs.FarmPart.{CanApply, farm_part}
use Rattle.etc_farm.specs.Making.{IsAtStep, IsClearing, IsMaking, begun, cleared, entry_puts, last_puts}
use Rattle.etc_farm.specs.Making.IsAtStep.{Beginning, Clearing, Ending}
use Rattle.etc_farm.specs.Making.IsMaking.{Since}
use Rattle.etc_farm.specs.Prepared.{PreparedPuts}
use Rattle.etc_farm.specs.Steps.{AreStanding, CanPutEntries, IsPrepared, item_put, puts_but}
use Rattle.etc_farm.proofs.EntryLemmas.{entries_seen}
use Rattle.etc_farm.proofs.MomentLemmas.{can_entries, ended}
use Rattle.etc_farm.proofs.PutLemmas.{puts_then}
use Rattle.etc_farm.proofs.StageLemmas.{can_put_first, first_apart, open_as}
use Rattle.etc_farm.proofs.StandingLemmas.{standing_cleared}

-- ---- the first so many of some puts

putting_so_far : (puts rest : List LeafPut) (w m : WorldState) → seen m ≡ seen (with_puts puts w) → IsPutting (puts ++ rest) w m
putting_so_far puts rest w m is =
    let lengths : length (puts ++ rest) ≡ length puts + length rest = length-append puts rest in
    record { count = length puts; some = omega arith; world = is ∙ ap (λ (ps : List LeafPut). seen (with_puts ps w)) (sym (take-append_seam puts rest)) }

pub putting_more : (puts rest : List LeafPut) (w m : WorldState) → IsPutting puts w m → IsPutting (puts ++ rest) w m
putting_more puts rest w m step =
    let lengths : length (puts ++ rest) ≡ length puts + length rest = length-append puts rest in
    let some : step.count ≤ length puts = step.some in
    record { count = step.count; some = omega arith; world = step.world ∙ ap (λ (ps : List LeafPut). seen (with_puts ps w)) (sym (take-append-le step.count puts rest step.some)) }

putting_all : (puts : List LeafPut) (w m : WorldState) → seen m ≡ seen (with_puts puts w) → IsPutting puts w m
putting_all puts w m is = subst (λ (ps : List LeafPut). IsPutting ps w m) (append-nil puts) (putting_so_far puts [] w m is)

putting_from : (puts : List LeafPut) (z u m : WorldState) → seen u ≡ seen z → IsPutting puts u m → IsPutting puts z m
putting_from puts z u m is step = record { count = step.count; some = step.some; world = step.world ∙ seen_with_puts (take step.count puts) u z is }

-- ---- the entries

but_append : (blocked : List Name) (xs ys : List Item) → puts_but blocked (xs ++ ys) ≡ puts_but blocked xs ++ puts_but blocked ys
but_append blocked xs ys =
    let is_open = λ (item : Item). not (has blocked item.place) in
    ap (λ (items : List Item). map item_put items) (filter-append is_open xs ys) ∙ map-append item_put (filter is_open xs) (filter is_open ys)

module _ (blocked : List Name) (items : List Item) where
  split_at : (k : ℕ) → puts_but blocked items ≡ puts_but blocked (take k items) ++ puts_but blocked (drop k items)
  split_at k = ap (λ (list : List Item). puts_but blocked list) (sym (take-append-drop k items)) ∙ but_append blocked (take k items) (drop k items)

  pub entries_so_far : (k : ℕ) (w m : WorldState) → seen m ≡ seen (with_puts (puts_but blocked (take k items)) w) → IsPutting (puts_but blocked items) w m
  entries_so_far k w m is = subst (λ (ps : List LeafPut). IsPutting ps w m) (sym (split_at k)) (putting_so_far (puts_but blocked (take k items)) (puts_but blocked (drop k items)) w m is)

  module _ (i : ℕ) (item : Item) (inside : i < length items) (is : item ≡ get_or items i item) where
    abbrev before_it : List LeafPut
    before_it = puts_but blocked (take i items)

    next_of : puts_but blocked (take (i + 1) items) ≡ before_it ++ puts_but blocked (item ∷ [])
    next_of = ap (λ (list : List Item). puts_but blocked list) (take_more items i item inside ∙ ap (λ k. take i items ++ k ∷ []) (sym is)) ∙ but_append blocked (take i items) (item ∷ [])

    pub entry_skipped : has blocked item.place ≡ true → puts_but blocked (take (i + 1) items) ≡ before_it
    entry_skipped there =
        next_of ∙ ap (λ b. before_it ++ map item_put (cond (not b) (item ∷ []) [])) there ∙ append-nil before_it

    module _ (open_there : has blocked item.place ≡ false) (w v : WorldState) (before : seen v ≡ seen (with_puts before_it w)) where
      next_open : puts_but blocked (take (i + 1) items) ≡ before_it ++ item_put item ∷ []
      next_open = next_of ∙ ap (λ b. before_it ++ map item_put (cond (not b) (item ∷ []) [])) open_there

      pub entry_next : (u : WorldState) → seen u ≡ seen (with_leaf (item_put item).at (item_put item).leaf v) → seen u ≡ seen (with_puts (puts_but blocked (take (i + 1) items)) w)
      entry_next u now =
          now ∙ seen_with_leaf (item_put item).at (item_put item).leaf v (with_puts before_it w) before
          ∙ ap seen (sym (ap (λ (ps : List LeafPut). with_puts ps w) next_open ∙ puts_then before_it (item_put item ∷ []) w))

      pub entries_next : (m : WorldState) → IsOldOrNew (item_put item).at (item_put item).leaf v m → IsPutting (puts_but blocked items) w m
      entries_next m moment = ⊎_elim (λ old. entries_so_far i w m (old ∙ before)) (λ new. entries_so_far (i + 1) w m (entry_next m new)) moment

-- ---- the last clean list

pub last_steps :
    (puts : List LeafPut) (last : LeafPut) {a b c : HostState} → Passes a b (IsPutting puts) → Leads a b (λ w v. seen v ≡ seen (with_puts puts w)) → Passes b c (IsOldOrNew last.at last.leaf) →
    Passes a c (IsPutting (puts ++ last ∷ []))
last_steps puts last steps led step =
    goes_on steps led step (IsPutting (puts ++ last ∷ [])) (λ w m is some. putting_more puts (last ∷ []) w m some)
    (λ w v m is_w is_v before moment. ⊎_elim
    (λ old. putting_so_far puts (last ∷ []) w m (old ∙ before))
    (λ new. putting_all (puts ++ last ∷ []) w m (new ∙ seen_with_leaf last.at last.leaf v (with_puts puts w) before ∙ ap seen (sym (puts_then puts (last ∷ []) w)))) moment)

pub last_led :
    (puts : List LeafPut) (last : LeafPut) {a b c : HostState} → Leads a b (λ w v. seen v ≡ seen (with_puts puts w)) → Leads b c (λ w v. seen v ≡ seen (with_leaf last.at last.leaf w)) →
    Leads a c (λ w v. seen v ≡ seen (with_puts (puts ++ last ∷ []) w))
last_led puts last led step = leads_then led step (λ w v. seen v ≡ seen (with_puts (puts ++ last ∷ []) w)) (λ w v u is_w is_v before new.
    new ∙ seen_with_leaf last.at last.leaf v (with_puts puts w) before ∙ ap seen (sym (puts_then puts (last ∷ []) w)))

-- ---- the whole

module _ {farm : Farm} {found : Sorted} {prepared : PreparedPuts} (is_prepared : IsPrepared farm found prepared) where
  making : (w m : WorldState) → CanApply farm found w → IsAtStep farm is_prepared.names found.gone w m → IsMaking farm w m
  making w m can step = Since is_prepared.names found.gone (is_prepared.names_are w.leaves can.sorted) can.sorted.gone step

  pub last_as : (w : WorldState) → CanApply farm found w → prepared.last ≡ put_at (place clean_name) (clean_leaf (placed farm.items w.leaves))
  last_as w can =
      let leaf : prepared.last.leaf ≡ clean_leaf (placed farm.items w.leaves) =
      is_prepared.last w.leaves can.sorted in
      let at = is_prepared.last_at in
      λ i. record { at = at i; leaf = leaf i }

  last_puts_as :
      (items : List Item) (blocked : List Name) (w : WorldState) → CanApply farm found w → items ≡ farm.items → blocked ≡ found.blocked →
      puts_but blocked items ++ prepared.last ∷ [] ≡ last_puts farm.items w.leaves
  last_puts_as items blocked w can are_items are_blocked =
      ap (λ (list : List Item). puts_but blocked list ++ prepared.last ∷ []) are_items ∙ ap (λ (names : List Name). puts_but names farm.items ++ prepared.last ∷ []) are_blocked
      ∙ ap (λ (ps : List LeafPut). ps ++ prepared.last ∷ []) (open_as farm is_prepared.manifest found w can) ∙ ap (λ (put : LeafPut). entry_puts farm.items w.leaves ++ put ∷ []) (last_as w can)

  pub puts_apart : {puts : List LeafPut} → puts ≡ prepared.first → ArePutsApart puts
  puts_apart are = subst ArePutsApart (sym (are ∙ is_prepared.first)) (first_apart is_prepared.names farm.target)

  pub can_begin : {a : HostState} → Told a (CanApply farm found) → {puts : List LeafPut} → puts ≡ prepared.first → Told a (CanPutAll puts)
  can_begin can {puts = puts} are = told_as can (CanPutAll puts) (λ w is can_apply.
      subst (λ (ps : List LeafPut). CanPutAll ps w) (sym (are ∙ is_prepared.first)) (can_put_first is_prepared.names farm.target w can_apply.free.way))

  module _ {a : HostState} (can : Told a (CanApply farm found)) {puts : List LeafPut} (are : puts ≡ prepared.first) {b : HostState} (moments : Passes a b (IsPutting puts)) where
    pub begin_steps : Passes a b (IsMaking farm)
    begin_steps = passes_as moments (IsMaking farm) (λ w m is step.
        making w m (can.has w is) (Beginning (subst (λ (ps : List LeafPut). IsPutting ps w m) (are ∙ is_prepared.first) step)))

    module _ (ok : Leads a b (λ w v. seen v ≡ seen (with_puts puts w))) where
      begun_led : Leads a b (λ w v. seen v ≡ seen (begun is_prepared.names farm.target w))
      begun_led = leads_as ok (λ w v. seen v ≡ seen (begun is_prepared.names farm.target w))
          (λ w v is new. new ∙ ap (λ (ps : List LeafPut). seen (with_puts ps w)) (are ∙ is_prepared.first))

      module _ {c : HostState} {gone : List Name} (are_gone : gone ≡ prepared.gone) (removals : Passes b c (IsRemoving gone)) where
        clearing : (z v m : WorldState) → seen v ≡ seen z → IsRemoving gone v m → IsClearing (map place found.gone) z m
        clearing z v m before removing =
            let step = subst (λ (ps : List Name). IsRemoving ps v m) (are_gone ∙ is_prepared.gone) removing in
            record { count = step.count; some = step.some; world = ap seen step.world ∙ seen_without_places (take step.count (map place found.gone)) v z before }

        pub clear_steps : Passes a c (IsMaking farm)
        clear_steps = goes_on begin_steps begun_led removals (IsMaking farm) (λ w m is step. step)
            (λ w v m is_w is_v before removing. making w m (can.has w is_w) (Clearing (clearing (begun is_prepared.names farm.target w) v m before removing)))

        module _ (dropped : Leads b c (λ w v. v ≡ without_places gone w)) where
          cleared_led : Leads a c (λ w u. seen u ≡ seen (cleared is_prepared.names farm.target found.gone w))
          cleared_led = leads_then begun_led dropped (λ w u. seen u ≡ seen (cleared is_prepared.names farm.target found.gone w))
              (λ w v u is_w is_v before now.
              ap seen (now ∙ ap (λ (ps : List Name). without_places ps v) (are_gone ∙ is_prepared.gone))
              ∙ seen_without_places (map place found.gone) v (begun is_prepared.names farm.target w) before)

          pub end_steps : {d : HostState} {items : List Item} {blocked : List Name} → items ≡ farm.items → blocked ≡ found.blocked → Passes c d (IsPutting (puts_but blocked items ++ prepared.last ∷ [])) → Passes a d (IsMaking farm)
          end_steps {items = items} {blocked = blocked} are_items are_blocked steps =
              goes_on clear_steps cleared_led steps (IsMaking farm) (λ w m is step. step)
              (λ w u m is_w is_u before putting.
              let last = subst (λ (ps : List LeafPut). IsPutting ps u m) (last_puts_as items blocked w (can.has w is_w) are_items are_blocked) putting in
              making w m (can.has w is_w) (Ending (putting_from (last_puts farm.items w.leaves) (cleared is_prepared.names farm.target found.gone w) u m before last)))

          pub cleared_can : {items : List Item} {blocked : List Name} → items ≡ farm.items → blocked ≡ found.blocked → Told c (CanPutEntries items blocked)
          cleared_can {items = items} {blocked = blocked} are_items are_blocked = told_after clear_steps cleared_led (CanPutEntries items blocked) (λ w u is before.
              let can_apply = can.has w is in
              let there = entries_seen farm.items found.blocked (cleared is_prepared.names farm.target found.gone w) u before
              (can_entries farm is_prepared.manifest found w can_apply is_prepared.names found.gone (is_prepared.names_are w.leaves can_apply.sorted) can_apply.sorted.gone) in
              subst (λ (list : List Item). CanPutEntries list blocked u) (sym are_items) (subst (λ (names : List Name). CanPutEntries farm.items names u) (sym are_blocked) there))

          -- what stood at the beginning stands once what is gone has been removed
          pub cleared_standing : {items : List Item} {standing : List Name} → items ≡ farm.items → standing ≡ found.standing → Told c (AreStanding items standing)
          cleared_standing {items = items} {standing = standing} are_items are_standing = told_after clear_steps cleared_led (AreStanding items standing) (λ w u is before.
              subst (λ (list : List Item). AreStanding list standing u) (sym are_items) (subst (λ (names : List Name). AreStanding farm.items names u) (sym are_standing)
              (standing_cleared farm is_prepared.manifest found w (can.has w is) is_prepared.names u before)))

          pub ended_led : {d : HostState} {items : List Item} {blocked : List Name} → items ≡ farm.items → blocked ≡ found.blocked →
              Leads c d (λ u v. seen v ≡ seen (with_puts (puts_but blocked items ++ prepared.last ∷ []) u)) → Leads a d (IsAtEnd (farm_part farm))
          ended_led {items = items} {blocked = blocked} are_items are_blocked led = leads_then cleared_led led (IsAtEnd (farm_part farm)) (λ w u v is_w is_u before now.
              let can_apply = can.has w is_w in
              ended farm is_prepared.manifest found w can_apply is_prepared.names found.gone (is_prepared.names_are w.leaves can_apply.sorted) can_apply.sorted.gone v
              (now ∙ ap (λ (ps : List LeafPut). seen (with_puts ps u)) (last_puts_as items blocked w can_apply are_items are_blocked)
              ∙ seen_with_puts (last_puts farm.items w.leaves) u (cleared is_prepared.names farm.target found.gone w) before))
