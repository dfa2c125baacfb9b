-- So it is with the steps of a farm, and with what a system wants below /etc.
use Rattle.std.proofs.Common.{◌≡◌, false, cond, List, [], ◌∷◌, ◌++◌, append_assoc, map, sym, ap, subst, ◌∙◌}
use Rattle.std.proofs.lemmas.Bool.{both_ways, false_from_ne_true}
use Rattle.switch_names.specs.Names.{Name, is_name}
use Rattle.switch_names.specs.SystemName.{IsSystemPath}
use Rattle.host_trait.specs.Host.{HostState, Leads, Told}
use Rattle.host_trait.specs.World.{Leaves, WorldState, seen}
use Rattle.host_trait.proofs.Moments.{leads_then, one_world}
use Rattle.host_trait.proofs.NameOrder.{name_exact}
use Rattle.tree_put.specs.declared.leaf_put.LeafPut.{LeafPut}
use Rattle.tree_put.specs.Put.{written_if}
use Rattle.tree_put.specs.Sequence.{AreWritten, WritesOthers, put_at, with_puts, without_places}
use Rattle.tree_put.proofs.SequenceLemmas.{seen_without_places}
use Rattle.switch_parts.specs.Part.{IsSameFor, final_leaf}
use Rattle.switch_parts.specs.Quiet.{IsQuiet}
use Rattle.switch_parts.proofs.QuietLemmas.{without_written}
use Rattle.etc_manifest.specs.declared.item.Item.{Item}
use Rattle.etc_manifest.specs.Owners.{OwnerIds}
use Rattle.etc_clean.specs.declared.sorting.Sorted.{Sorted}
use Rattle.etc_clean.specs.CleanList.{clean_leaf, clean_name, clean_of}
use Rattle.etc_clean.specs.Etc.{Farm}
use Rattle.etc_clean.specs.Farm.{placed}
use Rattle.etc_clean.specs.Names.{place}
use Rattle.etc_clean.proofs.FarmLemmas.{placed_kept}
use Rattle.etc_clean.proofs.KeepsLemmas.{clean_owned}
use Rattle.etc_farm.specs.declared.etc_plan.EtcPlan.{EtcPlan}
use Rattle.etc_farm.specs.EtcPart.{CanPutEtc, etc_part, items_in, items_of}
use Rattle.etc_farm.specs.FarmPart.{CanApply, farm_of, farm_part, owns_farm}
use Rattle.etc_farm.specs.Prepared.{PreparedPuts}
use Rattle.etc_farm.specs.Steps.{IsPrepared, first_puts}
use Rattle.etc_farm.specs.Lists.{first_list, in_order}
use Rattle.etc_farm.specs.Written.{WritesLast, clean_first, list_first, open_names}
use Rattle.etc_farm.proofs.EtcLemmas.{etc_frame, items_free}
use Rattle.etc_farm.proofs.MakingLemmas.{last_as}
use Rattle.etc_farm.proofs.PartLemmas.{frame_alike}
use Rattle.etc_farm.proofs.PlaceLemmas.{owned_place}
use Rattle.etc_farm.proofs.QuietLemmas.{farm_quiet, list_there}

-- ---- the whole

-- what is put first, and the removals, write these places
record IsClearedBy (puts : List LeafPut) (gone : List Name) (w u : WorldState) : Type 0 where
  pub places : List Name
  pub are : AreWritten puts w places
  pub world : seen u ≡ seen (without_places gone (with_puts puts w))
  pub written : u.written ≡ w.written ++ (places ++ gone)

module _ {farm : Farm} {found : Sorted} {prepared : PreparedPuts} (is_prepared : IsPrepared farm found prepared) {a : HostState} {puts : List LeafPut} (are : puts ≡ prepared.first) {b : HostState}
    (led : Leads a b (λ w v. seen v ≡ seen (with_puts puts w))) (wrote : Leads a b (WritesOthers puts))
    {c : HostState} {gone : List Name} (are_gone : gone ≡ prepared.gone) (dropped : Leads b c (λ w v. v ≡ without_places gone w)) where
  cleared_by : Leads a c (IsClearedBy (first_puts is_prepared.names farm.target) (map place found.gone))
  cleared_by = leads_then wrote dropped (IsClearedBy (first_puts is_prepared.names farm.target) (map place found.gone))
      (λ w v u is_w is_v one now.
      let come = led.to w is_w in
      let came = subst (λ (x : WorldState). seen x ≡ seen (with_puts puts w)) (one_world b.world come.0 v come.1 is_v) come.2 in
      subst (λ (ps : List LeafPut). IsClearedBy ps (map place found.gone) w u) (are ∙ is_prepared.first)
      (subst (λ (ps : List Name). IsClearedBy puts ps w u) (are_gone ∙ is_prepared.gone)
      (record {
        places = one.places;
        are = one.are;
        world = ap seen now ∙ seen_without_places gone v (with_puts puts w) came;
        written = ap (λ (x : WorldState). x.written) now ∙ without_written gone v ∙ ap (λ ps. ps ++ gone) one.written ∙ append_assoc w.written one.places gone;
      })))

  module _ (can : Told a (CanApply farm found)) {items : List Item} {blocked standing : List Name} (are_items : items ≡ farm.items) (are_blocked : blocked ≡ found.blocked) (are_standing : standing ≡ found.standing) where
    wrote_last : (w u v : WorldState) → CanApply farm found w → WritesLast items blocked standing prepared.last u v →
        WritesLast farm.items found.blocked found.standing (put_at (place clean_name) (clean_leaf (placed farm.items w.leaves))) u v
    wrote_last w u v can_apply now =
        subst (λ (put : LeafPut). WritesLast farm.items found.blocked found.standing put u v) (last_as is_prepared w can_apply)
        (subst (λ (ns : List Name). WritesLast farm.items found.blocked ns prepared.last u v) are_standing
        (subst (λ (ns : List Name). WritesLast farm.items ns standing prepared.last u v) are_blocked
        (subst (λ (list : List Item). WritesLast list blocked standing prepared.last u v) are_items now)))

    pub quiet_led : {d : HostState} → Leads c d (WritesLast items blocked standing prepared.last) → Leads a d (IsQuiet (list_first farm.items) (final_leaf (farm_part farm)))
    quiet_led last = leads_then cleared_by last (IsQuiet (list_first farm.items) (final_leaf (farm_part farm)))
        (λ w u v is_w is_u one now.
        let can_apply = can.has w is_w in
        let names = is_prepared.names in
        let then = wrote_last w u v can_apply now in
        let rest = map place (open_names found.blocked found.standing farm.items) ++ written_if then.put (place clean_name) in
        farm_quiet farm is_prepared.manifest found w can_apply names (is_prepared.names_are w.leaves can_apply.sorted) one.places one.are then.put u then.other
        (list_there farm is_prepared.manifest found w can_apply names u one.world) v
        (then.written ∙ ap (λ (ps : List Name). ps ++ rest) one.written ∙ append_assoc w.written (one.places ++ map place found.gone) rest))

-- ---- what a system wants

pub quiet_etc : (system : Name) (plan : EtcPlan) (w : WorldState) → CanPutEtc system plan w → (v : WorldState) → IsQuiet (list_first plan.manifest) (final_leaf (farm_part (farm_of system plan.manifest))) w v →
    IsQuiet (clean_first system plan.owners) (final_leaf (etc_part system plan.owners)) w v
quiet_etc system plan w can v quiet =
    let there = subst (λ (items : List Item). IsQuiet (list_first items) (final_leaf (farm_part (farm_of system items))) w v) (sym (ap items_in can.planned.wanted)) quiet in
    record { places = there.places; written = there.written; quiet = λ q. there.quiet q }

module _ (system : Name) (owners : OwnerIds) where
  -- nothing is put on the way where nothing is owned
  pub first_owned : (leaves : Leaves) (q : Name) → owns_farm q ≡ false → clean_first system owners leaves q ≡ []
  first_owned leaves q none =
      ap (λ b. cond b (first_list (items_of system owners leaves) leaves ∷ []) [])
      (false_from_ne_true (is_name q (place clean_name)) (λ is. both_ways (owns_farm q) none (ap owns_farm (name_exact q (place clean_name) is) ∙ owned_place clean_name clean_owned)))

  list_same : (list : List Item) (w u : Leaves) → clean_of u ≡ clean_of w → placed list u ≡ placed list w → first_list list u ≡ first_list list w
  list_same list w u cleans placeds = λ i. clean_leaf (in_order (cleans i ++ placeds i))

  -- and the same where the same stands wherever the part looks
  pub first_same : IsSystemPath system → (w u : WorldState) → IsSameFor (etc_part system owners) w u → (q : Name) → clean_first system owners u.leaves q ≡ clean_first system owners w.leaves q
  first_same named w u same q =
      let keeps = etc_frame system owners named w u same in
      let items = items_of system owners w.leaves in
      let alike = frame_alike (farm_of system items) w u (items_free system owners w.leaves) (record { leaves = same.leaves; manager = same.manager }) in
      ap (λ (list : List Item). list_first list u.leaves q) (ap items_in keeps.manifest)
      ∙ ap (λ leaf. cond (is_name q (place clean_name)) (leaf ∷ []) []) (list_same items w.leaves u.leaves alike.clean (placed_kept items w.leaves u.leaves keeps.farm.keeps.foreign))
