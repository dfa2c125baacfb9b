-- Making /etc what a system wants is a part of a switch.
use Rattle.std.proofs.Common.{◌≡◌, ◌&&◌, Bool, true, false, cond, List, length, Option, None, Result, Ok, Err, is_some, refl, sym, ap, subst, ◌∙◌, inl, inr}
use Rattle.std.proofs.lemmas.Bool.{both_ways, cases_Bool, false_from_ne_true}
use Rattle.std.specs.Option.{option_or}
use Rattle.leaf_limits.specs.Counts.{entries_max, past}
use Rattle.leaf_limits.specs.Limits.{content_past}
use Rattle.switch_names.specs.Names.{IsListOf, Name, has}
use Rattle.switch_names.specs.SystemName.{IsSystemPath}
use Rattle.switch_names.proofs.Outcomes.{none_mapped, option_or_nothing, option_or_parts}
use Rattle.std.specs.List.Sorted.{IsStrictlySortedBy}
use Rattle.host_trait.specs.World.{Leaves, WorldState, bytes_cmp, content_of}
use Rattle.switch_parts.specs.declared.refusal.What.TheVariants.{Entries, LeafBytes}
use Rattle.switch_parts.specs.Limits.{too_many}
use Rattle.switch_parts.specs.Part.{IsAtEnd, IsFree, IsPartMoment, IsPart, IsSameFor}
use Rattle.etc_manifest.specs.declared.item.Item.{Item}
use Rattle.etc_manifest.specs.declared.item.ItemKind.{ItemKind}
use Rattle.etc_manifest.specs.declared.manifest_fault.ManifestFault.{ManifestFault}
use Rattle.etc_manifest.specs.declared.manifest_fault.ManifestFault.TheVariants.{Reserved}
use Rattle.etc_manifest.specs.Entries.{entries_of, has_leaf, kind_in, manifest_of, with_place}
use Rattle.etc_manifest.specs.Kind.{kind_of}
use Rattle.etc_manifest.specs.Manifest.{IsManifest, entry, places}
use Rattle.etc_manifest.specs.Owners.{OwnerIds}
use Rattle.etc_manifest.specs.Place.{etc_folder, is_reserved}
use Rattle.etc_manifest.proofs.LeafLemmas.{entries_sorted}
use Rattle.etc_manifest.proofs.WantedLemmas.{entry_is, places_are}
use Rattle.etc_clean.specs.declared.sorting.Sorted.{Sorted}
use Rattle.etc_clean.specs.CleanList.{clean_name, clean_of}
use Rattle.etc_clean.specs.Etc.{etc}
use Rattle.etc_clean.specs.Farm.{at, is_blocked, is_entry, is_gone}
use Rattle.etc_clean.specs.Keeps.{AreFree}
use Rattle.etc_clean.specs.Names.{name_of, place}
use Rattle.etc_clean.specs.Obsolete.{IsSortedOf}
use Rattle.etc_clean.specs.Standing.{is_leaf_of, is_standing}
use Rattle.etc_clean.proofs.FarmLemmas as farm
use Rattle.etc_clean.proofs.FarmLemmas.{blocked_kept}
use Rattle.etc_clean.proofs.KeepsLemmas.{alike_law, end_law, owned_name}
use Rattle.etc_clean.proofs.SearchLemmas.{none_wanted}
use Rattle.etc_farm.specs.declared.etc_plan.EtcPlan.{EtcPlan}
use Rattle.etc_farm.specs.EtcPart.{CanPutEtc, EtcPartLaw, EtcPlanLaw, KeepsEtc, clean_too_long, entries_too_many, etc_part, etc_refusal, items_in, items_of, refusal_in}
use Rattle.etc_farm.specs.FarmPart.{CanApply, KeepsFarm, farm_of, farm_part}
use Rattle.etc_farm.specs.Lists.{is_clean_long, list_long}
use Rattle.etc_farm.specs.Making.{IsMaking}
use Rattle.etc_farm.specs.Runs.{EtcRunLaw}
use Rattle.etc_farm.proofs.ClearLemmas.{gone_same, reserved_not_gone}
use Rattle.etc_farm.proofs.MomentLemmas.{making_law}
use Rattle.etc_farm.proofs.StageLemmas.{all_free}
use Rattle.etc_farm.proofs.PartLemmas.{farm_is, frame_alike, frame_content, keeps_farm_self, keeps_farm_then}
use Rattle.etc_farm.proofs.PlaceLemmas.{owned_read, place_of_owned, stage_unread, store_read}
use Rattle.etc_farm.proofs.ShortLemmas.{content_short, short_content}
use Rattle.switch_parts.proofs.StoreLemmas.{store_not_stage}
use Rattle.etc_farm.proofs.StoreLemmas.{entries_same, manifest_same, store_not_owned}

-- ---- what is wanted isn't reserved

no_kind : (there : Bool) (name : Name) (wanted : Result ItemKind ManifestFault) (reserved : Bool) → reserved ≡ true →
    cond there (kind_in (cond reserved (Err (Reserved name)) (with_place name wanted))) None ≡ None
no_kind true name wanted true is = refl
no_kind false name wanted true is = refl
no_kind there name wanted false is = absurd (both_ways false refl is)

-- what is read of a manifest isn't reserved
pub wanted_free : (leaves : Leaves) (system : Name) (owners : OwnerIds) (items : List Item) → manifest_of leaves system owners ≡ Ok items → AreFree items
wanted_free leaves system owners items is q known = elim (cases_Bool (is_reserved q)) [
  | inl reserved ↦
      let none =
      entry_is leaves system owners items is q
      ∙ no_kind (has (entries_of leaves system) q) q (kind_of (has_leaf leaves (etc_folder system)) leaves (etc_folder system) owners q) (is_reserved q) reserved in
      absurd (both_ways _ (ap (λ (kind : Option ItemKind). is_some kind) none) (farm.entry_is items q ∙ known))
  | inr free ↦ free
]

-- and its entries stand in byte order, each once
wanted_manifest : (leaves : Leaves) (system : Name) (owners : OwnerIds) (items : List Item) → manifest_of leaves system owners ≡ Ok items → IsManifest items
wanted_manifest leaves system owners items is = record {
  sorted = subst (IsStrictlySortedBy bytes_cmp) (sym (places_are leaves system owners items is)) (entries_sorted leaves system);
  free = all_free (places items) (wanted_free leaves system owners items is);
}

free_in : (leaves : Leaves) (system : Name) (owners : OwnerIds) (r : Result (List Item) ManifestFault) → manifest_of leaves system owners ≡ r → AreFree (items_in r)
free_in leaves system owners (Ok items) is = wanted_free leaves system owners items is
free_in leaves system owners (Err why) is = λ q known. absurd (both_ways false refl known)

-- ---- the clean list that stands

pub list_within : (leaves : Leaves) → clean_too_long leaves ≡ None → is_clean_long leaves ≡ false
list_within leaves none = content_short (content_of leaves (place clean_name)) (none_mapped _ (content_past (content_of leaves (place clean_name))) none)

list_not_long : (leaves : Leaves) → is_clean_long leaves ≡ false → clean_too_long leaves ≡ None
list_not_long leaves short = ap (too_many LeafBytes) (short_content (content_of leaves (place clean_name)) short)

-- ---- the part

module _ (system : Name) (owners : OwnerIds) where
  pub items_free : (leaves : Leaves) → AreFree (items_of system owners leaves)
  items_free leaves = free_in leaves system owners (manifest_of leaves system owners) refl

  module _ (named : IsSystemPath system) where
    pub etc_frame : (w m : WorldState) → IsSameFor (etc_part system owners) w m → KeepsEtc system owners w m
    etc_frame w m same = record {
      entries = entries_same w.leaves m.leaves (λ path inside. same.leaves path (store_read path inside)) system named;
      manifest = manifest_same w.leaves m.leaves (λ path inside. same.leaves path (store_read path inside)) system named owners;
      farm = (farm_is (farm_of system (items_of system owners w.leaves)) (items_free w.leaves)).frame w m (record { leaves = same.leaves; manager = same.manager });
    }

    long_there : (w m : WorldState) → KeepsEtc system owners w m → list_long (items_of system owners m.leaves) m.leaves ≡ list_long (items_of system owners w.leaves) m.leaves
    long_there w m keeps = ap (λ items. list_long items m.leaves) (ap items_in keeps.manifest)

    -- what is counted and wanted is the same, and the clean list that stands can be read again, so that nothing is refused
    none_refused : (w m : WorldState) → KeepsEtc system owners w m → IsFree (etc_part system owners) w.leaves → etc_refusal system owners m.leaves ≡ None
    none_refused w m keeps free =
        let count = entries_too_many w.leaves system in
        let wanted = refusal_in (manifest_of w.leaves system owners) in
        let first = option_or_parts count (option_or wanted (clean_too_long w.leaves)) free.refusal in
        let then = option_or_parts wanted (clean_too_long w.leaves) first.1 in
        option_or_nothing (entries_too_many m.leaves system) (option_or (refusal_in (manifest_of m.leaves system owners)) (clean_too_long m.leaves))
        ((λ i. too_many Entries (past entries_max (length (keeps.entries i)))) ∙ first.0)
        (option_or_nothing (refusal_in (manifest_of m.leaves system owners)) (clean_too_long m.leaves)
        (ap refusal_in keeps.manifest ∙ then.0)
        (list_not_long m.leaves (keeps.farm.short.stands free.short (list_within w.leaves then.1))))

    pub etc_is : IsPart (etc_part system owners)
    etc_is = record {
      keeps_self = λ w. record { entries = refl; manifest = refl; farm = keeps_farm_self (items_of system owners w.leaves) w };
      keeps_then = λ w v m first then. record {
        entries = then.entries ∙ first.entries;
        manifest = then.manifest ∙ first.manifest;
        farm = keeps_farm_then (items_of system owners w.leaves) w v m first.farm (subst (λ items. KeepsFarm items v m) (ap items_in first.manifest) then.farm);
      };
      same_end = λ w m keeps q own.
          ap (λ items. etc (farm_of system items) m.leaves (name_of q)) (ap items_in keeps.manifest)
          ∙ end_law (farm_of system (items_of system owners w.leaves)) w.leaves m.leaves keeps.farm.keeps (name_of q) (place_of_owned q own).1;
      stays_free = λ w m keeps free. record {
        way = keeps.farm.free free.way;
        refusal = none_refused w m keeps free;
        short = long_there w m keeps ∙ keeps.farm.short.puts free.short;
      };
      frame = etc_frame;
      reads_own = owned_read;
      no_stage = stage_unread;
    }

pub etc_part_law : EtcPartLaw
etc_part_law system owners named = etc_is system owners named

-- ---- a plan stays one

module _ (items : List Item) (free : AreFree items) (w u : WorldState) (system : Name) (same : IsSameFor (farm_part (farm_of system items)) w u) where
  gone_alike : (q : Name) → is_gone items u.leaves q ≡ is_gone items w.leaves q
  gone_alike q = elim (cases_Bool (is_reserved q)) [
    | inl reserved ↦ reserved_not_gone items u.leaves q reserved ∙ sym (reserved_not_gone items w.leaves q reserved)
    | inr other ↦
        let alike = frame_alike (farm_of system items) w u free same in
        gone_same items w.leaves u.leaves q (alike.leaves q (owned_name q other)) (ap (λ (names : List Name). has names q) alike.clean)
  ]

  blocked_alike : (q : Name) → is_blocked items u.leaves q ≡ is_blocked items w.leaves q
  blocked_alike q = blocked_kept items w.leaves u.leaves (alike_law items w.leaves u.leaves free (frame_alike (farm_of system items) w u free same)).foreign q

  -- no entry is reserved, and every other name below etc is looked at
  standing_there : (q : Name) → is_standing items u.leaves q ≡ is_standing items w.leaves q
  standing_there q = elim (cases_Bool (is_reserved q)) [
    | inl reserved ↦
        let none = none_wanted (entry items q) (farm.entry_is items q ∙ false_from_ne_true (is_entry items q) (λ known. both_ways _ (free q known) reserved)) in
        ap (λ kind. is_leaf_of q kind (at u.leaves q)) none ∙ sym (ap (λ kind. is_leaf_of q kind (at w.leaves q)) none)
    | inr other ↦ ap (λ leaf. is_leaf_of q (entry items q) leaf) ((frame_alike (farm_of system items) w u free same).leaves q (owned_name q other))
  ]

  list_as : (names : List Name) (p t : Name → Bool) → ((q : Name) → p q ≡ t q) → IsListOf names (λ q. t q ≡ true) → IsListOf names (λ q. p q ≡ true)
  list_as names p t agree list = record {
    sorted = list.sorted;
    exact = λ q. (λ there. agree q ∙ (list.exact q).0 there, λ is. (list.exact q).1 (sym (agree q) ∙ is));
  }

  pub sorted_alike : (sorted : Sorted) → IsSortedOf items w.leaves sorted → IsSortedOf items u.leaves sorted
  sorted_alike sorted are = record {
    gone = list_as sorted.gone (is_gone items u.leaves) (is_gone items w.leaves) gone_alike are.gone;
    blocked = list_as sorted.blocked (λ q. is_entry items q && is_blocked items u.leaves q) (λ q. is_entry items q && is_blocked items w.leaves q) (λ q. ap (λ b. is_entry items q && b) (blocked_alike q)) are.blocked;
    standing = list_as sorted.standing (is_standing items u.leaves) (is_standing items w.leaves) standing_there are.standing;
    clean = list_as sorted.clean (λ q. has (clean_of u.leaves) q) (λ q. has (clean_of w.leaves) q)
        (λ q. ap (λ (names : List Name). has names q) (frame_alike (farm_of system items) w u free same).clean) are.clean;
    past = are.past ∙ sym (ap content_past (frame_content (farm_of system items) w u free same));
  }

pub etc_plan_law : EtcPlanLaw
etc_plan_law system w u plan named same is = record {
  wanted = manifest_same w.leaves u.leaves (λ path inside. same.leaves path (store_read path inside)) system named plan.owners ∙ is.wanted;
  apart = is.apart;
  sorted = sorted_alike plan.manifest (wanted_free w.leaves system plan.owners plan.manifest is.wanted) w u system (record { leaves = same.leaves; manager = same.manager }) plan.sorted is.sorted;
  prepared = is.prepared;
}

-- ---- a plan is carried out

module _ (system : Name) (plan : EtcPlan) (w : WorldState) (can : CanPutEtc system plan w) where
  wanted_is : items_of system plan.owners w.leaves ≡ plan.manifest
  wanted_is = ap items_in can.planned.wanted

  pub can_apply : CanApply (farm_of system plan.manifest) plan.sorted w
  can_apply = record {
    free = record { way = can.free.way; refusal = refl; short = refl };
    apart = can.planned.apart;
    sorted = can.planned.sorted;
  }

  pub end_as : (v : WorldState) → IsAtEnd (farm_part (farm_of system plan.manifest)) w v → IsAtEnd (etc_part system plan.owners) w v
  end_as v end q own = end q own ∙ sym (ap (λ items. etc (farm_of system items) w.leaves (name_of q)) wanted_is)

  moment_as : IsSystemPath system → (m : WorldState) → IsPartMoment (farm_part (farm_of system plan.manifest)) w m → IsPartMoment (etc_part system plan.owners) w m
  moment_as named m moment = record {
    keeps = record {
      entries = entries_same w.leaves m.leaves (λ path inside. moment.only.leaves path (store_not_owned path inside) (store_not_stage path inside)) system named;
      manifest = manifest_same w.leaves m.leaves (λ path inside. moment.only.leaves path (store_not_owned path inside) (store_not_stage path inside)) system named plan.owners;
      farm = subst (λ items. KeepsFarm items w m) (sym wanted_is) moment.keeps;
    };
    only = record { leaves = moment.only.leaves; manager = moment.only.manager };
  }

  -- a step of it is a moment of the part
  pub making_as : IsSystemPath system → (m : WorldState) → IsMaking (farm_of system plan.manifest) w m → IsPartMoment (etc_part system plan.owners) w m
  making_as named m step =
      moment_as named m
      (making_law (farm_of system plan.manifest) plan.sorted w m (wanted_manifest w.leaves system plan.owners plan.manifest can.planned.wanted) can_apply step)

pub etc_run_law : EtcRunLaw
etc_run_law system plan w v can making =
    let same = sym (wanted_is system plan w can) in
    record {
      manifest = subst IsManifest same (wanted_manifest w.leaves system plan.owners plan.manifest can.planned.wanted);
      found = plan.sorted;
      can = subst (λ (items : List Item). CanApply (farm_of system items) plan.sorted w) same (can_apply system plan w can);
      making = making;
    }
