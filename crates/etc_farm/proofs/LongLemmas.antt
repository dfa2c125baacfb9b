-- Where making /etc isn't refused, no content that is taken for it is too long, and a plan tells the list that is put too long.
use Rattle.std.proofs.Common.{◌≡◌, ◌&&◌, ◌||◌, ℕ, Bool, true, false, cond, List, Option, None, Some, option_and_then, option_map, Result, Ok, Err, codes, refl, sym, ap, ◌∙◌}
use Rattle.std.specs.FinMap.{keys}
use Rattle.std.specs.Option.{option_or}
use Rattle.switch_names.specs.Names.{Name, is_name}
use Rattle.switch_names.proofs.Outcomes.{option_or_parts}
use Rattle.switch_names.specs.SystemName.{IsSystemPath}
use Rattle.host_trait.specs.declared.tree.HostFault.{HostFault}
use Rattle.host_trait.specs.World.{Leaves}
use Rattle.host_trait.proofs.NameOrder.{name_exact}
use Rattle.leaf_limits.specs.Limits.{first_long, is_long, length_at}
use Rattle.leaf_limits.proofs.PastLemmas.{none_found}
use Rattle.tree_put.specs.declared.leaf_put.LeafPut.{LeafPut}
use Rattle.tree_put.specs.Sequence.{put_at}
use Rattle.switch_parts.specs.declared.refusal.What.TheVariants.{LeafBytes}
use Rattle.switch_parts.specs.Limits.{too_many}
use Rattle.switch_parts.specs.Puts.{long_put, long_with}
use Rattle.switch_parts.proofs.LongLemmas.{long_alone}
use Rattle.etc_manifest.specs.declared.item.Item.{Item}
use Rattle.etc_manifest.specs.declared.item.ItemKind.{ItemKind}
use Rattle.etc_manifest.specs.declared.manifest_fault.ManifestFault.{ManifestFault}
use Rattle.etc_manifest.specs.declared.manifest_fault.ManifestFault.TheVariants.{Many, Reserved, Entry, Owner, Host}
use Rattle.etc_manifest.specs.declared.mode.Mode.{Mode}
use Rattle.etc_manifest.specs.declared.mode.Mode.TheVariants.{Bits, DirectSymlink}
use Rattle.etc_manifest.specs.Companion.{companion, has_long_owner, parts_of}
use Rattle.etc_manifest.specs.Entries.{has_leaf, manifest_of, with_place}
use Rattle.etc_manifest.specs.Kind.{copied_by, direct_kind, kind_by, kind_of, kind_with, mode_of, owned_kind, short_target}
use Rattle.etc_manifest.specs.Owners.{OwnerIds, owner_id}
use Rattle.etc_manifest.specs.Place.{etc_folder, is_reserved, path_in}
use Rattle.etc_manifest.proofs.FirstLemmas.{first_refused}
use Rattle.etc_manifest.specs.Taken.{takes_entries}
use Rattle.etc_manifest.proofs.TakenLemmas.{taken_short}
use Rattle.etc_clean.specs.CleanList.{clean_leaf, clean_name}
use Rattle.etc_clean.specs.Farm.{placed}
use Rattle.etc_clean.specs.Names.{place}
use Rattle.etc_farm.specs.declared.etc_plan.EtcPlan.{EtcPlan}
use Rattle.etc_farm.specs.EtcPart.{IsEtcPlanOf, clean_too_long, entries_too_many, etc_part, etc_too_long, items_in, items_of, refusal_in, takes_etc}
use Rattle.etc_farm.specs.Lists.{first_list, is_clean_long, list_long}
use Rattle.etc_farm.proofs.EtcLemmas.{list_within}
use Rattle.etc_farm.proofs.OrderLemmas.{first_is}

-- ---- what is wrong with an entry is no fault of the host

module _ (name : Name) (why : HostFault) where
  direct_fault : (b : Bool) (target : Option (List ℕ)) → cond b (Err (Entry name)) (direct_kind name target) ≡ Err (Host why) → ⊥
  direct_fault true target is = cc
  direct_fault false None is = cc
  direct_fault false (Some target) is = cc

  owned_fault : (bytes : List ℕ) (mode : ℕ) (uid gid : Option ℕ) → owned_kind name bytes mode uid gid ≡ Err (Host why) → ⊥
  owned_fault bytes mode None gid is = cc
  owned_fault bytes mode (Some uid) None is = cc
  owned_fault bytes mode (Some uid) (Some gid) is = cc

  copied_fault : (owners : OwnerIds) (mode : ℕ) (bytes uid gid : Option (List ℕ)) → copied_by owners name mode bytes uid gid ≡ Err (Host why) → ⊥
  copied_fault owners mode None uid gid is = cc
  copied_fault owners mode (Some bytes) None gid is = cc
  copied_fault owners mode (Some bytes) (Some uid) None is = cc
  copied_fault owners mode (Some bytes) (Some uid) (Some gid) is = owned_fault bytes mode (owner_id owners.users uid) (owner_id owners.groups gid) is

  module _ (has : Name → Bool) (leaves : Leaves) (folder : List ℕ) (owners : OwnerIds) where
    with_fault : (mode : Option Mode) → kind_with has leaves folder owners name mode ≡ Err (Host why) → ⊥
    with_fault None is = cc
    with_fault (Some DirectSymlink) is = direct_fault (has_long_owner has leaves folder name) (short_target leaves (path_in folder name)) is
    with_fault (Some (Bits mode)) is =
        let parts = parts_of has leaves folder name in
        copied_fault owners mode parts.bytes parts.uid parts.gid is

    by_fault : (text : Option (Option (List ℕ))) → kind_by has leaves folder owners name text ≡ Err (Host why) → ⊥
    by_fault None is = cc
    by_fault (Some text) is = with_fault (option_and_then mode_of text) is

  item_fault : (b : Bool) (kind : Result ItemKind ManifestFault) → (kind ≡ Err (Host why) → ⊥) → cond b (Err (Reserved name)) (with_place name kind) ≡ Err (Host why) → ⊥
  item_fault true kind none is = cc
  item_fault false (Ok kind) none is = cc
  item_fault false (Err fault) none is = none (ap kind_only is)
    where
      kind_only : Result Item ManifestFault → Result ItemKind ManifestFault
      kind_only (Ok item) = Ok item.kind
      kind_only (Err why) = Err why

manifest_fault : (leaves : Leaves) (system : Name) (owners : OwnerIds) (why : HostFault) → manifest_of leaves system owners ≡ Err (Host why) → ⊥
manifest_fault leaves system owners why is =
    let first = first_refused leaves system owners (Host why) is in
    let name = first.0 in
    let has : Name → Bool = has_leaf leaves (etc_folder system) in
    item_fault name why (is_reserved name) (kind_of has leaves (etc_folder system) owners name)
    (by_fault name why has leaves (etc_folder system) owners (companion has leaves (etc_folder system) name (codes ".mode"))) first.1.refused

-- ---- so that a manifest is read where nothing is refused

-- neither is a content that is taken
none_taken : (leaves : Leaves) (system : Name) (owners : OwnerIds) (items : List Item) → IsSystemPath system → manifest_of leaves system owners ≡ Ok items → is_clean_long leaves ≡ false →
    (q : Name) → (takes_etc leaves system q && is_long leaves q) ≡ false
none_taken leaves system owners items named is short q = by (takes_entries leaves system q) (is_name q (place clean_name)) refl refl
  where
    by : (entry list : Bool) → takes_entries leaves system q ≡ entry → is_name q (place clean_name) ≡ list → ((entry || list) && is_long leaves q) ≡ false
    by true list taken at = taken_short leaves system owners items named is q taken
    by false true none at = ap (is_long leaves) (name_exact q (place clean_name) at) ∙ short
    by false false none at = refl

pub none_too_long : (leaves : Leaves) (system : Name) (owners : OwnerIds) → IsSystemPath system → (etc_part system owners).refusal leaves ≡ None → etc_too_long leaves system ≡ None
none_too_long leaves system owners named free =
    let rest = (option_or_parts (entries_too_many leaves system) (option_or (refusal_in (manifest_of leaves system owners)) (clean_too_long leaves)) free).1 in
    let parts = option_or_parts (refusal_in (manifest_of leaves system owners)) (clean_too_long leaves) rest in
    by (manifest_of leaves system owners) refl parts.0 (list_within leaves parts.1)
  where
    by : (wanted : Result (List Item) ManifestFault) → manifest_of leaves system owners ≡ wanted → refusal_in wanted ≡ None → is_clean_long leaves ≡ false → etc_too_long leaves system ≡ None
    by (Ok items) is none short =
        ap (λ o. too_many LeafBytes (option_map (length_at leaves) o))
        (none_found (λ q. takes_etc leaves system q && is_long leaves q) (keys leaves) (none_taken leaves system owners items named is short))
    by (Err (Many count)) is none short = absurd (cc)
    by (Err (Reserved place)) is none short = absurd (cc)
    by (Err (Entry place)) is none short = absurd (cc)
    by (Err (Owner place)) is none short = absurd (cc)
    by (Err (Host why)) is none short = absurd (manifest_fault leaves system owners why is)

-- ---- what a plan puts too long

module _ (system : Name) (leaves : Leaves) (plan : EtcPlan) (is : IsEtcPlanOf system leaves plan) where
  items_are : items_of system plan.owners leaves ≡ plan.manifest
  items_are = ap items_in is.wanted

  first_put : put_at (place clean_name) (clean_leaf is.prepared.names) ≡ put_at (place clean_name) (first_list plan.manifest leaves)
  first_put = ap (put_at (place clean_name)) (first_is plan.manifest leaves is.prepared.names (is.prepared.names_are leaves is.sorted))

  last_put : plan.prepared.last ≡ put_at (place clean_name) (clean_leaf (placed plan.manifest leaves))
  last_put = let leaf = is.prepared.last leaves is.sorted in let at = is.prepared.last_at in λ i. record { at = at i; leaf = leaf i }

  -- the link at `static` has no content, so that the lists alone can be too long
  pub plan_long : (last : LeafPut) (first : List LeafPut) → last ≡ plan.prepared.last → first ≡ plan.prepared.first → long_with (long_put last) first ≡ list_long (items_of system plan.owners leaves) leaves
  plan_long last first is_last is_first =
      (λ i. long_with (long_put (is_last i)) (is_first i))
      ∙ ap (long_with (long_put plan.prepared.last)) is.prepared.first
      ∙ (λ i. first_long (long_put (first_put i)) (long_put (last_put i)))
      ∙ ap (first_long (long_put (put_at (place clean_name) (first_list plan.manifest leaves)))) (sym (long_alone (long_put (put_at (place clean_name) (clean_leaf (placed plan.manifest leaves))))))
      ∙ ap (λ (items : List Item). list_long items leaves) (sym items_are)
