-- What stands of a farm stays while the farm is made.
use Rattle.std.proofs.Common.{◌≡◌, ◌||◌, not, true, false, List, [], ◌∷◌, Option, None, Some, is_some, refl, sym, ap, ◌∙◌}
use Rattle.std.proofs.lemmas.Bool.{both_ways, false_from_ne_true, or_left, or_right}
use Rattle.switch_names.specs.Names.{Name, has, is_name}
use Rattle.host_trait.specs.declared.leaf.LeafKind.{LeafKind}
use Rattle.host_trait.specs.declared.leaf.LeafKind.TheVariants.{Link}
use Rattle.host_trait.specs.World.{Leaves, WorldState, seen, with_leaf, without_leaf}
use Rattle.host_trait.proofs.Places.{itself}
use Rattle.etc_manifest.specs.declared.item.Item.{Item}
use Rattle.etc_manifest.specs.declared.item.ItemKind.{ItemKind}
use Rattle.etc_manifest.specs.Manifest.{IsManifest, entry}
use Rattle.etc_manifest.specs.Place.{is_reserved}
use Rattle.etc_clean.specs.declared.sorting.Sorted.{Sorted}
use Rattle.etc_clean.specs.CleanList.{clean_leaf, clean_name, clean_of}
use Rattle.etc_clean.specs.Etc.{Farm, is_owned, leaf_of, static_name}
use Rattle.etc_clean.specs.Farm.{at, is_entry, is_ours}
use Rattle.etc_clean.specs.Names.{place}
use Rattle.etc_clean.specs.Standing.{is_leaf_of, is_standing}
use Rattle.etc_clean.proofs.FarmLemmas.{entry_is}
use Rattle.etc_clean.proofs.KeepsLemmas.{inserted, removed}
use Rattle.etc_clean.proofs.NameLemmas.{clean_reserved, not_reserved_other, static_reserved}
use Rattle.etc_clean.proofs.StandingLemmas.{leaf_same}
use Rattle.etc_farm.specs.FarmPart.{CanApply}
use Rattle.etc_farm.specs.Making.{begun, cleared}
use Rattle.etc_farm.specs.Steps.{AreStanding, without_names}
use Rattle.etc_farm.proofs.EntryLemmas.{at_seen, manifest_free}
use Rattle.etc_farm.proofs.RemovalLemmas.{gone_parts_of}

-- what stands is the entry's leaf
pub standing_leaf : (q : Name) (kind : ItemKind) (leaf : Option LeafKind) → is_leaf_of q (Some kind) leaf ≡ true → leaf ≡ Some (leaf_of q kind)
standing_leaf q kind None is = absurd (both_ways false refl is)
standing_leaf q kind (Some leaf) is = ap (λ l. Some l) (leaf_same leaf (leaf_of q kind) is)

-- it is an entry
entry_there : (q : Name) (kind : Option ItemKind) (leaf : Option LeafKind) → is_leaf_of q kind leaf ≡ true → is_some kind ≡ true
entry_there q None leaf is = absurd (both_ways false refl is)
entry_there q (Some kind) leaf is = refl

pub known_there : (items : List Item) (leaves : Leaves) (q : Name) → is_standing items leaves q ≡ true → is_entry items q ≡ true
known_there items leaves q is = sym (entry_is items q) ∙ entry_there q (entry items q) (at leaves q) is

standing_as : (items : List Item) (w v : Leaves) (q : Name) → at v q ≡ at w q → is_standing items w q ≡ true → is_standing items v q ≡ true
standing_as items w v q same is = ap (λ leaf. is_leaf_of q (entry items q) leaf) same ∙ is

-- ---- once the first list stands and what is gone has been removed

pub without_other : (names : List Name) (w : WorldState) (q : Name) → has names q ≡ false → at (without_names names w).leaves q ≡ at w.leaves q
without_other [] w q other = refl
without_other (x ∷ names) w q other =
    without_other names (without_leaf (place x) w) q (false_from_ne_true (has names q) (λ there. both_ways _ other (or_right (is_name q x) (has names q) there)))
    ∙ (removed w.leaves x).others q (λ same. both_ways _ other (or_left (is_name q x) (has names q) (ap (λ n. is_name n x) same ∙ itself x)))

module _ (farm : Farm) (manifest : IsManifest farm.items) (found : Sorted) (w : WorldState) (can : CanApply farm found w) (names : List Name) where
  stays : (q : Name) → is_entry farm.items q ≡ true → at (cleared names farm.target found.gone w).leaves q ≡ at w.leaves q
  stays q known =
      let free : is_reserved q ≡ false = manifest_free farm.items manifest q known in
      let not_gone : has found.gone q ≡ false = false_from_ne_true (has found.gone q) (λ there.
      both_ways _ (gone_parts_of (is_some (at w.leaves q)) (is_reserved q) (is_entry farm.items q) (is_ours (clean_of w.leaves) q (at w.leaves q)) ((can.sorted.gone.exact q).0 there)).1 known) in
      let listed = with_leaf (place clean_name) (clean_leaf names) w in
      without_other found.gone (begun names farm.target w) q not_gone
      ∙ (inserted listed.leaves static_name (Link farm.target)).others q (not_reserved_other q static_name free static_reserved)
      ∙ (inserted w.leaves clean_name (clean_leaf names)).others q (not_reserved_other q clean_name free clean_reserved)

  pub standing_cleared : (u : WorldState) → seen u ≡ seen (cleared names farm.target found.gone w) → AreStanding farm.items found.standing u
  standing_cleared u before = record {
    sorted = can.sorted.standing.sorted;
    stand = λ q there.
        let is = (can.sorted.standing.exact q).0 there in
        let known = known_there farm.items w.leaves q is in
        let own : is_owned q ≡ true = or_right (is_name q static_name) (is_name q clean_name || not (is_reserved q)) (or_right (is_name q clean_name) (not (is_reserved q)) (ap (λ b. not b) (manifest_free farm.items manifest q known))) in
        standing_as farm.items w.leaves u.leaves q (at_seen (cleared names farm.target found.gone w) u q own before ∙ stays q known) is;
  }
