-- What stands where a farm was put is left by putting it again.
use Rattle.std.proofs.Common.{◌≡◌, ℕ, All, true, false, List, [], ◌∷◌, ◌++◌, Result, Ok, Err, not, position, option_map, refl, sym, ap, ◌∙◌}
use Rattle.std.proofs.lemmas.Bool.{and_parts, both_ways}
use Rattle.std.proofs.lemmas.List.Elements.{All-tail}
use Rattle.std.specs.FinMap.{get}
use Rattle.std.specs.List.{list_any}
use Rattle.std.specs.Prelude.{length, nat_lt}
use Rattle.switch_names.specs.declared.name_fault.NameFault.TheVariants.{Byte, Dot}
use Rattle.switch_names.specs.Names.{Name, has}
use Rattle.switch_names.specs.Path.{IsPath, is_dots, is_no_path_byte, names_of, slash}
use Rattle.switch_names.specs.SystemName.{IsSystemPath}
use Rattle.switch_names.specs.Texts.{is_empty}
use Rattle.switch_names.proofs.Faultless.{HasNone-from_sought, no_place}
use Rattle.switch_names.proofs.Positions.{All-from_no_position}
use Rattle.host_trait.specs.World.{IsSound, Leaves, WorldState}
use Rattle.etc_manifest.specs.declared.item.Item.{Item}
use Rattle.etc_manifest.specs.declared.manifest_fault.ManifestFault.{ManifestFault}
use Rattle.etc_manifest.specs.Companion.{is_companion}
use Rattle.etc_manifest.specs.Entries.{has_leaf, manifest_of}
use Rattle.etc_manifest.specs.Owners.{OwnerIds}
use Rattle.etc_manifest.specs.Place.{etc_folder, path_in}
use Rattle.etc_manifest.proofs.LeafLemmas.{entries_exact}
use Rattle.etc_manifest.proofs.WantedLemmas.{places_are}
use Rattle.etc_clean.specs.Etc.{Farm, etc}
use Rattle.etc_clean.specs.Keeps.{AreFree, AreLines, Keeps}
use Rattle.etc_clean.specs.Names.{name_of, place}
use Rattle.etc_clean.proofs.AgainLemmas.{again_law}
use Rattle.etc_clean.proofs.CleanLemmas.{no_line_feed}
use Rattle.etc_clean.proofs.KeepsLemmas.{end_law}
use Rattle.etc_farm.specs.EtcPart.{EtcAgainLaw, items_in, items_of}
use Rattle.etc_farm.specs.FarmPart.{FarmAgainLaw, farm_of, farm_part}
use Rattle.etc_farm.proofs.EtcLemmas.{items_free}
use Rattle.etc_farm.proofs.PlaceLemmas.{name_of_place, owned_place, place_of_owned, store_read}
use Rattle.etc_farm.proofs.StoreLemmas.{manifest_same, store_not_owned}

-- ---- a farm

module _ (farm : Farm) (w v : WorldState) (free : AreFree farm.items) (lines : AreLines farm.items)
    (end : (path : Name) → (farm_part farm).owns path ≡ true → get v.leaves path ≡ etc farm w.leaves (name_of path)) where
  again_keeps : Keeps farm.items w.leaves v.leaves
  again_keeps = again_law farm w.leaves v.leaves free lines (λ q own. end (place q) (owned_place q own) ∙ ap (etc farm w.leaves) (name_of_place q))

  pub again_end : (path : Name) → (farm_part farm).owns path ≡ true → etc farm v.leaves (name_of path) ≡ etc farm w.leaves (name_of path)
  again_end path own = end_law farm w.leaves v.leaves again_keeps (name_of path) (place_of_owned path own).1

pub farm_again_law : FarmAgainLaw
farm_again_law farm w v free lines done path own = done.end path own ∙ sym (again_end farm w v free lines done.end path own)

-- ---- what a system wants has no line feed in its names

all_after : (P : ℕ → Type 0) (front rest : List ℕ) → All P (front ++ rest) → All P rest
all_after P [] rest all = all
all_after P (x ∷ front) rest all = all_after P front rest (All-tail P x (front ++ rest) all)

path_bytes : (path : List ℕ) → IsPath path → All (λ byte. is_no_path_byte byte ≡ false) path
path_bytes path is =
    All-from_no_position is_no_path_byte path
    (no_place Byte (position is_no_path_byte path)
    (HasNone-from_sought (list_any is_empty (names_of path)) (nat_lt 4096 (length path)) (option_map Byte (position is_no_path_byte path)) (list_any is_dots (names_of path)) Dot is).no_byte)

module _ (leaves : Leaves) (sound : IsSound leaves) (system : Name) (named : IsSystemPath system) (owners : OwnerIds) where
  entry_lines : (items : List Item) → manifest_of leaves system owners ≡ Ok items → AreLines items
  entry_lines items is q known =
      let there = and_parts (has_leaf leaves (etc_folder system) q) (not (is_companion (has_leaf leaves (etc_folder system)) q))
      (sym (ap (λ (names : List Name). has names q) (places_are leaves system owners items is) ∙ entries_exact leaves system named q) ∙ known) in
      let path = sound.paths (path_in (etc_folder system) q) there.0 in
      no_line_feed q
      (all_after (λ byte. is_no_path_byte byte ≡ false) (slash ∷ []) q
      (all_after (λ byte. is_no_path_byte byte ≡ false) (etc_folder system) (slash ∷ q) (path_bytes (path_in (etc_folder system) q) path)))

  lines_in : (r : Result (List Item) ManifestFault) → manifest_of leaves system owners ≡ r → AreLines (items_in r)
  lines_in (Ok items) is = entry_lines items is
  lines_in (Err why) is = λ q known. absurd (both_ways false refl known)

  pub items_lines : AreLines (items_of system owners leaves)
  items_lines = lines_in (manifest_of leaves system owners) refl

pub etc_again_law : EtcAgainLaw
etc_again_law system owners w v named sound done path own =
    let farm = farm_of system (items_of system owners w.leaves) in
    let manifest = manifest_same w.leaves v.leaves (λ p inside. done.beside p (store_read p inside) (store_not_owned p inside)) system named owners in
    done.end path own
    ∙ sym (ap (λ items. etc (farm_of system items) v.leaves (name_of path)) (ap items_in manifest)
    ∙ again_end farm w v (items_free system owners w.leaves) (items_lines w.leaves sound system named owners) done.end path own)
