-- In a sound world no entry is above another.
use Rattle.std.proofs.Common.{◌≡◌, ◌||◌, ℕ, true, List, ◌∷◌, ◌++◌, IsSome, Ok, sym, ap, ◌∙◌, inl, inr, append_assoc}
use Rattle.std.specs.FinMap.{get}
use Rattle.std.proofs.lemmas.Bool.{and_parts, cases_Bool}
use Rattle.switch_names.specs.Names.{has}
use Rattle.switch_names.specs.Path.{is_below, slash}
use Rattle.switch_names.specs.SystemName.{IsSystemPath}
use Rattle.switch_names.proofs.Below.{below_front, rest_below}
use Rattle.host_trait.specs.World.{IsSound, Leaves}
use Rattle.host_trait.proofs.Places.{none_or_present}
use Rattle.etc_manifest.specs.declared.item.Item.{Item}
use Rattle.etc_manifest.specs.Entries.{entries_of, has_leaf, manifest_of}
use Rattle.etc_manifest.specs.Manifest.{AreApart, places}
use Rattle.etc_manifest.specs.Owners.{OwnerIds}
use Rattle.etc_manifest.specs.Place.{etc_folder, path_in}
use Rattle.etc_manifest.proofs.LeafLemmas.{entries_exact}
use Rattle.etc_manifest.proofs.WantedLemmas.{places_are}

-- what lies below another does so in a folder too
below_in : (folder name other : List ℕ) → is_below name other ≡ true → is_below (path_in folder name) (path_in folder other) ≡ true
below_in folder name other is =
    let cut = rest_below name other is in
    ap (λ n. is_below (folder ++ slash ∷ n) (path_in folder other)) cut.1
    ∙ ap (λ t. is_below t (path_in folder other)) (sym (append_assoc folder (slash ∷ other) (slash ∷ cut.0)))
    ∙ below_front (path_in folder other) cut.0

module _ (leaves : Leaves) (system : List ℕ) (owners : OwnerIds) where
  stands : (name : List ℕ) → IsSystemPath system → has (entries_of leaves system) name ≡ true → IsSome (get leaves (path_in (etc_folder system) name))
  stands name named there =
      (and_parts (has_leaf leaves (etc_folder system) name) _ (sym (entries_exact leaves system named name) ∙ there)).0

  pub are_apart : (items : List Item) → IsSystemPath system → IsSound leaves → manifest_of leaves system owners ≡ Ok items → AreApart (places items)
  are_apart items named sound is = λ name other first second. elim (cases_Bool (is_below name other)) [
    | inl below ↦
        let path : List ℕ = path_in (etc_folder system) name in
        let above : List ℕ = path_in (etc_folder system) other in
        let there = stands name named (sym (ap (λ ns. has ns name) (places_are leaves system owners items is)) ∙ first) in
        let under = stands other named (sym (ap (λ ns. has ns other) (places_are leaves system owners items is)) ∙ second) in
        absurd (none_or_present (get leaves path) (sound.apart above under path (ap (λ b. b || is_below above path) (below_in (etc_folder system) name other below))) there)
    | inr other_line ↦ other_line
  ]
