-- An entry whose leaf stands is passed over.
use Rattle.std.proofs.Common.{◌≡◌, ◌<◌, ℕ, ◌+◌, true, false, List, length, get_or, take, Some, refl, sym, ap, ◌∙◌, ⊎_elim}
use Rattle.std.specs.FinMap.{get}
use Rattle.switch_names.specs.Names.{Name, has}
use Rattle.host_trait.specs.World.{WorldState, seen}
use Rattle.host_trait.proofs.Seen.{same_leaf}
use Rattle.tree_put.specs.declared.leaf_put.LeafPut.{LeafPut}
use Rattle.tree_put.specs.Sequence.{with_puts}
use Rattle.etc_manifest.specs.declared.item.Item.{Item}
use Rattle.etc_manifest.specs.Manifest.{IsManifest, entry}
use Rattle.etc_clean.specs.Etc.{leaf_of}
use Rattle.etc_clean.specs.Farm.{at}
use Rattle.etc_clean.specs.Names.{place}
use Rattle.etc_clean.specs.Standing.{is_leaf_of}
use Rattle.etc_farm.specs.Steps.{AreStanding, puts_but}
use Rattle.etc_farm.proofs.EntryLemmas.{entry_of_item}
use Rattle.etc_farm.proofs.MakingLemmas.{entry_next}
use Rattle.etc_farm.proofs.PutLemmas.{IsEntryPut, IsPutOf, entry_puts_before, one_kind, one_name, puts_at}
use Rattle.etc_farm.proofs.StandingLemmas.{standing_leaf}

module _ (items : List Item) (blocked : List Name) (manifest : IsManifest items) (standing : List Name) (i : ℕ) (item : Item) (inside : i < length items) (is : item ≡ get_or items i item) where
  abbrev so_far : WorldState → WorldState
  so_far w = with_puts (puts_but blocked (take i items)) w

  wanted : entry items item.place ≡ Some item.kind
  wanted = entry_of_item items i item manifest inside is

  -- an entry that stood at the beginning stands after the puts of others
  stands_still : (w : WorldState) → AreStanding items standing w → has standing item.place ≡ true → get (so_far w).leaves (place item.place) ≡ Some (leaf_of item.place item.kind)
  stands_still w are there = ⊎_elim
      (λ same. same ∙ standing_leaf item.place item.kind (at w.leaves item.place)
      (ap (λ kind. is_leaf_of item.place kind (at w.leaves item.place)) (sym wanted) ∙ are.stand item.place there))
      (λ (one : IsPutOf (IsEntryPut items (has blocked)) (place item.place) (get (so_far w).leaves (place item.place))).
      let name = one_name one.is.name item.place (sym (ap (λ (put : LeafPut). put.at) one.is.is) ∙ one.there) in
      let kinds = one_kind one.is.kind item.kind (sym one.is.known ∙ ap (entry items) name ∙ wanted) in
      one.stands ∙ ap (λ (put : LeafPut). Some put.leaf) one.is.is ∙ (λ i. Some (leaf_of (name i) (kinds i))))
      (puts_at (IsEntryPut items (has blocked)) (place item.place) (puts_but blocked (take i items)) (entry_puts_before items (has blocked) manifest i) w)

  -- so nothing is to be put
  pub standing_skipped : has blocked item.place ≡ false → (w v : WorldState) → AreStanding items standing w → has standing item.place ≡ true → seen v ≡ seen (so_far w) →
      seen v ≡ seen (with_puts (puts_but blocked (take (i + 1) items)) w)
  standing_skipped free w v are there before =
      entry_next blocked items i item inside is free w (so_far w) refl v
      (before ∙ ap seen (sym (same_leaf (place item.place) (leaf_of item.place item.kind) (so_far w) (stands_still w are there))))
