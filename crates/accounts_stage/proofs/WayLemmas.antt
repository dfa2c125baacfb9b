-- What is in the way of places, place by place.
use Rattle.std.proofs.Common.{◌≡◌, ◌&&◌, Bool, true, false, cond, List, [], ◌∷◌, None, Some, option_map, refl, ap, ◌∙◌}
use Rattle.std.proofs.lemmas.Bool.{or_from, or_left, or_parts, or_right}
use Rattle.std.specs.FinMap.{get}
use Rattle.std.specs.List.{AllByRecursion, find}
use Rattle.switch_names.specs.Names.{Name}
use Rattle.host_trait.specs.World.{IsClear, Leaves, is_in_line}
use Rattle.tree_put.specs.declared.written_place.WrittenPlace.{WrittenPlace}
use Rattle.tree_put.specs.Put.{is_blocked}
use Rattle.tree_put.specs.WrittenPlace.{in_the_way, is_in_the_way, lacks_content}
use Rattle.tree_put.proofs.BlockedLemmas.{clear_of_free, free_of_clear}
use Rattle.switch_parts.specs.Leaves.{is_near}

-- nothing is in the way of a place
pub record IsFreeAt (leaves : Leaves) (place : WrittenPlace) : Type 0 where
  pub clear : IsClear leaves place.at
  pub content : (place.is_read && lacks_content leaves place.at) ≡ false

module _ (leaves : Leaves) where
  pub each_free : (places : List WrittenPlace) → in_the_way places leaves ≡ None → AllByRecursion (IsFreeAt leaves) places
  each_free [] none = tt
  each_free (place ∷ places) none = by (is_in_the_way leaves place) refl none (each_free places)
    where
      by : (b : Bool) → is_in_the_way leaves place ≡ b → option_map (λ (p : WrittenPlace). p.at) (cond b (Some place) (find (is_in_the_way leaves) places)) ≡ None →
          (in_the_way places leaves ≡ None → AllByRecursion (IsFreeAt leaves) places) → AllByRecursion (IsFreeAt leaves) (place ∷ places)
      by true is none rest = absurd (cc)
      by false is none rest =
          let parts = or_parts (is_blocked leaves place.at) (place.is_read && lacks_content leaves place.at) is in
          (record { clear = clear_of_free leaves place.at parts.0; content = parts.1 }, rest none)

  pub all_free : (places : List WrittenPlace) → AllByRecursion (IsFreeAt leaves) places → in_the_way places leaves ≡ None
  all_free [] free = refl
  all_free (place ∷ places) free =
      ap (λ b. option_map (λ (p : WrittenPlace). p.at) (cond b (Some place) (find (is_in_the_way leaves) places)))
      (or_from (is_blocked leaves place.at) (place.is_read && lacks_content leaves place.at) (free_of_clear leaves place.at free.0.clear) free.0.content)
      ∙ all_free places free.1

-- what is read has a content in another tree as in this one
abbrev pub AreReadAlike : Leaves → Leaves → List WrittenPlace → Type 0
AreReadAlike w m places = AllByRecursion (λ (place : WrittenPlace). place.is_read ≡ true → lacks_content m place.at ≡ lacks_content w place.at) places

content_alike : (b c d : Bool) → (b ≡ true → d ≡ c) → (b && c) ≡ false → (b && d) ≡ false
content_alike true c d same is = same refl ∙ is
content_alike false c d same is = refl

-- where the same stands near some places, nothing is in their way in both
pub same_way : (w m : Leaves) (places : List WrittenPlace) → ((q : Name) → is_near places q ≡ true → get m q ≡ get w q) → AreReadAlike w m places →
    AllByRecursion (IsFreeAt w) places → AllByRecursion (IsFreeAt m) places
same_way w m [] near alike free = tt
same_way w m (place ∷ places) near alike free = (
  record {
    clear = λ q line. near q (or_left (is_in_line q place.at) (is_near places q) line) ∙ free.0.clear q line;
    content = content_alike place.is_read (lacks_content w place.at) (lacks_content m place.at) alike.0 free.0.content;
  },
  same_way w m places (λ q is. near q (or_right (is_in_line q place.at) (is_near places q) is)) alike.1 free.1,
)
