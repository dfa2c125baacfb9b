-- What is gone is removed name by name.
use Rattle.std.proofs.Common.{◌≡◌, ℕ, zero, suc, ◌&&◌, not, Bool, true, false, List, [], ◌∷◌, map, take, is_some, refl, sym, ap, ◌∙◌}
use Rattle.std.proofs.lemmas.Bool.{both_ways, false_from_ne_true, or_left, or_right}
use Rattle.std.specs.List.{AllByRecursion}
use Rattle.switch_names.specs.Names.{Name, has, is_name}
use Rattle.host_trait.specs.World.{Leaves, WorldState, without_leaf}
use Rattle.host_trait.proofs.Places.{itself}
use Rattle.etc_manifest.specs.declared.item.Item.{Item}
use Rattle.etc_manifest.specs.Place.{is_reserved}
use Rattle.etc_clean.specs.CleanList.{clean_name, clean_of}
use Rattle.etc_clean.specs.Etc.{static_name}
use Rattle.etc_clean.specs.Farm.{at, is_entry, is_gone, is_ours}
use Rattle.etc_clean.specs.Keeps.{AreFree}
use Rattle.etc_clean.specs.Names.{place}
use Rattle.etc_clean.proofs.FarmLemmas.{gone_not_foreign}
use Rattle.etc_clean.proofs.KeepsLemmas.{removed}
use Rattle.etc_clean.proofs.NameLemmas.{clean_reserved, not_reserved_other, static_reserved}
use Rattle.etc_farm.specs.Steps.{IsNoneGone, without_names}
use Rattle.etc_farm.proofs.FarmMoment.{AreGone, IsFarmMoment, IsInnerMoment, IsOwn}
use Rattle.etc_farm.proofs.ClearLemmas.{gone_removed}
use Rattle.etc_farm.proofs.StepLemmas.{moment_self, moment_then, remove_own}

-- the first places are those of the first names
pub first_places : (names : List Name) (n : ℕ) → take n (map place names) ≡ map place (take n names)
first_places [] zero = refl
first_places [] (suc n) = refl
first_places (q ∷ names) zero = refl
first_places (q ∷ names) (suc n) = ap (λ (places : List Name). place q ∷ places) (first_places names n)

-- ---- each is a moment of the farm

pub inner_self : (items : List Item) (w : WorldState) → IsInnerMoment items w w
inner_self items w = record { moment = moment_self items w; fixed_link = refl }

pub inner_then : (items : List Item) (w v m : WorldState) → IsInnerMoment items w v → IsInnerMoment items v m → IsInnerMoment items w m
inner_then items w v m first then = record { moment = moment_then items w v m first.moment then.moment; fixed_link = then.fixed_link ∙ first.fixed_link }

own_kept : (items : List Item) (w m : WorldState) → IsFarmMoment items w m → (names : List Name) → AllByRecursion (IsOwn items w.leaves) names → AllByRecursion (IsOwn items m.leaves) names
own_kept items w m moment [] own = tt
own_kept items w m moment (q ∷ names) own =
    (record { free = own.0.free; new = own.0.new; own = moment.keeps.keeps.foreign q ∙ own.0.own }, own_kept items w m moment names own.1)

module _ (items : List Item) (free : AreFree items) where
  remove_inner : (w : WorldState) (x : Name) → IsOwn items w.leaves x → IsInnerMoment items w (without_leaf (place x) w)
  remove_inner w x own = record {
    moment = remove_own items free w x own;
    fixed_link = (removed w.leaves x).others static_name (λ same. not_reserved_other x static_name own.free static_reserved (sym same));
  }

  pub removing_moment : (names : List Name) (w : WorldState) → AllByRecursion (IsOwn items w.leaves) names → (n : ℕ) → IsInnerMoment items w (without_names (take n names) w)
  removing_moment [] w own zero = inner_self items w
  removing_moment [] w own (suc n) = inner_self items w
  removing_moment (x ∷ names) w own zero = inner_self items w
  removing_moment (x ∷ names) w own (suc n) =
      let first = remove_inner w x own.0 in
      inner_then items w (without_leaf (place x) w) (without_names (take n names) (without_leaf (place x) w)) first
      (removing_moment names (without_leaf (place x) w) (own_kept items w (without_leaf (place x) w) first.moment names own.1) n)

  pub removed_moment : (names : List Name) (w : WorldState) → AllByRecursion (IsOwn items w.leaves) names → IsInnerMoment items w (without_names names w)
  removed_moment [] w own = inner_self items w
  removed_moment (x ∷ names) w own =
      let first = remove_inner w x own.0 in
      inner_then items w (without_leaf (place x) w) (without_names names (without_leaf (place x) w)) first
      (removed_moment names (without_leaf (place x) w) (own_kept items w (without_leaf (place x) w) first.moment names own.1))

-- nothing is gone once all that is has been removed
pub none_left : (items : List Item) (names : List Name) (w : WorldState) → AllByRecursion (λ q. is_reserved q ≡ false) names → AreGone items names w.leaves → IsNoneGone items (without_names names w).leaves
none_left items [] w free are = λ q. false_from_ne_true (is_gone items w.leaves q) (λ gone. both_ways false refl (are q gone))
none_left items (x ∷ names) w free are =
    none_left items names (without_leaf (place x) w) free.1 (gone_removed items w.leaves x names (not_reserved_other x clean_name free.0 clean_reserved) are)

pub own_free : (items : List Item) (leaves : Leaves) (names : List Name) → AllByRecursion (IsOwn items leaves) names → AllByRecursion (λ q. is_reserved q ≡ false) names
own_free items leaves [] own = tt
own_free items leaves (x ∷ names) own = (own.0.free, own_free items leaves names own.1)

-- ---- what is gone may go

pub gone_parts_of : (some reserved known ours : Bool) → ((some && (not reserved && not known)) && ours) ≡ true → (reserved ≡ false) × (known ≡ false)
gone_parts_of true false false ours is = (refl, refl)
gone_parts_of true false true ours is = absurd (both_ways false refl is)
gone_parts_of true true known ours is = absurd (both_ways false refl is)
gone_parts_of false reserved known ours is = absurd (both_ways false refl is)

own_of_gone : (items : List Item) (leaves : Leaves) (q : Name) → is_gone items leaves q ≡ true → IsOwn items leaves q
own_of_gone items leaves q gone =
    let parts = gone_parts_of (is_some (at leaves q)) (is_reserved q) (is_entry items q) (is_ours (clean_of leaves) q (at leaves q)) gone in
    record { free = parts.0; new = parts.1; own = gone_not_foreign items leaves q gone }

pub all_own : (items : List Item) (leaves : Leaves) (names : List Name) → ((q : Name) → has names q ≡ true → is_gone items leaves q ≡ true) → AllByRecursion (IsOwn items leaves) names
all_own items leaves [] are = tt
all_own items leaves (x ∷ names) are =
    (own_of_gone items leaves x (are x (or_left (is_name x x) (has names x) (itself x))), all_own items leaves names (λ q there. are q (or_right (is_name q x) (has names q) there)))

pub own_at : (items : List Item) (w m : WorldState) → IsFarmMoment items w m → (names : List Name) → AllByRecursion (IsOwn items w.leaves) names → AllByRecursion (IsOwn items m.leaves) names
own_at = own_kept
