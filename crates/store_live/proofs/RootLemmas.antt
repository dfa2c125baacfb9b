-- What roots a store path, and to what one refers, by what was found.
use Rattle.std.proofs.Common.{◌≡◌, ◌≢◌, ◌⊎◌, ◌↔◌, ℕ, ◌∷◌, Bool, true, false, IsTrue, List, [], Option, None, Some, is_none, is_some, refl, sym, ap, subst, inl, inr, ◌==◌, cond, append-nil}
use Rattle.std.specs.FinMap.{get}
use Rattle.host_trait.specs.declared.leaf.LeafKind.{LeafKind}
use Rattle.host_trait.specs.declared.leaf.LeafKind.TheVariants.{File, Link}
use Rattle.host_trait.specs.World.{Leaves, WorldState, listed}
use Rattle.store_names.specs.Occurs.{Stands}
use Rattle.switch_names.specs.declared.name_fault.NameFault.{NameFault}
use Rattle.switch_names.specs.Names.{Name, has}
use Rattle.switch_names.specs.Path.{slash}
use Rattle.switch_names.specs.SystemName.{system_fault, system_path}
use Rattle.store_live.specs.Grown.{AreAll, AtSome, IsForeign, IsIn, IsLinkedAt, IsReferredAt, leaf_text, link_target}
use Rattle.store_live.specs.Live.{IsRoot, Refers, text_of}
use Rattle.store_live.specs.StorePaths.{IsPlace, IsStored, is_store_path}
use Rattle.store_live.proofs.PathLemmas.{is_in_listed, listed_is, no_stage}

no_none : (o : Option NameFault) → is_none o ≡ false → o ≢ None
no_none None is = absurd cc
no_none (Some x) is = λ no. absurd (let none : Some x ≡ None = no in cc)

some_fault : (o : Option NameFault) → o ≢ None → is_none o ≡ false
some_fault None other = absurd (other refl)
some_fault (Some x) other = refl

-- the leaf of a target
link_of : (o : Option LeafKind) (target : List ℕ) → link_target o ≡ Some target → o ≡ Some (Link target)
link_of None target is = absurd cc
link_of (Some (File bytes mode uid gid)) target is = absurd cc
link_of (Some (Link t)) target is = let same : t ≡ target = cc in ap (λ x. Some (Link x)) same

leaf_of : (o : Option LeafKind) (text : List ℕ) → leaf_text o ≡ Some text → (leaf : LeafKind) × (o ≡ Some leaf) × (text_of leaf ≡ text)
leaf_of None text is = absurd cc
leaf_of (Some leaf) text is = (leaf, refl, let same : text_of leaf ≡ text = cc in same)

module _ (skips : Name → Bool) (w : WorldState) (stored places : List Name) (all_stored : AreAll stored (IsStored w.leaves)) (all_places : AreAll places (IsPlace w.leaves)) where
  abbrev pub IsFound : Name → Type 0
  IsFound x = (AtSome stored IsForeign x ⊎ IsIn stored [] (Some w.manager.loaded) x) ⊎ AtSome places (IsLinkedAt skips w.leaves stored) x

  -- what is found are the roots
  pub roots_are : (x : Name) → IsFound x ↔ (IsStored w.leaves x × IsRoot skips w x)
  roots_are x = (found, λ root. by root.0 root.1)
    where
      found : IsFound x → IsStored w.leaves x × IsRoot skips w x
      found (inl (inl at)) =
          let there = subst (λ y. has stored y ≡ true) (sym at.holds.same) at.listed in
          ((all_stored x).0 there, IsRoot.Foreign (no_none (system_fault x) at.holds.foreign))
      found (inl (inr one)) =
          let text : w.manager.loaded ≡ one.bytes = let is : Some w.manager.loaded ≡ Some one.bytes = one.there in cc in
          ((all_stored x).0 one.occurs.listed, IsRoot.Loaded (subst (λ t. Stands x t) (sym text) one.occurs.stands))
      found (inr at) =
          let named = at.holds.named in (
            (all_stored x).0 named.occurs.listed,
            IsRoot.Linked at.place named.bytes ((all_places at.place).0 at.listed).other at.holds.counted (link_of (get w.leaves at.place) named.bytes named.there) named.occurs.stands,
          )

      by : IsStored w.leaves x → IsRoot skips w x → IsFound x
      by there (IsRoot.Loaded stands) = inl (inr record { bytes = w.manager.loaded; there = refl; occurs = record { listed = (all_stored x).1 there; stands = stands } })
      by there (IsRoot.Linked q target other counted link stands) = inr record {
        place = q;
        listed = (all_places q).1 record { stands = ap is_some link; other = other };
        holds = record { counted = counted; named = record { bytes = target; there = ap link_target link; occurs = record { listed = (all_stored x).1 there; stands = stands } } };
      }
      by there (IsRoot.Foreign foreign) = inl (inl record { place = x; listed = (all_stored x).1 there; holds = record { same = refl; foreign = some_fault (system_fault x) foreign } })

-- to what a store path refers
pub references_are : (leaves : Leaves) (stored : List Name) (path : Name) → is_store_path path ≡ true → (x : Name) →
    AtSome (listed path leaves) (IsReferredAt leaves stored) x ↔ (IsTrue (has stored x) × Refers leaves path x)
references_are leaves stored path is x = (found, by)
  where
    found : AtSome (listed path leaves) (IsReferredAt leaves stored) x → IsTrue (has stored x) × Refers leaves path x
    found at =
        let leaf = leaf_of (get leaves at.place) at.holds.bytes at.holds.there in (
          at.holds.occurs.listed,
          record {
            at = at.place;
            inside = (listed_is path leaves at.place at.listed).0;
            leaf = leaf.0;
            stands = leaf.1;
            named = subst (λ t. Stands (slash ∷ x) t) (sym leaf.2) at.holds.occurs.stands;
          },
        )

    by : IsTrue (has stored x) × Refers leaves path x → AtSome (listed path leaves) (IsReferredAt leaves stored) x
    by both =
        let refers = both.1 in
        record {
          place = refers.at;
          listed = is_in_listed path leaves refers.at refers.inside record { stands = ap is_some refers.stands; other = no_stage path refers.at is refers.inside };
          holds = record { bytes = text_of refers.leaf; there = ap leaf_text refers.stands; occurs = record { listed = both.0; stands = refers.named } };
        }

-- ---- what a link to a system names

-- a text has the bytes of the system's path that it names
stands_there : (target : List ℕ) → Stands (system_path target) target
stands_there [] = record { before = []; after = []; whole = refl }
stands_there (first ∷ rest) = by (first == slash)
  where
    by : (b : Bool) → Stands (cond b rest (first ∷ rest)) (first ∷ rest)
    by true = record { before = first ∷ []; after = []; whole = ap (λ l. first ∷ l) (sym (append-nil rest)) }
    by false = record { before = []; after = []; whole = ap (λ l. first ∷ l) (sym (append-nil rest)) }

pub target_stands : (target system : List ℕ) → system_path target ≡ system → Stands system target
target_stands target system named = subst (λ x. Stands x target) named (stands_there target)
