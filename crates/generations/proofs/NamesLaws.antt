-- At each moment of a set the profile names what it named, or the system that is set.
use Rattle.std.proofs.Common.{◌≡◌, ◌≢◌, ◌⊎◌, ◌↔◌, ℕ, true, false, nat_eq, List, ◌∷◌, Option, None, Some, IsSome, is_some, refl, sym, ap, subst, ◌∙◌, inl, inr, ⊎_elim}
use Rattle.std.proofs.lemmas.Bool.{cases_Bool, both_ways}
use Rattle.std.specs.Cmp.{eq_by_cmp_equiv}
use Rattle.std.specs.Cmp.Lexicographic.{pointwise, texts_ties}
use Rattle.std.specs.FinMap.{get}
use Rattle.std.specs.Ordering.{eq_by_cmp}
use Rattle.switch_names.specs.Path.{slash}
use Rattle.switch_names.specs.SystemName.{NamesSystem}
use Rattle.host_trait.specs.declared.leaf.LeafKind.{LeafKind}
use Rattle.host_trait.specs.declared.leaf.LeafKind.TheVariants.{File, Link}
use Rattle.host_trait.specs.World.{Leaves, WorldState, bytes_cmp, seen, with_leaf}
use Rattle.host_trait.proofs.Places.{at_same, bytes_total, same_or_other}
use Rattle.host_trait.proofs.Seen.{seen_at, other_of}
use Rattle.host_trait.proofs.Sound.{get_other}
use Rattle.tree_put.proofs.PutLemmas.{apart_ne}
use Rattle.generations.specs.Places.{IsCurrent, Names, generation_at, highest, is_number, is_of, link_name, link_path, link_target, number_after, profile, with_generation, with_profile}
use Rattle.generations.specs.Set.{IsSetMoment, NamesOldOrNew}
use Rattle.generations.proofs.Apart.{profile_apart, profile_link}
use Rattle.generations.proofs.SetLaws.{IsLinked, generation_seen, linked_is, named_there, others_there, profile_keeps, top_of}
use Rattle.generations.proofs.SetLemmas.{kept_generation, new_generation}

-- worlds with the same profile link and the same generations name the same
names_same : (m n : Leaves) → get m profile ≡ get n profile → ((k : ℕ) → IsCurrent m k → generation_at m k ≡ generation_at n k) → (s : List ℕ) → Names m s → Names n s
names_same m n link generations s names =
    let same = generations names.number names.current in
    record {
      number = names.number;
      current = record {
        linked = sym link ∙ names.current.linked;
        stands = subst (λ o. IsSome o) same names.current.stands;
      };
      named = sym same ∙ names.named;
    }

names_seen : (m w : WorldState) → seen m ≡ seen w → (s : List ℕ) → Names m.leaves s → Names w.leaves s
names_seen m w is s names =
    names_same m.leaves w.leaves (seen_at m w is profile (apart_ne _ _ profile_apart)) (λ k current. generation_seen m w k is) s names

text_same : (a b : List ℕ) → pointwise nat_eq a b ≡ true → a ≡ b
text_same a b is = elim (same_or_other a b) [
  | inl same ↦ same
  | inr other ↦ absurd (both_ways _ other (sym (texts_ties a b) ∙ is))
]

pub of_system : (o : Option (Option (List ℕ))) (system : List ℕ) → is_of o system ≡ true → o ≡ Some (Some system)
of_system None system is = absurd (both_ways false refl is)
of_system (Some None) system is = absurd (both_ways false refl is)
of_system (Some (Some target)) system is = ap (λ t. Some (Some t)) (text_same target system is)

-- with the profile's link put the profile names the system
named_after : (system : List ℕ) (w v : WorldState) → IsLinked system w v → Names (with_profile (number_after w.leaves system) v).leaves system
named_after system w v is =
    let n = number_after w.leaves system in
    let after = with_profile n v in
    let there : generation_at after.leaves n ≡ Some (Some system) =
    profile_keeps n n v ∙ ap (generation_at v.leaves) (sym is.number ∙ top_of v.leaves system is.highest_of) ∙ of_system _ system is.highest_of in
    record {
      number = n;
      current = record { linked = at_same v.leaves profile (Link (link_name n)); stands = ap is_some there };
      named = there;
    }

pub link_text : (t u : List ℕ) → Some (Link t) ≡ Some (Link u) → t ≡ u
link_text t u e = cc

none_linked : (o : Option LeafKind) (k : ℕ) → o ≡ None → o ≡ Some (Link (link_name k)) → ⊥
none_linked o k none is = cc

module _ (system : List ℕ) (w : WorldState) (number : is_number (number_after w.leaves system) ≡ true) (names : NamesSystem (slash ∷ system) system) where
  abbrev after : WorldState
  after = with_leaf (link_path (number_after w.leaves system)) (Link (link_target system)) w

  profile_stays : get after.leaves profile ≡ get w.leaves profile
  profile_stays = get_other w.leaves (link_path (number_after w.leaves system)) profile (Link (link_target system)) (other_of _ _ (apart_ne _ _ (profile_link (number_after w.leaves system))))

  -- the profile's link named the new generation already, which didn't stand
  names_new : get w.leaves profile ≡ Some (Link (link_name (number_after w.leaves system))) → Names after.leaves system
  names_new link = let there = named_there system w number names in record {
    number = number_after w.leaves system;
    current = record { linked = profile_stays ∙ link; stands = ap is_some there };
    named = there;
  }

  other_number : (k : ℕ) → (get w.leaves profile ≡ Some (Link (link_name (number_after w.leaves system))) → ⊥) → get w.leaves profile ≡ Some (Link (link_name k)) → k ≢ number_after w.leaves system
  other_number k not_new link same = not_new (link ∙ ap (λ j. Some (Link (link_name j))) same)

  names_old : (get w.leaves profile ≡ Some (Link (link_name (number_after w.leaves system))) → ⊥) → (s : List ℕ) → Names after.leaves s ↔ Names w.leaves s
  names_old not_new s = (
    names_same after.leaves w.leaves profile_stays (λ k current. others_there system w number k (other_number k not_new (sym profile_stays ∙ current.linked))) s,
    names_same w.leaves after.leaves (sym profile_stays) (λ k current. sym (others_there system w number k (other_number k not_new current.linked))) s,
  )

same_link : (target text : List ℕ) → eq_by_cmp bytes_cmp target text ≡ false → Some (Link target) ≡ Some (Link text) → ⊥
same_link target text other e = both_ways _ other (subst (λ t. eq_by_cmp bytes_cmp target t ≡ true) (link_text target text e) ((eq_by_cmp_equiv bytes_total).refl target))

-- whether a leaf is a link with this text
leaf_is : (o : Option LeafKind) (text : List ℕ) → (o ≡ Some (Link text)) ⊎ (o ≡ Some (Link text) → ⊥)
leaf_is None text = inr (λ e. cc)
leaf_is (Some (File bytes mode uid gid)) text = inr (λ e. cc)
leaf_is (Some (Link target)) text = elim (same_or_other target text) [
  | inl same ↦ inl (ap (λ t. Some (Link t)) same)
  | inr other ↦ inr (same_link target text other)
]

names_put : (system : List ℕ) (w : WorldState) → is_number (number_after w.leaves system) ≡ true → NamesSystem (slash ∷ system) system →
    NamesOldOrNew system w (with_leaf (link_path (number_after w.leaves system)) (Link (link_target system)) w)
names_put system w number names = elim (leaf_is (get w.leaves profile) (link_name (number_after w.leaves system))) [
  | inl link ↦ inr (names_new system w number names link)
  | inr not_new ↦ inl (names_old system w number names not_new)
]

pub unchanged : (w : WorldState) (s : List ℕ) → Names w.leaves s ↔ Names w.leaves s
unchanged w s = (λ named. named, λ named. named)

names_link : (system : List ℕ) (w : WorldState) → is_number (number_after w.leaves system) ≡ true → NamesSystem (slash ∷ system) system →
    NamesOldOrNew system w (with_generation system (number_after w.leaves system) w)
names_link system w number names = elim (cases_Bool (is_of (generation_at w.leaves (highest w.leaves)) system)) [
  | inl is ↦ subst (NamesOldOrNew system w) (sym (kept_generation system (number_after w.leaves system) w is)) (inl (unchanged w))
  | inr other ↦ subst (NamesOldOrNew system w) (sym (new_generation system (number_after w.leaves system) w other)) (names_put system w number names)
]

-- what is named in a world is named in one that is equal but for the stage
pub names_seen_too : (system : List ℕ) (w m v : WorldState) → seen m ≡ seen v → NamesOldOrNew system w v → NamesOldOrNew system w m
names_seen_too system w m v is named =
    ⊎_elim
    (λ old. inl (λ s. (λ there. (old s).0 (names_seen m v is s there), λ before. names_seen v m (sym is) s ((old s).1 before))))
    (λ new. inr (names_seen v m (sym is) system new)) named

pub moment_names : (system : List ℕ) (w m : WorldState) → is_number (number_after w.leaves system) ≡ true → NamesSystem (slash ∷ system) system → IsSetMoment system w m → NamesOldOrNew system w m
moment_names system w m number names moment =
    let n = number_after w.leaves system in
    let v = with_generation system n w in
    ⊎_elim
    (λ same. names_seen_too system w m w same (inl (unchanged w)))
    (λ later. ⊎_elim
    (λ link. names_seen_too system w m v link (names_link system w number names))
    (λ both. names_seen_too system w m (with_profile n v) both (inr (named_after system w v (linked_is system w number names))))
    later)
    moment
