-- What stays where the places of the boot menu do, and those of the profile.
use Rattle.std.proofs.Common.{◌≡◌, ℕ, IsSome, sym, subst, ◌∙◌, inl, inr, ⊎_elim}
use Rattle.generations.proofs.ProfileApart.{link_owned, profile_owned}
use Rattle.generations.proofs.ProfileApart as profile_apart
use Rattle.generations.proofs.MoveLemmas.{move_is}
use Rattle.generations.proofs.SetLaws.{generation_of}
use Rattle.generations.specs.declared.gens.Gens.{Gens}
use Rattle.generations.specs.Places.{IsCurrent, Names, generation_at, link_path, profile}
use Rattle.generations.specs.declared.moving.Move.{Move}
use Rattle.generations.specs.Move.{move_part}
use Rattle.generations.specs.ProfilePart.{owns_profile, reads_profile}
use Rattle.generations.specs.Set.{NamesOldOrNew}
use Rattle.host_trait.specs.World.{Leaves, WorldState}
use Rattle.switch_names.specs.Names.{Name}
use Rattle.switch_parts.proofs.Parts.{false_by, not_stage}
use Rattle.switch_parts.specs.Part.{IsOnly, IsPart}
use Rattle.boot_entries.specs.BootPart.{boot_part, reads_boot}
use Rattle.boot_entries.specs.DefaultLaws.{IsSameMenu, IsSameProfile}
use Rattle.boot_entries.specs.Places.{owns_boot}
use Rattle.boot_entries.proofs.OwnLemmas.{owned_read}
use Rattle.boot_entries.proofs.PartedLemmas.{menu_unread, profile_unread}

-- ---- what one part has changed isn't the other's

pub menu_kept : (move : Move) (system : Name) (gens : Gens) → IsPart (boot_part gens) → (w m : WorldState) → IsOnly (move_part move system) w m → IsSameMenu w.leaves m.leaves
menu_kept move system gens is w m only q own =
    only.leaves q (false_by (owns_profile q) (reads_profile q) (profile_apart.owned_read q) (menu_unread q own)) (not_stage (boot_part gens) is q own)

pub profile_kept : (move : Move) (system : Name) (gens : Gens) (w m : WorldState) → IsOnly (boot_part gens) w m → IsSameProfile w.leaves m.leaves
profile_kept move system gens w m only q own =
    only.leaves q (false_by (owns_boot q) (reads_boot q) (owned_read q) (profile_unread q own)) (not_stage (move_part move system) (move_is move system) q own)

-- ---- where the places of the profile are the same, the same generations stand

pub same_back : (one other : Leaves) → IsSameProfile one other → IsSameProfile other one
same_back one other same q own = sym (same q own)

module _ (one other : Leaves) (same : IsSameProfile one other) where
  pub generation_kept : (n : ℕ) → generation_at other n ≡ generation_at one n
  generation_kept n = generation_of other one n (same (link_path n) (link_owned n))

  pub current_kept : (n : ℕ) → IsCurrent one n → IsCurrent other n
  current_kept n is = record { linked = same profile profile_owned ∙ is.linked; stands = subst (λ o. IsSome o) (sym (generation_kept n)) is.stands }

  names_kept : (system : Name) → Names one system → Names other system
  names_kept system names = record { number = names.number; current = current_kept names.number names.current; named = generation_kept names.number ∙ names.named }

pub names_on : (system : Name) (w u m : WorldState) → IsSameProfile u.leaves m.leaves → NamesOldOrNew system w u → NamesOldOrNew system w m
names_on system w u m same named = ⊎_elim
    (λ old. inl (λ s. (
      λ there. (old s).0 (names_kept m.leaves u.leaves (same_back u.leaves m.leaves same) s there),
      λ before. names_kept u.leaves m.leaves same s ((old s).1 before),
    )))
    (λ new. inr (names_kept u.leaves m.leaves same system new))
    named
