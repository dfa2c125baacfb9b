-- Neither the profile nor the boot menu looks at what the other owns.
use Rattle.std.proofs.Common.{◌≡◌, ◌≢◌, ◌||◌, ℕ, Bool, true, false, ◌++◌, codes, Option, None, Some, is_some, refl, sym, ap, subst, ◌∙◌, inl, inr}
use Rattle.std.proofs.lemmas.Bool.{both_ways, cases_Bool}
use Rattle.std.specs.Cmp.Lexicographic.{nat_list_eq_equiv, same_text}
use Rattle.generations.proofs.ProfileApart.{boot_unread, owned_fails}
use Rattle.generations.specs.declared.moving.Move.{Move}
use Rattle.generations.specs.Move.{move_part}
use Rattle.generations.specs.ProfilePart.{owns_profile, reads_profile}
use Rattle.generations.specs.declared.gens.Gens.{Gens}
use Rattle.host_trait.specs.World.{is_in_line, is_path, stage}
use Rattle.switch_names.specs.Names.{Name}
use Rattle.switch_parts.proofs.LeafLemmas.{not_line}
use Rattle.switch_parts.specs.Part.{AreParted}
use Rattle.switch_parts.specs.Store.{is_in_store}
use Rattle.boot_entries.specs.BootPart.{boot_part, reads_boot}
use Rattle.boot_entries.specs.Places.{entries_folder, entry_name, entry_path, loader_path, numbered, owns_boot}
use Rattle.boot_entries.specs.Steps.{IsEntryPlace}
use Rattle.boot_entries.proofs.PutLemmas.{IsBootPlace}
use Rattle.boot_entries.proofs.AtEndLemmas.{numbered_is}
use Rattle.boot_entries.proofs.NumberLemmas.{bears_numbered}
use Rattle.boot_entries.proofs.PutLemmas.{each_place}

-- ---- the profile doesn't look at the places of the boot menu

-- what is owned is a place of the boot menu
pub place_of_owned : (q : Name) → owns_boot q ≡ true → IsBootPlace q
place_of_owned q own = elim (cases_Bool (is_path q loader_path)) [
  | inl here ↦ inl (same_text q loader_path (sym here))
  | inr away ↦ inr (by (numbered q) refl (sym (ap (λ b. b || is_some (numbered q)) away) ∙ own))
]
  where
    by : (o : Option ℕ) → numbered q ≡ o → is_some o ≡ true → IsEntryPlace q
    by None number some = absurd (both_ways _ refl some)
    by (Some n) number some = let entry = numbered_is q n number in (n, entry.1, entry.0)

loader_unread : reads_profile loader_path ≡ false
unfolding loader_path
loader_unread = boot_unread (codes "loader/loader.conf")

entry_unread : (n : ℕ) → reads_profile (entry_path n) ≡ false
unfolding entry_path
entry_unread n = boot_unread (codes "loader/entries/" ++ entry_name n)

pub menu_unread : (q : Name) → owns_boot q ≡ true → reads_profile q ≡ false
menu_unread q own = each_place (λ p. reads_profile p ≡ false) loader_unread (λ n small. entry_unread n) q (place_of_owned q own)

-- ---- the boot menu doesn't look at the places of the profile

system_other : (rest : Name) (n : ℕ) → codes "nix/var/nix/profiles/system" ++ rest ≢ entry_path n
unfolding entry_path
system_other rest n same =
    both_ways (is_path (codes "nix/var/nix/profiles/system" ++ rest) (entry_path n)) refl
    (subst (λ x. is_path (codes "nix/var/nix/profiles/system" ++ rest) x ≡ true) same (nat_list_eq_equiv.refl (codes "nix/var/nix/profiles/system" ++ rest)))

system_unnumbered : (rest : Name) → numbered (codes "nix/var/nix/profiles/system" ++ rest) ≡ None
system_unnumbered rest = sym (bears_numbered (codes "nix/var/nix/profiles/system" ++ rest) None (λ n small same. system_other rest n same))

entries_line : (rest : Name) → is_in_line (codes "nix/var/nix/profiles/system" ++ rest) entries_folder ≡ false
unfolding entries_folder
entries_line rest = not_line (codes "nix/var/nix/profiles/system" ++ rest) entries_folder (record { first = refl; second = refl })

loader_line : (rest : Name) → is_in_line (codes "nix/var/nix/profiles/system" ++ rest) loader_path ≡ false
unfolding loader_path
loader_line rest = not_line (codes "nix/var/nix/profiles/system" ++ rest) loader_path (record { first = refl; second = refl })

stage_line : (rest : Name) → is_in_line (codes "nix/var/nix/profiles/system" ++ rest) stage ≡ false
unfolding stage
stage_line rest = not_line (codes "nix/var/nix/profiles/system" ++ rest) stage (record { first = refl; second = refl })

loader_other : (rest : Name) → is_path (codes "nix/var/nix/profiles/system" ++ rest) loader_path ≡ false
unfolding loader_path
loader_other rest = refl

folder_other : (rest : Name) → is_path (codes "nix/var/nix/profiles/system" ++ rest) entries_folder ≡ false
unfolding entries_folder
folder_other rest = refl

store_other : (rest : Name) → is_in_store (codes "nix/var/nix/profiles/system" ++ rest) ≡ false
unfolding is_in_store
store_other rest = refl

none_of : (a b c d e f g : Bool) → a ≡ false → b ≡ false → c ≡ false → d ≡ false → e ≡ false → f ≡ false → g ≡ false → ((a || b) || (c || (d || (e || (f || g))))) ≡ false
none_of a b c d e f g is_a is_b is_c is_d is_e is_f is_g = cc

system_unread : (rest : Name) → reads_boot (codes "nix/var/nix/profiles/system" ++ rest) ≡ false
system_unread rest = none_of _ _ _ _ _ _ _ (loader_other rest) (ap is_some (system_unnumbered rest)) (store_other rest) (folder_other rest) (entries_line rest) (loader_line rest) (stage_line rest)

pub profile_unread : (q : Name) → owns_profile q ≡ true → reads_boot q ≡ false
profile_unread q own = owned_fails reads_boot system_unread q own

-- the two parts are parted
pub are_parted : (move : Move) (system : Name) (gens : Gens) → AreParted (move_part move system) (boot_part gens)
are_parted move system gens = record { first = profile_unread; second = menu_unread; manager = refl }
