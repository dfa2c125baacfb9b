-- Files of the boot menu are put one after another, and what goes is removed so.
use Rattle.std.proofs.Common.{◌≡◌, ◌⊎◌, ℕ, zero, suc, ◌<◌, ◌^◌, true, false, List, [], ◌∷◌, ◌++◌, codes, map, take, refl, sym, ap, subst, ◌∙◌, inl, inr, ⊎_elim, arith}
use Rattle.std.proofs.lemmas.Bool.{both_ways, cases_Bool, or_from}
use Rattle.std.specs.FinMap.{get, remove, gets}
use Rattle.std.specs.Fmt.{decimal}
use Rattle.std.specs.List.{AllByRecursion, list_any}
use Rattle.std.specs.Option.{option_to_list}
use Rattle.switch_names.proofs.Below.{front_is_parent}
use Rattle.switch_names.specs.Names.{Name}
use Rattle.switch_names.specs.Path.{IsParentOf, is_below}
use Rattle.switch_parts.proofs.LeafLemmas.{not_below, not_line}
use Rattle.host_trait.specs.World.{IsClear, WorldState, is_in_line, is_path, seen, stage}
use Rattle.tree_put.specs.Put.{AreApart}
use Rattle.tree_put.specs.declared.leaf_put.LeafPut.{LeafPut}
use Rattle.tree_put.specs.Sequence.{ArePutsApart, IsPutting, with_puts}
use Rattle.tree_put.proofs.SequenceLemmas.{apart_by, clear_after, stage_after}
use Rattle.generations.proofs.DigitLemmas.{digits_no_slash}
use Rattle.boot_entries.specs.declared.boot_texts.BootFile.{BootFile}
use Rattle.boot_entries.specs.declared.boot_texts.BootTexts.{BootTexts}
use Rattle.boot_entries.specs.Places.{entries_folder, entry_name, entry_path, loader_path}
use Rattle.boot_entries.specs.Steps.{IsEntryPlace, boot_files, boot_put, boot_puts}

-- ---- the places are apart

pub entry_parent : (n : ℕ) → n < 2 ^ 32 → IsParentOf (entry_path n) entries_folder
unfolding entry_path entries_folder
entry_parent n small = front_is_parent (entry_path n) entries_folder (entry_name n) refl (digits_no_slash n (codes ".conf") (omega (arith, small)) refl)

not_folder : (n : ℕ) → is_path (entry_path n) entries_folder ≡ false
unfolding entry_path entries_folder
not_folder n = refl

pub itself : (p : Name) → is_path p p ≡ true
itself p = Rattle.std.specs.Cmp.Lexicographic.nat_list_eq_equiv.refl p

folder_above : (n : ℕ) → is_below entries_folder (entry_path n) ≡ false
unfolding entry_path entries_folder
folder_above n = not_below entries_folder (entry_path n) refl

entry_below : (m n : ℕ) → m < 2 ^ 32 → is_below (entry_path m) (entry_path n) ≡ false
entry_below m n small = elim (cases_Bool (is_below (entry_path m) (entry_path n))) [
  | inl below ↦ absurd (⊎_elim
      (λ same. both_ways _ (not_folder n) (subst (λ x. is_path (entry_path n) x ≡ true) same (itself (entry_path n))))
      (λ above. both_ways _ (folder_above n) above)
      ((entry_parent m small).above (entry_path n) below))
  | inr away ↦ away
]

entry_entry : (m n : ℕ) → m < 2 ^ 32 → n < 2 ^ 32 → is_in_line (entry_path m) (entry_path n) ≡ false
entry_entry m n small_m small_n = or_from _ _ (entry_below m n small_m) (entry_below n m small_n)

entry_loader : (n : ℕ) → is_in_line (entry_path n) loader_path ≡ false
unfolding entry_path loader_path
entry_loader n = not_line (entry_path n) loader_path (record { first = refl; second = refl })

loader_entry : (n : ℕ) → is_in_line loader_path (entry_path n) ≡ false
unfolding entry_path loader_path
loader_entry n = not_line loader_path (entry_path n) (record { first = refl; second = refl })

loader_loader : is_in_line loader_path loader_path ≡ false
unfolding loader_path
loader_loader = refl

-- a place of what is put: a generation's entry, or what the boot loader reads first
abbrev pub IsBootPlace : Name → Type 0
IsBootPlace at = (at ≡ loader_path) ⊎ IsEntryPlace at

-- a property of paths that the loader's and each entry's has
pub each_place : (P : Name → Type 0) → P loader_path → ((n : ℕ) → n < 2 ^ 32 → P (entry_path n)) → (p : Name) → IsBootPlace p → P p
each_place P loader entry p place = ⊎_elim (λ is. subst P (sym is) loader) (λ is. subst P (sym is.2) (entry is.0 is.1)) place

pub boot_line : (p q : Name) → IsBootPlace p → IsBootPlace q → is_in_line p q ≡ false
boot_line p q first second =
    each_place (λ x. is_in_line x q ≡ false)
    (each_place (λ x. is_in_line loader_path x ≡ false) loader_loader (λ n small. loader_entry n) q second)
    (λ m small. each_place (λ x. is_in_line (entry_path m) x ≡ false) (entry_loader m) (λ n also. entry_entry m n small also) q second)
    p first

loader_apart : AreApart loader_path stage
unfolding loader_path stage
loader_apart = record { other = refl; line = refl }

entry_apart : (n : ℕ) → AreApart (entry_path n) stage
unfolding entry_path stage
entry_apart n = record { other = refl; line = not_line (entry_path n) stage (record { first = refl; second = refl }) }

loader_under : is_in_line stage loader_path ≡ false
unfolding loader_path stage
loader_under = refl

pub entry_under : (n : ℕ) → is_in_line stage (entry_path n) ≡ false
unfolding entry_path stage
entry_under n = not_line stage (entry_path n) (record { first = refl; second = refl })

pub place_apart : (p : Name) → IsBootPlace p → AreApart p stage
place_apart = each_place (λ p. AreApart p stage) loader_apart (λ n small. entry_apart n)

pub stage_apart : (p : Name) → IsBootPlace p → is_in_line stage p ≡ false
stage_apart = each_place (λ p. is_in_line stage p ≡ false) loader_under (λ n small. entry_under n)

-- ---- files as puts

abbrev pub AreBootPlaces : List BootFile → Type 0
AreBootPlaces files = AllByRecursion (λ (file : BootFile). IsBootPlace file.at) files

-- the world after files are put
abbrev pub with_files : List BootFile → WorldState → WorldState
with_files files w = with_puts (map boot_put files) w

pub both_all : (P : BootFile → Type 0) (xs ys : List BootFile) → AllByRecursion P xs → AllByRecursion P ys → AllByRecursion P (xs ++ ys)
both_all P [] ys first second = second
both_all P (x ∷ xs) ys first second = (first.0, both_all P xs ys first.1 second)

-- what holds of the places of files holds of those of their puts
pub puts_all : (P : Name → Type 0) (files : List BootFile) → AllByRecursion (λ (file : BootFile). P file.at) files → AllByRecursion (λ (put : LeafPut). P put.at) (map boot_put files)
puts_all P [] all = tt
puts_all P (file ∷ files) all = (all.0, puts_all P files all.1)

first_puts : (files : List BootFile) (k : ℕ) → take k (map boot_put files) ≡ map boot_put (take k files)
first_puts [] zero = refl
first_puts [] (suc k) = refl
first_puts (file ∷ files) zero = refl
first_puts (file ∷ files) (suc k) = ap (λ (puts : List LeafPut). boot_put file ∷ puts) (first_puts files k)

-- the world of a moment among the puts
pub putting_world : (texts : BootTexts) (w m : WorldState) (putting : IsPutting (boot_puts texts) w m) → seen m ≡ seen (with_files (take putting.count (boot_files texts)) w)
putting_world texts w m putting = putting.world ∙ ap (λ (puts : List LeafPut). seen (with_puts puts w)) (first_puts (boot_files texts) putting.count)

-- ---- what is clear stays so

lines_to : (p : Name) → IsBootPlace p → (files : List BootFile) → AreBootPlaces files → AllByRecursion (λ (file : BootFile). is_in_line file.at p ≡ false) files
lines_to p place [] places = tt
lines_to p place (file ∷ files) places = (boot_line file.at p places.0 place, lines_to p place files places.1)

pub files_clear : (files : List BootFile) (p : Name) (w : WorldState) → AreBootPlaces files → IsBootPlace p → IsClear w.leaves p → IsClear (with_files files w).leaves p
files_clear files p w places place clear = clear_after (map boot_put files) p w (puts_all (λ at. is_in_line at p ≡ false) files (lines_to p place files places)) clear

-- the puts of files are apart
pub files_apart : (files : List BootFile) → AreBootPlaces files → ArePutsApart (map boot_put files)
files_apart files places = apart_by IsBootPlace place_apart boot_line (map boot_put files) (puts_all IsBootPlace files places)

pub files_stage : (files : List BootFile) (w : WorldState) → AreBootPlaces files → IsClear w.leaves stage → IsClear (with_files files w).leaves stage
files_stage files w places clear = stage_after (map boot_put files) w (files_apart files places).stage clear
