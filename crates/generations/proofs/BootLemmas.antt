-- The system that a machine boots into is the one that the profile names.
use Rattle.std.proofs.Common.{◌≡◌, ◌&&◌, ◌<◌, ◌^◌, ◌++◌, ℕ, true, false, not, cond, List, codes, Option, None, Some, IfSome, is_some, option_and_then, refl, sym, ap, subst, ◌∙◌, inl, inr, arith}
use Rattle.std.proofs.lemmas.Bool.{and_from, and_parts, both_ways, cases_Bool}
use Rattle.std.proofs.lemmas.Option.{none-some}
use Rattle.std.specs.Cmp.Lexicographic.{same_text, nat_list_eq_equiv}
use Rattle.std.specs.FinMap.{get, get-retain_keys}
use Rattle.host_trait.specs.declared.leaf.LeafKind.{LeafKind}
use Rattle.host_trait.specs.declared.leaf.LeafKind.TheVariants.{File, Link}
use Rattle.host_trait.specs.Reboot.{blank, is_in_run, outlasts, rebooted, rebooted_with_blank, run_folder}
use Rattle.host_trait.specs.World.{Leaves, WorldState, is_elsewhere, stage}
use Rattle.host_trait.proofs.FirstNames.{elsewhere_of}
use Rattle.host_trait.proofs.Places.{bytes_exact}
use Rattle.host_trait.proofs.Seen.{other_of}
use Rattle.host_trait.proofs.Sound.{get_other}
use Rattle.switch_names.specs.Names.{Name}
use Rattle.switch_parts.proofs.LeafLemmas.{not_below}
use Rattle.tree_put.specs.Put.{AreApart}
use Rattle.tree_put.proofs.PutLemmas.{apart_ne}
use Rattle.generations.specs.declared.gens.Gens.{Gens}
use Rattle.generations.specs.Boot.{BootStaysLaw, NamedLaw, OldOrNewLaw, boot_system, current}
use Rattle.generations.specs.Gens.{IsGensOf, listed_at}
use Rattle.generations.specs.Goal.{HasSameLinks, is_current, is_link}
use Rattle.generations.specs.Places.{IsCurrent, Names, generation_at, is_number, link_name, link_path, profile}
use Rattle.generations.proofs.Apart.{link_apart, one_link, profile_apart}
use Rattle.generations.proofs.GoalLemmas.{greatest_passes, not_zero}
use Rattle.generations.proofs.Numbers.{below_bound, greatest_is, greatest_same, small_number, stands_at_number}
use Rattle.generations.proofs.SetLaws.{generation_of}

-- ---- the current generation

link_there : (o : Option LeafKind) (text : List ℕ) → is_link o text ≡ true → o ≡ Some (Link text)
link_there None text is = absurd (both_ways _ refl is)
link_there (Some (File bytes mode uid gid)) text is = absurd (both_ways _ refl is)
link_there (Some (Link target)) text is = ap (λ t. Some (Link t)) (same_text target text (sym is))

module _ (leaves : Leaves) where
  is_current_of : (n : ℕ) → IsCurrent leaves n → is_current leaves n ≡ true
  is_current_of n is =
      and_from (is_some (generation_at leaves n)) (is_link (get leaves profile) (link_name n)) is.stands
      (ap (λ o. is_link o (link_name n)) is.linked ∙ nat_list_eq_equiv.refl (link_name n))

  pub current_of : (n : ℕ) → is_current leaves n ≡ true → IsCurrent leaves n
  current_of n is =
      let parts = and_parts (is_some (generation_at leaves n)) (is_link (get leaves profile) (link_name n)) is in
      record { linked = link_there (get leaves profile) (link_name n) parts.1; stands = parts.0 }

  -- the current generation is the one that is
  pub current_is : (n : ℕ) → IsCurrent leaves n → current leaves ≡ n
  unfolding current
  current_is n is = greatest_is (is_current leaves) (2 ^ 32) n (below_bound n number) (is_current_of n is) above
    where
      number : is_number n ≡ true
      number = stands_at_number leaves n is.stands

      above : (k : ℕ) → n < k → is_current leaves k ≡ false
      above k more = elim (cases_Bool (is_current leaves k)) [
        | inl also ↦
            let other = current_of k also in
            let text : link_name n ≡ link_name k = (let e : Some (Link (link_name n)) ≡ Some (Link (link_name k)) = sym is.linked ∙ other.linked in cc) in
            let one = one_link n k (small_number n number) (small_number k (stands_at_number leaves k other.stands)) text in
            absurd (omega (arith, one, more))
        | inr none ↦ none
      ]

  target_there : (o : Option (Option Name)) (system : Name) → option_and_then (λ target. target) o ≡ Some system → o ≡ Some (Some system)
  target_there None system is = absurd (none-some system is)
  target_there (Some None) system is = absurd (none-some system is)
  target_there (Some (Some target)) system is = ap Some is

  booted_named : (system : Name) → Names leaves system → boot_system leaves ≡ Some system
  booted_named system names =
      ap (λ n. option_and_then (λ (target : Option Name). target) (generation_at leaves n)) (current_is names.number names.current)
      ∙ ap (option_and_then (λ (target : Option Name). target)) names.named

  named_booted : (system : Name) → boot_system leaves ≡ Some system → Names leaves system
  unfolding current
  named_booted system is =
      let there = target_there (generation_at leaves (current leaves)) system is in
      let some = not_zero (current leaves) (stands_at_number leaves (current leaves) (ap (λ (o : Option (Option Name)). is_some o) there)) in
      record { number = current leaves; current = current_of (current leaves) (greatest_passes (is_current leaves) (2 ^ 32) some); named = there }

pub named_law : NamedLaw
named_law leaves system = (booted_named leaves system, named_booted leaves system)

-- ---- the old system or the new

pub old_or_new_law : OldOrNewLaw
old_or_new_law system w m (inr named) = inr ((named_law m.leaves system).0 named)
old_or_new_law system w m (inl same) = inl (by (boot_system w.leaves) (boot_system m.leaves) refl refl)
  where
    by : (old new : Option Name) → boot_system w.leaves ≡ old → boot_system m.leaves ≡ new → boot_system m.leaves ≡ boot_system w.leaves
    by (Some other) new was is = (named_law m.leaves other).0 ((same other).1 ((named_law w.leaves other).1 was)) ∙ sym was
    by None (Some other) was is = absurd (none-some other (sym was ∙ (named_law w.leaves other).0 ((same other).0 ((named_law m.leaves other).1 is))))
    by None None was is = is ∙ sym was

-- ---- a reboot

module _ (w m : Leaves) (links : HasSameLinks w m) (same : get m profile ≡ get w profile) where
  current_same : current m ≡ current w
  unfolding current
  current_same = greatest_same (is_current m) (is_current w) (2 ^ 32) (λ k. (λ i. is_some (generation_of m w k (links k) i) && is_link (same i) (link_name k)))

  pub boot_same : boot_system m ≡ boot_system w
  boot_same =
      ap (λ n. option_and_then (λ (target : Option Name). target) (generation_at m n)) current_same
      ∙ ap (option_and_then (λ (target : Option Name). target)) (generation_of m w (current w) (links (current w)))

profile_not_run : is_in_run profile ≡ false
unfolding profile run_folder
profile_not_run = refl

link_not_run : (n : ℕ) → is_in_run (link_path n) ≡ false
unfolding link_path run_folder
link_not_run n = not_below (codes "nix/var/nix/profiles/" ++ link_name n) run_folder refl

module _ (w : WorldState) (q : Name) (out : is_in_run q ≡ false) (apart : AreApart q stage) where
  lasting : outlasts q ≡ true
  lasting = and_from (not (is_in_run q)) (is_elsewhere q) (ap not out) (elsewhere_of q (apart_ne q stage apart))

  rebooted_at : get (rebooted w).leaves q ≡ get w.leaves q
  rebooted_at = get-retain_keys w.leaves outlasts q (λ x same. ap outlasts (sym (bytes_exact q x same))) ∙ ap (λ b. cond b (get w.leaves q) None) lasting

  blank_at : get (rebooted_with_blank w).leaves q ≡ get w.leaves q
  blank_at = get_other (rebooted w).leaves stage q blank (other_of q stage (apart_ne q stage apart)) ∙ rebooted_at

pub boot_stays_law : BootStaysLaw
boot_stays_law w = (
  boot_same w.leaves (rebooted w).leaves (λ n. rebooted_at w (link_path n) (link_not_run n) (link_apart n)) (rebooted_at w profile profile_not_run profile_apart),
  boot_same w.leaves (rebooted_with_blank w).leaves (λ n. blank_at w (link_path n) (link_not_run n) (link_apart n)) (blank_at w profile profile_not_run profile_apart),
)

-- ---- by the generations that are read

module _ (leaves : Leaves) (gens : Gens) (are : IsGensOf leaves gens) where
  pub boot_none : gens.current ≡ None → None ≡ boot_system leaves
  boot_none none = by (boot_system leaves) refl
    where
      by : (o : Option Name) → boot_system leaves ≡ o → None ≡ boot_system leaves
      by None is = sym is
      by (Some system) is =
          let names = (named_law leaves system).1 is in
          absurd (none-some names.number (sym none ∙ are.only_current names.number names.current))

  pub boot_some : (n : ℕ) → gens.current ≡ Some n → option_and_then (λ (target : Option Name). target) (listed_at gens.list n) ≡ boot_system leaves
  boot_some n some =
      let at : IsCurrent leaves n = subst (λ (o : Option ℕ). IfSome o (IsCurrent leaves)) some are.current in
      ap (option_and_then (λ (target : Option Name). target)) (are.exact n)
      ∙ sym (ap (λ k. option_and_then (λ (target : Option Name). target) (generation_at leaves k)) (current_is leaves n at))
