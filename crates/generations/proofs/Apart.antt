-- The profile, the generations' links and the stage stand apart.
use Rattle.std.proofs.Common.{◌≡◌, ◌≢◌, ◌⊎◌, ℕ, ◌+◌, ◌^◌, ◌<◌, ◌≤◌, Bool, true, false, ◌&&◌, ◌||◌, ◌==◌, nat_lt, List, [], ◌∷◌, ◌++◌, codes, length, refl, sym, ap, subst, ◌∙◌, inl, inr, arith, length-append}
use Rattle.std.proofs.lemmas.List.{append_cancel_left, append_cancel_right}
use Rattle.std.proofs.lemmas.Fmt.{decimal_injective}
use Rattle.std.specs.Fmt.{decimal}
use Rattle.switch_names.specs.Path.{is_below}
use Rattle.host_trait.specs.World.{is_path, stage}
use Rattle.tree_put.specs.Put.{AreApart}
use Rattle.generations.specs.Goal.{goal_place}
use Rattle.generations.specs.Places.{link_name, link_path, profile}
use Rattle.std.proofs.Math.Bool.{and-false}

not_shorter : (m n : ℕ) → n ≤ m → nat_lt m n ≡ false
not_shorter m n h = grind arith

-- a longer path lies above no shorter one
too_long : (p q : List ℕ) → length p ≤ length q → is_below p q ≡ false
too_long p q h = ap (λ b. b && (Rattle.std.specs.List.starts_with Rattle.std.proofs.Common.nat_eq p q && (Rattle.std.specs.List.slice_index p (length q) == 47))) (not_shorter (length q) (length p) h)

pub profile_apart : AreApart profile stage
unfolding profile stage
profile_apart = record { other = refl; line = refl }

pub goal_apart : AreApart goal_place stage
unfolding goal_place stage
goal_apart = record { other = refl; line = refl }

link_length : (n : ℕ) → 28 ≤ length (link_path n)
unfolding link_path
link_length n = omega arith

link_not_below_stage : (n : ℕ) → is_below (link_path n) stage ≡ false
unfolding link_path stage
link_not_below_stage n = and-false _

stage_short : length stage ≡ 23
unfolding stage
stage_short = refl

profile_short : length profile ≡ 27
unfolding profile
profile_short = refl

pub link_not_stage : (n : ℕ) → is_path (link_path n) stage ≡ false
unfolding link_path stage
link_not_stage n = refl

pub link_apart : (n : ℕ) → AreApart (link_path n) stage
link_apart n = record {
  other = link_not_stage n;
  line = ap (λ b. b || is_below stage (link_path n)) (link_not_below_stage n) ∙ too_long stage (link_path n) (omega (arith, link_length n, stage_short));
}

link_not_below_profile : (n : ℕ) → is_below (link_path n) profile ≡ false
unfolding link_path profile
link_not_below_profile n = and-false _

link_not_profile : (n : ℕ) → is_path (link_path n) profile ≡ false
unfolding link_path profile
link_not_profile n = refl

profile_not_link : (n : ℕ) → is_path profile (link_path n) ≡ false
unfolding link_path profile
profile_not_link n = refl

pub link_profile : (n : ℕ) → AreApart (link_path n) profile
link_profile n = record {
  other = link_not_profile n;
  line = ap (λ b. b || is_below profile (link_path n)) (link_not_below_profile n) ∙ too_long profile (link_path n) (omega (arith, link_length n, profile_short));
}

pub profile_link : (n : ℕ) → AreApart profile (link_path n)
profile_link n = record {
  other = profile_not_link n;
  line = ap (λ b. is_below profile (link_path n) || b) (link_not_below_profile n) ∙ ap (λ b. b || false) (too_long profile (link_path n) (omega (arith, link_length n, profile_short)));
}

pub one_link : (m n : ℕ) → m < 2 ^ 64 → n < 2 ^ 64 → link_name m ≡ link_name n → m ≡ n
one_link m n small_m small_n e = decimal_injective m n small_m small_n (append_cancel_right _ _ (codes "-link") (append_cancel_left (codes "system-") _ _ e))

pub one_link_path : (m n : ℕ) → m < 2 ^ 64 → n < 2 ^ 64 → link_path m ≡ link_path n → m ≡ n
unfolding link_path
one_link_path m n small_m small_n e = one_link m n small_m small_n (append_cancel_left (codes "nix/var/nix/profiles/") _ _ e)
