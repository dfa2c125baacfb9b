-- What the profile's part owns begins as the profile's link does, and is among what it looks at.
use Rattle.std.proofs.Common.{◌≡◌, ◌≢◌, ◌⊎◌, ℕ, ◌^◌, ◌<◌, Bool, true, false, ◌&&◌, ◌||◌, nat_eq, nat_lt, ◌++◌, codes, drop, length, refl, sym, ap, subst, ◌∙◌, inl, inr, ⊎_elim, arith}
use Rattle.std.proofs.lemmas.Bool.{both_ways, cases_Bool, or_left, or_right, or_from}
use Rattle.std.proofs.lemmas.Bool.Decides.{Decides-eqb}
use Rattle.std.proofs.lemmas.Slice.Eq.{starts_is}
use Rattle.std.specs.Cmp.Lexicographic.{same_text}
use Rattle.std.specs.List.{starts_with}
use Rattle.switch_names.proofs.Below.{below_both, front_is_parent}
use Rattle.switch_names.specs.Names.{Name}
use Rattle.switch_names.specs.Path.{IsParentOf, is_below}
use Rattle.switch_parts.specs.Store.{is_in_store}
use Rattle.switch_parts.proofs.LeafLemmas.{BeginApart, not_line}
use Rattle.host_trait.specs.World.{is_in_line, is_path, stage}
use Rattle.generations.proofs.DigitLemmas.{digits_no_slash}
use Rattle.generations.proofs.Numbers.{small_number}
use Rattle.generations.specs.Places.{is_number, link_name, link_path, profile, profiles}
use Rattle.generations.specs.ProfilePart.{owns_profile, reads_profile}

or_either : (a b : Bool) → a || b ≡ true → (a ≡ true) ⊎ (b ≡ true)
or_either true b is = inl refl
or_either false b is = inr is

-- what is owned begins as the profile's link does
pub owned_begins : (q : Name) → owns_profile q ≡ true → q ≡ codes "nix/var/nix/profiles/system" ++ drop 27 q
unfolding profile
owned_begins q own = elim (cases_Bool (is_path q profile)) [
  | inl is ↦ subst (λ x. x ≡ codes "nix/var/nix/profiles/system" ++ drop 27 x) (sym (same_text q profile (sym is))) refl
  | inr other ↦
      let begins : starts_with nat_eq q (codes "nix/var/nix/profiles/system-") ≡ true = sym (ap (λ b. b || starts_with nat_eq q (codes "nix/var/nix/profiles/system-")) other) ∙ own in
      let is : q ≡ codes "nix/var/nix/profiles/system-" ++ drop 28 q = (starts_is Decides-eqb q (codes "nix/var/nix/profiles/system-") true (sym begins)).0 refl in
      subst (λ x. x ≡ codes "nix/var/nix/profiles/system" ++ drop 27 x) (sym is) refl
]

-- a test that fails at all that begins as the profile's link does fails at each place that is owned
pub owned_fails : (test : Name → Bool) → ((rest : Name) → test (codes "nix/var/nix/profiles/system" ++ rest) ≡ false) → (q : Name) → owns_profile q ≡ true → test q ≡ false
owned_fails test fails q own = subst (λ x. test x ≡ false) (sym (owned_begins q own)) (fails (drop 27 q))

pub profile_owned : owns_profile profile ≡ true
unfolding profile
profile_owned = refl

pub link_owned : (n : ℕ) → owns_profile (link_path n) ≡ true
unfolding profile link_path
link_owned n = refl

pub stage_not_owned : owns_profile stage ≡ false
unfolding profile stage
stage_not_owned = refl

pub stage_unread : reads_profile stage ≡ false
unfolding profiles stage
stage_unread = refl

-- no place that is owned is one that isn't
pub owned_other : (p q : Name) → owns_profile p ≡ true → owns_profile q ≡ false → p ≢ q
owned_other p q own none same = both_ways _ none (subst (λ x. owns_profile x ≡ true) same own)

-- all that lies below the folder of the profiles is looked at
below_read : (q : Name) → is_below q profiles ≡ true → reads_profile q ≡ true
below_read q below =
    or_left (is_path q profiles || is_in_line q profiles) (is_in_line q stage)
    (or_right (is_path q profiles) (is_in_line q profiles) (or_left (is_below q profiles) (is_below profiles q) below))

above_read : (q : Name) → is_below profiles q ≡ true → reads_profile q ≡ true
above_read q above =
    or_left (is_path q profiles || is_in_line q profiles) (is_in_line q stage)
    (or_right (is_path q profiles) (is_in_line q profiles) (or_right (is_below q profiles) (is_below profiles q) above))

folder_read : (q : Name) → q ≡ profiles → reads_profile q ≡ true
unfolding profiles
folder_read q is = subst (λ x. reads_profile x ≡ true) (sym is) refl

long : (rest : Name) → nat_lt 20 (length (codes "nix/var/nix/profiles/system" ++ rest)) ≡ true
long rest = grind arith

-- what is owned lies below the folder of the profiles
owned_below : (q : Name) → owns_profile q ≡ true → is_below q profiles ≡ true
unfolding profiles
owned_below q own = subst (λ x. is_below x profiles ≡ true) (sym (owned_begins q own)) (ap (λ b. b && true) (long (drop 27 q)))

pub owned_read : (q : Name) → owns_profile q ≡ true → reads_profile q ≡ true
owned_read q own = below_read q (owned_below q own)

-- what is in line with a name in that folder is looked at
line_read : (at : Name) → IsParentOf at profiles → (q : Name) → is_in_line q at ≡ true → reads_profile q ≡ true
line_read at parent q line = ⊎_elim
    (λ below. below_read q (below_both q at profiles below parent.below))
    (λ above. ⊎_elim (λ same. folder_read q same) (λ higher. above_read q higher) (parent.above q above))
    (or_either (is_below q at) (is_below at q) line)

profile_parent : IsParentOf profile profiles
unfolding profile profiles
profile_parent = front_is_parent profile profiles (codes "system") refl refl

pub profile_line_read : (q : Name) → is_in_line q profile ≡ true → reads_profile q ≡ true
profile_line_read q line = line_read profile profile_parent q line

pub stage_line_read : (q : Name) → is_in_line q stage ≡ true → reads_profile q ≡ true
stage_line_read q line = or_right (is_path q profiles || is_in_line q profiles) (is_in_line q stage) line

link_parent : (n : ℕ) → n < 2 ^ 64 → IsParentOf (link_path n) profiles
unfolding link_path profiles
link_parent n small = front_is_parent (link_path n) profiles (link_name n) refl (digits_no_slash n (codes "-link") small refl)

pub link_line_read : (n : ℕ) → is_number n ≡ true → (q : Name) → is_in_line q (link_path n) ≡ true → reads_profile q ≡ true
link_line_read n number q line = line_read (link_path n) (link_parent n (small_number n number)) q line

-- a path that begins apart from the folder of the profiles and from the stage isn't looked at
pub unread : (q : Name) → is_path q profiles ≡ false → BeginApart q profiles → BeginApart q stage → reads_profile q ≡ false
unread q other folder staged = or_from _ _ (or_from _ _ other (not_line q profiles folder)) (not_line q stage staged)

-- nothing below these folders is looked at
pub run_unread : (rest : Name) → reads_profile (codes "run/" ++ rest) ≡ false
unfolding profiles stage
run_unread rest = unread (codes "run/" ++ rest) refl (record { first = refl; second = refl }) (record { first = refl; second = refl })

pub etc_unread : (rest : Name) → reads_profile (codes "etc/" ++ rest) ≡ false
unfolding profiles stage
etc_unread rest = unread (codes "etc/" ++ rest) refl (record { first = refl; second = refl }) (record { first = refl; second = refl })

pub boot_unread : (rest : Name) → reads_profile (codes "boot/" ++ rest) ≡ false
unfolding profiles stage
boot_unread rest = unread (codes "boot/" ++ rest) refl (record { first = refl; second = refl }) (record { first = refl; second = refl })

-- what isn't looked at isn't owned
pub unowned : (q : Name) → reads_profile q ≡ false → owns_profile q ≡ false
unowned q none = elim (cases_Bool (owns_profile q)) [
  | inl own ↦ absurd (both_ways _ none (owned_read q own))
  | inr is ↦ is
]

begins_unstored : (rest : Name) → is_in_store (codes "nix/var/nix/profiles/system" ++ rest) ≡ false
unfolding is_in_store
begins_unstored rest = refl

-- nothing in the store is owned
pub store_unowned : (q : Name) → is_in_store q ≡ true → owns_profile q ≡ false
store_unowned q is = elim (cases_Bool (owns_profile q)) [
  | inl own ↦ absurd (both_ways _ (owned_fails is_in_store begins_unstored q own) is)
  | inr none ↦ none
]
