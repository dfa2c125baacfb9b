-- The leaves whose paths pass a test, as a reboot keeps them.
use Rattle.std.proofs.Common.{◌≡◌, ◌⊎◌, ◌&&◌, ℕ, not, Bool, true, false, cond, List, [], ◌∷◌, Option, None, Some, IsSome, refl, sym, ap, subst, ◌∙◌, inl, inr}
use Rattle.std.proofs.lemmas.Bool.{both_ways}
use Rattle.std.specs.BTreeMap.{is_at}
use Rattle.std.specs.FinMap.{from_entries, get, get-retain_keys, insert, retain_keys}
use Rattle.std.specs.List.{filter}
use Rattle.std.specs.Map.{lookup}
use Rattle.std.specs.declared.cmp.Ordering.TheVariants.{Equal}
use Rattle.host_trait.specs.declared.leaf.LeafKind.{LeafKind}
use Rattle.host_trait.specs.Reboot.{is_in_run, outlasts, run_folder}
use Rattle.host_trait.specs.World.{IsSound, Leaves, bytes_cmp, is_elsewhere, stage}
use Rattle.host_trait.proofs.FirstNames.{elsewhere_of}
use Rattle.host_trait.proofs.Places.{alike, at_same, bytes_exact, found, itself, none_or_present, same_or_other}
use Rattle.host_trait.proofs.Sound.{get_other}

module _ (p : List ℕ → Bool) where
  alike_keys : (q x : List ℕ) → bytes_cmp q x ≡ Equal → p x ≡ p q
  alike_keys q x is = ap p (sym (bytes_exact q x is))

  none_either : (b : Bool) (o : Option LeafKind) → o ≡ None → cond b o None ≡ None
  none_either true o is = is
  none_either false o is = refl

  -- what is left of some entries has a value where they have one and the path passes
  kept_at : (es : List (List ℕ × LeafKind)) (q : List ℕ) → lookup (is_at (bytes_cmp q)) (filter (λ e. p e.0) es) ≡ cond (p q) (lookup (is_at (bytes_cmp q)) es) None
  kept_at [] q = sym (none_either (p q) None refl)
  kept_at (e ∷ es) q = by (p e.0) refl (same_or_other q e.0) (kept_at es q)
    where
      here : q ≡ e.0 → is_at (bytes_cmp q) e.0 ≡ true
      here same = subst (λ x. is_at (bytes_cmp q) x ≡ true) same (itself q)

      by : (b : Bool) → p e.0 ≡ b → (q ≡ e.0) ⊎ (is_at (bytes_cmp q) e.0 ≡ false) → lookup (is_at (bytes_cmp q)) (filter (λ e. p e.0) es) ≡ cond (p q) (lookup (is_at (bytes_cmp q)) es) None →
          lookup (is_at (bytes_cmp q)) (cond b (e ∷ filter (λ e. p e.0) es) (filter (λ e. p e.0) es)) ≡ cond (p q) (cond (is_at (bytes_cmp q) e.0) (Some e.1) (lookup (is_at (bytes_cmp q)) es)) None
      by true is (inl same) rest =
          ap (λ b. cond b (Some e.1) (lookup (is_at (bytes_cmp q)) (filter (λ e. p e.0) es))) (here same)
          ∙ sym (ap (λ b. cond b (cond (is_at (bytes_cmp q) e.0) (Some e.1) (lookup (is_at (bytes_cmp q)) es)) None) (ap p same ∙ is) ∙ ap (λ b. cond b (Some e.1) (lookup (is_at (bytes_cmp q)) es)) (here same))
      by true is (inr other) rest =
          ap (λ b. cond b (Some e.1) (lookup (is_at (bytes_cmp q)) (filter (λ e. p e.0) es))) other ∙ rest
          ∙ sym (ap (λ b. cond (p q) (cond b (Some e.1) (lookup (is_at (bytes_cmp q)) es)) None) other)
      by false is (inl same) rest =
          rest ∙ ap (λ b. cond b (lookup (is_at (bytes_cmp q)) es) None) (ap p same ∙ is)
          ∙ sym (ap (λ b. cond b (cond (is_at (bytes_cmp q) e.0) (Some e.1) (lookup (is_at (bytes_cmp q)) es)) None) (ap p same ∙ is))
      by false is (inr other) rest = rest ∙ sym (ap (λ b. cond (p q) (cond b (Some e.1) (lookup (is_at (bytes_cmp q)) es)) None) other)

  pub kept_keys : (es kept : List (List ℕ × LeafKind)) → kept ≡ filter (λ e. p e.0) es → from_entries {R = bytes_cmp} kept ≡ retain_keys (from_entries es) p
  kept_keys es kept is = alike _ _ (λ q.
      found kept q ∙ ap (λ (fs : List (List ℕ × LeafKind)). lookup (is_at (bytes_cmp q)) fs) is ∙ kept_at es q ∙ ap (λ o. cond (p q) o None) (sym (found es q))
      ∙ sym (get-retain_keys (from_entries es) p q (alike_keys q)))

  was_there : (b : Bool) (o : Option LeafKind) → IsSome (cond b o None) → IsSome o
  was_there true o is = is
  was_there false o is = absurd (none_or_present {X = LeafKind} None refl is)

  pub sound_kept : (m : Leaves) → IsSound m → IsSound (retain_keys m p)
  sound_kept m sound =
      let was : (q : List ℕ) → IsSome (get (retain_keys m p) q) → IsSome (get m q) = λ q is. was_there (p q) (get m q) (subst (λ o. IsSome o) (get-retain_keys m p q (alike_keys q)) is) in
      record {
        paths = λ q is. sound.paths q (was q is);
        apart = λ q is r line. get-retain_keys m p r (alike_keys r) ∙ none_either (p r) (get m r) (sound.apart q (was q is) r line);
      }

stage_stays : is_in_run stage ≡ false
unfolding stage run_folder
stage_stays = refl

and_true : (a b : Bool) → b ≡ true → (a && b) ≡ a
and_true true b is = is
and_true false b is = refl

-- a leaf put at the stage before a reboot that keeps the stage is one put there after a reboot
pub staged_before : (m : Leaves) (at : List ℕ) (leaf : LeafKind) → at ≡ stage → retain_keys (insert m at leaf) (λ q. not (is_in_run q)) ≡ insert (retain_keys m outlasts) stage leaf
staged_before m at leaf is =
    ap (λ x. retain_keys (insert m x leaf) (λ q. not (is_in_run q))) is
    ∙ alike _ _ (λ q. get-retain_keys (insert m stage leaf) (λ q. not (is_in_run q)) q (alike_keys (λ q. not (is_in_run q)) q) ∙ by q (same_or_other q stage))
  where
    by : (q : List ℕ) → (q ≡ stage) ⊎ (is_at (bytes_cmp q) stage ≡ false) → cond (not (is_in_run q)) (get (insert m stage leaf) q) None ≡ get (insert (retain_keys m outlasts) stage leaf) q
    by q (inl same) =
        ap (λ x. cond (not (is_in_run x)) (get (insert m stage leaf) x) None) same ∙ ap (λ b. cond (not b) (get (insert m stage leaf) stage) None) stage_stays
        ∙ at_same m stage leaf ∙ sym (at_same (retain_keys m outlasts) stage leaf) ∙ ap (λ x. get (insert (retain_keys m outlasts) stage leaf) x) (sym same)
    by q (inr other) =
        let elsewhere = elsewhere_of q (λ same. both_ways _ other (subst (λ x. is_at (bytes_cmp q) x ≡ true) same (itself q))) in
        ap (λ o. cond (not (is_in_run q)) o None) (get_other m stage q leaf other)
        ∙ ap (λ b. cond b (get m q) None) (sym (and_true (not (is_in_run q)) (is_elsewhere q) elsewhere))
        ∙ sym (get_other (retain_keys m outlasts) stage q leaf other ∙ get-retain_keys m outlasts q (alike_keys outlasts q))
