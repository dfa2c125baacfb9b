-- A reboot loses nothing that an activation looks at.
use Rattle.std.proofs.Common.{◌≡◌, ◌≢◌, ◌||◌, ◌++◌, ℕ, not, true, false, cond, List, [], ◌∷◌, codes, None, refl, sym, ap, subst, ◌∙◌, inl, inr, ⊎_elim}
use Rattle.std.proofs.lemmas.Bool.{and_from, both_ways, cases_Bool, or_cases, or_from}
use Rattle.std.specs.Cmp.Lexicographic.{same_text}
use Rattle.std.specs.FinMap.{get, get-retain_keys}
use Rattle.switch_names.specs.Names.{Name}
use Rattle.switch_names.specs.Path.{is_below, slash}
use Rattle.switch_names.proofs.Below.{rest_below}
use Rattle.host_trait.specs.Reboot.{blank, is_in_run, outlasts, rebooted, run_folder}
use Rattle.host_trait.specs.World.{WorldState, is_elsewhere, is_path, stage}
use Rattle.host_trait.proofs.FirstNames.{elsewhere_of}
use Rattle.host_trait.proofs.Places.{bytes_exact}
use Rattle.host_trait.proofs.Seen.{other_of}
use Rattle.host_trait.proofs.Sound.{get_other}
use Rattle.switch_parts.specs.Leaves.{is_near}
use Rattle.switch_parts.specs.Store.{is_in_store}
use Rattle.switch_parts.proofs.LeafLemmas.{none_near}
use Rattle.etc_manifest.specs.Owners.{OwnerIds}
use Rattle.etc_clean.specs.CleanList.{clean_name}
use Rattle.etc_clean.specs.Etc.{static_name}
use Rattle.etc_clean.specs.Names.{is_in_etc, place}
use Rattle.etc_farm.specs.FarmPart.{fixed_places, owns_farm, reads_farm}
use Rattle.etc_farm.proofs.PlaceLemmas as farm
use Rattle.accounts_stage.specs.AccountsPart.{reads_accounts}
use Rattle.accounts_stage.specs.Places.{account_places, owns_accounts}
use Rattle.accounts_stage.proofs.OwnLemmas as accounts
use Rattle.accounts_stage.proofs.OwnLemmas.{accounts_open}
use Rattle.activation_stage.specs.ActivationPart.{activation_part}
use Rattle.activation_stage.specs.Owners.{owners_after}
use Rattle.activation_stage.specs.Reboot.{IsAfterReboot, RebootEndLaw, RebootLaw}
use Rattle.activation_stage.proofs.ActivationLemmas.{activation_is, owners_law}

-- ---- what lies in the folder that a reboot empties

in_run : (q : Name) → is_in_run q ≡ true → (rest : List ℕ) × (q ≡ codes "run" ++ rest)
unfolding run_folder
in_run q is = ⊎_elim
    (λ same. ([], same_text q run_folder (sym same)))
    (λ below. let cut = rest_below q run_folder below in (slash ∷ cut.0, cut.1))
    (or_cases (is_path q run_folder) (is_below q run_folder) is)

accounts_apart : (rest : List ℕ) → is_near account_places (codes "run" ++ rest) ≡ false
unfolding accounts_open stage
accounts_apart rest = none_near (codes "run" ++ rest) account_places refl

fixed_apart : (rest : List ℕ) → is_near fixed_places (codes "run" ++ rest) ≡ false
unfolding place clean_name static_name stage
fixed_apart rest = none_near (codes "run" ++ rest) fixed_places refl

unowned_accounts : (rest : List ℕ) → owns_accounts (codes "run" ++ rest) ≡ false
unfolding accounts_open
unowned_accounts rest = refl

unowned_farm : (rest : List ℕ) → owns_farm (codes "run" ++ rest) ≡ false
unfolding is_in_etc
unowned_farm rest = refl

unstored : (rest : List ℕ) → is_in_store (codes "run" ++ rest) ≡ false
unfolding is_in_store
unstored rest = refl

unread_in_run : (rest : List ℕ) → (reads_accounts (codes "run" ++ rest) || reads_farm (codes "run" ++ rest)) ≡ false
unread_in_run rest =
    let path = codes "run" ++ rest in
    or_from (reads_accounts path) (reads_farm path)
    (or_from (owns_accounts path) (is_in_store path || is_near account_places path) (unowned_accounts rest)
    (or_from (is_in_store path) (is_near account_places path) (unstored rest) (accounts_apart rest)))
    (or_from (owns_farm path) (is_in_store path || is_near fixed_places path) (unowned_farm rest)
    (or_from (is_in_store path) (is_near fixed_places path) (unstored rest) (fixed_apart rest)))

not_stage : (q : Name) → (reads_accounts q || reads_farm q) ≡ true → q ≢ stage
not_stage q read same =
    both_ways _ (or_from (reads_accounts stage) (reads_farm stage) accounts.stage_unread farm.stage_unread) (subst (λ p. (reads_accounts p || reads_farm p) ≡ true) same read)

-- what an activation looks at outlasts a reboot
outlasting : (q : Name) → (reads_accounts q || reads_farm q) ≡ true → outlasts q ≡ true
outlasting q read = and_from (not (is_in_run q)) (is_elsewhere q) not_run (elsewhere_of q (not_stage q read))
  where
    not_run : not (is_in_run q) ≡ true
    not_run = elim (cases_Bool (is_in_run q)) [
      | inl is ↦ let rest = in_run q is in absurd (both_ways _ (subst (λ p. (reads_accounts p || reads_farm p) ≡ false) (sym rest.1) (unread_in_run rest.0)) read)
      | inr other ↦ ap not other
    ]

-- ---- what stands after a reboot

rebooted_at : (w : WorldState) (q : Name) → outlasts q ≡ true → get (rebooted w).leaves q ≡ get w.leaves q
rebooted_at w q is =
    get-retain_keys w.leaves outlasts q (λ x same. ap outlasts (sym (bytes_exact q x same))) ∙ ap (λ b. cond b (get w.leaves q) None) is

after_at : (w r : WorldState) → IsAfterReboot w r → (q : Name) → q ≢ stage → outlasts q ≡ true → get r.leaves q ≡ get w.leaves q
after_at w r (inl is) q ne lasts = ap (λ (x : WorldState). get x.leaves q) is ∙ rebooted_at w q lasts
after_at w r (inr is) q ne lasts = ap (λ (x : WorldState). get x.leaves q) is ∙ get_other (rebooted w).leaves stage q blank (other_of q stage ne) ∙ rebooted_at w q lasts

pub reboot_law : RebootLaw
reboot_law system owners w r after = record {
  leaves = λ q read. after_at w r after q (not_stage q read) (outlasting q read);
  manager = λ calls. absurd (both_ways false refl calls);
}

pub reboot_end_law : RebootEndLaw
reboot_end_law system w r named after q own =
    let owners = owners_after system w.leaves in
    let part = activation_is system named owners in
    let keeps = part.frame w r (reboot_law system owners w r after) in
    ap (λ (ids : OwnerIds). (activation_part system ids).end r.leaves q) (owners_law system owners w r keeps) ∙ part.same_end w r keeps q own
