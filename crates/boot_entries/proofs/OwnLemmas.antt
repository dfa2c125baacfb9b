-- What making the boot menu looks at, and what is read of the store.
use Rattle.std.proofs.Common.{◌≡◌, ◌≢◌, ℕ, ◌<◌, ◌^◌, ◌||◌, Bool, true, false, ◌++◌, codes, drop, None, is_some, refl, sym, ap, subst, ◌∙◌, ⊎_elim}
use Rattle.std.proofs.lemmas.Bool.{both_ways, or_left, or_right, or_cases}
use Rattle.std.specs.Cmp.Lexicographic.{nat_list_eq_equiv}
use Rattle.switch_names.specs.Names.{Name}
use Rattle.switch_names.specs.Path.{is_below}
use Rattle.switch_names.specs.SystemName.{IsSystemPath}
use Rattle.switch_names.proofs.Below.{below_both}
use Rattle.host_trait.specs.World.{is_in_line, is_path, stage}
use Rattle.switch_parts.specs.Store.{is_in_store}
use Rattle.switch_parts.proofs.StoreLemmas.{store_is, system_stored}
use Rattle.boot_entries.specs.BootPart.{reads_boot}
use Rattle.boot_entries.specs.Entries.{params_path, version_path}
use Rattle.boot_entries.specs.Places.{entries_folder, entry_path, loader_path, numbered, owns_boot}
use Rattle.boot_entries.proofs.NumberLemmas.{bears_numbered}
use Rattle.boot_entries.proofs.PutLemmas.{entry_parent}

-- ---- what is looked at

pub owned_read : (q : Name) → owns_boot q ≡ true → reads_boot q ≡ true
owned_read q own = or_left (owns_boot q) (is_in_store q || (is_path q entries_folder || (is_in_line q entries_folder || (is_in_line q loader_path || is_in_line q stage)))) own

pub store_read : (q : Name) → is_in_store q ≡ true → reads_boot q ≡ true
store_read q is =
    or_right (owns_boot q) (is_in_store q || (is_path q entries_folder || (is_in_line q entries_folder || (is_in_line q loader_path || is_in_line q stage))))
    (or_left (is_in_store q) (is_path q entries_folder || (is_in_line q entries_folder || (is_in_line q loader_path || is_in_line q stage))) is)

way_read : (q : Name) → (is_path q entries_folder || (is_in_line q entries_folder || (is_in_line q loader_path || is_in_line q stage))) ≡ true → reads_boot q ≡ true
way_read q is =
    or_right (owns_boot q) (is_in_store q || (is_path q entries_folder || (is_in_line q entries_folder || (is_in_line q loader_path || is_in_line q stage))))
    (or_right (is_in_store q) (is_path q entries_folder || (is_in_line q entries_folder || (is_in_line q loader_path || is_in_line q stage))) is)

folder_read : (q : Name) → is_path q entries_folder ≡ true → reads_boot q ≡ true
folder_read q is = way_read q (or_left (is_path q entries_folder) (is_in_line q entries_folder || (is_in_line q loader_path || is_in_line q stage)) is)

line_read : (q : Name) → is_in_line q entries_folder ≡ true → reads_boot q ≡ true
line_read q is = way_read q (or_right (is_path q entries_folder) (is_in_line q entries_folder || (is_in_line q loader_path || is_in_line q stage)) (or_left (is_in_line q entries_folder) (is_in_line q loader_path || is_in_line q stage) is))

last_read : (q : Name) → (is_in_line q loader_path || is_in_line q stage) ≡ true → reads_boot q ≡ true
last_read q is = way_read q (or_right (is_path q entries_folder) (is_in_line q entries_folder || (is_in_line q loader_path || is_in_line q stage)) (or_right (is_in_line q entries_folder) (is_in_line q loader_path || is_in_line q stage) is))

pub loader_line_read : (q : Name) → is_in_line q loader_path ≡ true → reads_boot q ≡ true
loader_line_read q is = last_read q (or_left (is_in_line q loader_path) (is_in_line q stage) is)

pub stage_line_read : (q : Name) → is_in_line q stage ≡ true → reads_boot q ≡ true
stage_line_read q is = last_read q (or_right (is_in_line q loader_path) (is_in_line q stage) is)

below_below : (q at folder : Name) → is_below q at ≡ true → is_below at folder ≡ true → is_below q folder ≡ true
below_below q at folder first second = below_both q at folder first second

pub entry_line_read : (n : ℕ) → n < 2 ^ 32 → (q : Name) → is_in_line q (entry_path n) ≡ true → reads_boot q ≡ true
entry_line_read n small q line =
    let parent = entry_parent n small in
    ⊎_elim
    (λ below. line_read q (or_left (is_below q entries_folder) (is_below entries_folder q) (below_below q (entry_path n) entries_folder below parent.below)))
    (λ above. ⊎_elim
    (λ same. folder_read q (subst (λ x. is_path x entries_folder ≡ true) (sym same) (nat_list_eq_equiv.refl entries_folder)))
    (λ higher. line_read q (or_right (is_below q entries_folder) (is_below entries_folder q) higher))
    (parent.above q above))
    (or_cases (is_below q (entry_path n)) (is_below (entry_path n) q) line)

stage_other : (n : ℕ) → stage ≢ entry_path n
unfolding stage entry_path
stage_other n same = both_ways (is_path stage (entry_path n)) refl (subst (λ x. is_path stage x ≡ true) same (nat_list_eq_equiv.refl stage))

stage_unnumbered : numbered stage ≡ None
stage_unnumbered = sym (bears_numbered stage None (λ n small same. stage_other n same))

stage_away : (b : Bool) → b ≡ false → ((is_path stage loader_path || b) || (is_in_store stage || (is_path stage entries_folder || (is_in_line stage entries_folder || (is_in_line stage loader_path || is_in_line stage stage))))) ≡ false
unfolding stage loader_path entries_folder is_in_store
stage_away b none = ap (λ x. x || false) none

pub stage_unread : reads_boot stage ≡ false
stage_unread = stage_away (is_some (numbered stage)) (ap is_some stage_unnumbered)

-- ---- the store

pub version_stored : (system : Name) → IsSystemPath system → is_in_store (version_path system) ≡ true
unfolding version_path
version_stored system named = system_stored system (codes "/nixos-version") named

pub params_stored : (system : Name) → IsSystemPath system → is_in_store (params_path system) ≡ true
unfolding params_path
params_stored system named = system_stored system (codes "/kernel-params") named

begins_other : (rest : Name) (n : ℕ) → codes "nix/store/" ++ rest ≢ entry_path n
unfolding entry_path
begins_other rest n same = both_ways (is_path (codes "nix/store/" ++ rest) (entry_path n)) refl (subst (λ x. is_path (codes "nix/store/" ++ rest) x ≡ true) same (nat_list_eq_equiv.refl (codes "nix/store/" ++ rest)))

begins_away : (rest : Name) → is_path (codes "nix/store/" ++ rest) loader_path ≡ false
unfolding loader_path
begins_away rest = refl

begins_unowned : (rest : Name) → owns_boot (codes "nix/store/" ++ rest) ≡ false
begins_unowned rest =
    ap (λ b. b || is_some (numbered (codes "nix/store/" ++ rest))) (begins_away rest)
    ∙ ap is_some (sym (bears_numbered (codes "nix/store/" ++ rest) None (λ n small same. begins_other rest n same)))

pub store_unowned : (q : Name) → is_in_store q ≡ true → owns_boot q ≡ false
store_unowned q is = subst (λ p. owns_boot p ≡ false) (sym (store_is q is)) (begins_unowned (drop 10 q))
