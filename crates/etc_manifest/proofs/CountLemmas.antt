-- How many entries there are.
use Rattle.std.proofs.Common.{◌≡◌, ◌≤◌, ℕ, Bool, false, cond, nat_lt, List, length, filter, Option, None, Some, Err, IsErrOf, sym, ap, ◌∙◌, arith}
use Rattle.std.proofs.lemmas.List.Sums.{count_by-le-length, length-filter}
use Rattle.leaf_limits.specs.Counts.{entries_max, past}
use Rattle.switch_names.specs.Names.{Name, has}
use Rattle.switch_names.specs.SystemName.{IsSystemPath}
use Rattle.host_trait.specs.Host.{HostState, Told}
use Rattle.host_trait.specs.World.{Leaves}
use Rattle.host_trait.proofs.Moments.{told_as}
use Rattle.etc_manifest.specs.declared.manifest_fault.ManifestFault.TheVariants.{Many}
use Rattle.etc_manifest.specs.Count.{entries_past}
use Rattle.etc_manifest.specs.Entries.{entries_of, entry_names, leaf_names}
use Rattle.etc_manifest.specs.Place.{etc_folder}
use Rattle.etc_manifest.proofs.LeafLemmas.{has_leaf_name}

-- those of a system's names that are entries are its entries
pub entries_read : (leaves : Leaves) (system : List ℕ) (names : List Name) → IsSystemPath system → names ≡ leaf_names leaves (etc_folder system) →
    entry_names (has names) names ≡ entries_of leaves system
entries_read leaves system names named are =
    (λ i. entry_names (λ name. (ap (λ ns. has ns name) are ∙ has_leaf_name leaves system named name) i) (are i))

-- there are no more of some than of all
pub few_of_few : (p : Name → Bool) (names : List Name) → length names ≤ entries_max → None ≡ past entries_max (length (filter p names))
few_of_few p names few =
    let fewer : length (filter p names) ≤ entries_max = omega (arith, length-filter p names, count_by-le-length p names, few) in
    ap (λ b. cond b (Some (length (filter p names))) None) (sym (not_past (length (filter p names)) fewer))
  where
    not_past : (n : ℕ) → n ≤ entries_max → nat_lt entries_max n ≡ false
    not_past n fewer = grind (arith, fewer)

-- what is counted among a system's names is told of its entries
pub told_past : (host : HostState) (system : List ℕ) (names lent : List Name) (counted answer : Option ℕ) →
    Told host (λ w. entry_names (has names) names ≡ entries_of w.leaves system) → lent ≡ names →
    counted ≡ past entries_max (length (entry_names (has lent) lent)) → counted ≡ answer → Told host (λ w. entries_past w.leaves system ≡ answer)
told_past host system names lent counted answer told same are is =
    told_as told (λ w. entries_past w.leaves system ≡ answer)
    (λ w at entries. ap (λ es. past entries_max (length es)) (sym entries ∙ ap (λ ns. entry_names (has ns) ns) (sym same)) ∙ sym are ∙ is)

-- one count is answered
pub many_same : {T : Type 0} (one other : ℕ) → IsErrOf {T = T} (Err (Many one)) (Many other) → Some one ≡ Some other
many_same one other is = cc
