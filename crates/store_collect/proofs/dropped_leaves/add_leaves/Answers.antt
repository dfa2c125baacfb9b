use Rattle.std.proofs.Common.{◌≡◌, ◌++◌, not, filter, List, ap, ◌∙◌, append_assoc}
use Rattle.host_trait.proofs.Moments.{told_as}
use Rattle.host_trait.proofs.Readings.{nothing_read, no_device}
use Rattle.host_trait.specs.World.{is_path, listed}
use Rattle.switch_names.specs.Names.{Name}
use Rattle.boot_entries.specs.Entries.{version_path}
use Rattle.store_collect.specs.Collection.{first_of}
use Rattle.store_collect.proofs.dropped_leaves.add_leaves.Goals as goal

pub returns-in_err-version-clause-reads : goal.returns-in_err-version-clause-reads
returns-in_err-version-clause-reads g c = nothing_read _ (no_device _ c.from_residual.ensures.1)

both : (old one two paths mine again : List Name) (version at : Name) → version ≡ at → mine ≡ paths → again ≡ paths →
    one ≡ old ++ filter (λ q. is_path q version) mine → two ≡ one ++ filter (λ q. not (is_path q version)) again → two ≡ old ++ first_of at paths
both old one two paths mine again version at same is_mine is_again first second =
    second ∙ (λ i. first i ++ filter (λ q. not (is_path q version)) again) ∙ append_assoc old _ _
    ∙ (λ i. old ++ (filter (λ q. is_path q (same i)) (is_mine i) ++ filter (λ q. not (is_path q (same i))) (is_again i)))

pub returns-clause-added : goal.returns-clause-added
returns-clause-added g c =
    told_as c.in_ok-paths.ensures.paths _ (λ w world listing.
    let paths = listing ∙ ap (λ u. listed u w.leaves) c.path.ensures.path in
    both c.args.leaves.now c.add_same.new.leaves c.add_others.new.leaves (listed c.args.system.now w.leaves) c.as_slice.result.now c.as_slice-2.result.now c.in_ok-version.version
    (version_path c.args.system.now) c.in_ok-version.ensures (c.as_slice.ensures ∙ paths) (c.as_slice-2.ensures ∙ paths) c.in_ok-add_same.ensures c.in_ok-add_others.ensures)
