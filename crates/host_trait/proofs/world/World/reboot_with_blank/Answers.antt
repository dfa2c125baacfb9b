use Rattle.std.proofs.Common.{◌≡◌, not, ap, ◌∙◌}
use Rattle.std.specs.FinMap.{insert, retain_keys}
use Rattle.host_trait.specs.declared.leaf.LeafKind.TheVariants.{File}
use Rattle.host_trait.specs.LeafMap.{leaves_of}
use Rattle.host_trait.specs.Reboot.{blank, is_in_run, outlasts, rebooted_with_blank}
use Rattle.host_trait.specs.World.{Leaves, stage}
use Rattle.host_trait.proofs.Reboots.{staged_before}
use Rattle.host_trait.proofs.world.World.reboot_with_blank.Goals as goal

pub returns-clause-ok : goal.returns-clause-ok
returns-clause-ok c =
    let before = leaves_of c.self.inside.leaves in
    let file : c.file-blank.result ≡ blank = c.file-blank.ensures ∙ ap (λ bytes. File bytes 0 0 0) (c.from_vec.ensures ∙ c.new.ensures.items) in
    let leaves : leaves_of c.drop_run.new.leaves ≡ insert (retain_keys before outlasts) stage blank =
    c.drop_run.ensures.kept ∙ ap (λ (m : Leaves). retain_keys m (λ q. not (is_in_run q))) c.in_ok-_was.ensures.ok
    ∙ ap (λ leaf. retain_keys (insert before c.in_ok-at.at leaf) (λ q. not (is_in_run q))) file
    ∙ staged_before before c.in_ok-at.at blank c.in_ok-at.ensures in
    let states = c.new-2.ensures in
    let loaded = c.new-3.ensures in
    (λ i. record {
      leaves = leaves i;
      manager = record { states = states i; loaded = loaded i; bad = c.self.inside.manager.bad; journal = c.self.inside.manager.journal };
      written = c.self.inside.written;
    })
    ∙ ap rebooted_with_blank c.self.view_is
