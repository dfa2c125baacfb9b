use Rattle.std.proofs.Common.{not, rules}
use Rattle.std.proofs.lemmas.Map.Made.{filter_same_pairs}
use Rattle.host_trait.specs.LeafMap.{leaves_of}
use Rattle.host_trait.specs.Reboot.{is_in_run}
use Rattle.host_trait.proofs.Reboots.{kept_keys, sound_kept}
use Rattle.host_trait.proofs.Sound.{sound_same}
use Rattle.host_trait.proofs.rebooting.drop_run.Goals as goal

pub returns-clause-kept : goal.returns-clause-kept
returns-clause-kept c =
    kept_keys (λ q. not (is_in_run q)) c.args.leaves.now.entries c.retain.new.self.entries
    (filter_same_pairs _ (λ e. not (is_in_run e.0)) _ (λ k v b w f t. search rules) c.args.leaves.now.entries c.retain.new.self.entries c.retain.ensures.filtered)

pub returns-clause-sound : goal.returns-clause-sound
returns-clause-sound c sound = sound_same _ _ (returns-clause-kept c) (sound_kept (λ q. not (is_in_run q)) (leaves_of c.args.leaves.now) sound)
