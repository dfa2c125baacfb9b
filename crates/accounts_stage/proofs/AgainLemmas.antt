-- Accounts that are set stay.
use Rattle.std.proofs.Common.{length, refl, sym, ap, ◌∙◌, arith}
use Rattle.std.proofs.lemmas.List.{take_all}
use Rattle.switch_names.specs.Names.{Name}
use Rattle.host_trait.specs.World.{WorldState, seen}
use Rattle.switch_parts.proofs.Parts.{done_keeps, end_again}
use Rattle.tree_put.specs.Sequence.{with_puts}
use Rattle.accounts_stage.specs.AccountsPart.{accounts_part, puts_of}
use Rattle.accounts_stage.specs.Laws.{AccountsAgainLaw}
use Rattle.accounts_stage.specs.Plan.{AreAccountsSet, IsSettingAccounts}
use Rattle.accounts_stage.proofs.EndLemmas.{end_law}
use Rattle.accounts_stage.proofs.MomentLemmas.{moment_law}
use Rattle.accounts_stage.proofs.PartLemmas.{part_law}

-- the last of the moments of setting accounts is one of them
pub set_is_setting : (system : Name) (w u : WorldState) → AreAccountsSet system w u → IsSettingAccounts system w u
set_is_setting system w u set = record {
  count = length (puts_of system w.leaves);
  some = omega arith;
  world = set ∙ ap (λ puts. seen (with_puts puts w)) (sym (take_all (length (puts_of system w.leaves)) (puts_of system w.leaves) (omega arith)));
}

pub again_law : AccountsAgainLaw
again_law system w v named free done =
    let part = part_law system named in
    let u = with_puts (puts_of system w.leaves) w in
    let moment = moment_law system w u named free (set_is_setting system w u refl) in
    let keeps = done_keeps (accounts_part system) part refl w u v moment (end_law system w u named free refl).0 done in
    (keeps, end_again (accounts_part system) part w v done.end keeps)
