use Rattle.rehearse.proofs.RepeatableLemmas.{start_up_repeatable}
use Rattle.reboot_model.proofs.BootLemmas.{begins_to_start, on_err, started, started_at_once, starting, still_standing, told_before}
use Rattle.reboot_model.proofs.rebooting.after_reboot.Goals as goal

pub returns-in_err-reboot-clause-err : goal.returns-in_err-reboot-clause-err
returns-in_err-reboot-clause-err c = on_err c.from_residual.result (still_standing c.args.pick c.in_err-reboot.ensures.err_moments)

pub returns-in_err-booted-clause-err : goal.returns-in_err-booted-clause-err
returns-in_err-booted-clause-err c = on_err c.from_residual-in_err-booted.result (begins_to_start c.args.pick c.in_ok-reboot.ensures.world c.booted.ensures.same)

pub through-requires : goal.through-requires
through-requires c = record { repeatable = start_up_repeatable }

pub returns-in_err-summary-clause-err : goal.returns-in_err-summary-clause-err
returns-in_err-summary-clause-err c = on_err c.from_residual-in_err-summary.result (starting c.args.pick c.in_ok-reboot.ensures.world c.booted.ensures.same c.through.ensures.moments)

pub returns-clause-booted : goal.returns-clause-booted
returns-clause-booted c = told_before c.args.pick c.in_ok-reboot.ensures.world c.booted.ensures.same c.in_ok-booted.ensures.system

pub returns-clause-started : goal.returns-clause-started
returns-clause-started c = started c.args.pick c.in_ok-reboot.ensures.world c.booted.ensures.same c.in_ok-summary.ensures.through.ended.led

pub returns-clause-at_once : goal.returns-clause-at_once
returns-clause-at_once c = λ one. started_at_once c.args.pick c.in_ok-reboot.ensures.world c.booted.ensures.same (c.in_ok-summary.ensures.through.ended.at_once one)
