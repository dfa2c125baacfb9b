use Rattle.std.proofs.Common.{◌≡◌, Ok, take}
use Rattle.host_trait.specs.Sink.{HasSinkCause, Puts}
use Rattle.dry_report.proofs.CloseLemmas.{failed_lines}
use Rattle.dry_report.proofs.closing.put_all_failed.Given as goal

-- the lines of the units so far are put
abbrev pub invariant-loop-one : goal.invariant-loop-one
invariant-loop-one g l =
    let start = g.S.Sink.sink l.fn.out in
    let now = g.S.Sink.sink l.out in
    record {
      so_far : Puts start now (λ more. more ≡ failed_lines l.defs (take l.one-index l.list));
      cause : HasSinkCause {T = Unit {0}} start now (Ok tt);
    }
