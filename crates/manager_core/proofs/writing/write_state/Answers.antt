use Rattle.std.proofs.lemmas.Grind.{common_steps}
use Rattle.std.proofs.Common.{List, map, subst, sym, ◌++◌, arith}
use Rattle.std.specs.List.{AllByRecursion}
use Rattle.host_trait.specs.declared.entry.Bad.{Bad}
use Rattle.host_trait.specs.declared.entry.Entry.{Entry}
use Rattle.host_trait.specs.Manager.{IsPlain}
use Rattle.host_trait.specs.States.{listed_states}
use Rattle.manager_core.specs.StateText.{IsLine, IsReadable}
use Rattle.manager_core.specs.declared.line.Line.TheVariants as line
use Rattle.manager_core.proofs.Listed.{listed_lines}
use Rattle.manager_core.proofs.Order.{join_all}
use Rattle.manager_core.proofs.writing.write_state.Goals as goal

readable : (c : goal.After-from_vec) → IsReadable c.args.state.now
readable c =
    let units : AllByRecursion IsLine (map line.State (listed_states c.args.state.now.states)) = listed_lines c.args.state.now.states c.list.ensures.are_states in
    let bad = subst (λ (bs : List Bad). AllByRecursion IsLine (map line.Bad bs)) c.as_slice-2.ensures c.in_ok-write_all_bad.ensures.lines in
    let journal = subst (λ (es : List Entry). AllByRecursion IsLine (map line.Entry es)) c.as_slice-3.ensures c.in_ok-write_journal.ensures.lines in (
      c.in_ok-write_loaded.ensures.line,
      join_all IsLine (map line.State (listed_states c.args.state.now.states)) (map line.Bad c.args.state.now.bad ++ map line.Entry c.args.state.now.journal) units
          (join_all IsLine (map line.Bad c.args.state.now.bad) (map line.Entry c.args.state.now.journal) bad journal),
    )

pub returns-clause-readable : goal.returns-clause-readable
returns-clause-readable c = readable c

pub returns-clause-text : goal.returns-clause-text
returns-clause-text c = grind (arith, common_steps)

pub write_journal-requires : goal.write_journal-requires
write_journal-requires c = subst (AllByRecursion (λ (one : Entry). IsPlain one.loaded)) (sym c.as_slice-3.ensures) c.requires.journal

pub write_all_bad-requires : goal.write_all_bad-requires
write_all_bad-requires c = subst (AllByRecursion (λ (one : Bad). IsPlain one.loaded)) (sym c.as_slice-2.ensures) c.requires.bad
