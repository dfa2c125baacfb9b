use Rattle.std.proofs.Common.{◌≡◌, ◌++◌, append_assoc, ap, ◌∙◌}
use Rattle.std.specs.List.{flat_map}
use Rattle.start_order.specs.declared.ordered.Ordered.{Ordered}
use Rattle.switch_engine.specs.Plan.{units_of}
use Rattle.dry_report.specs.Report.{cycle_line, number_of, other_lines, report_front}
use Rattle.dry_report.proofs.reporting.unit_report.Goals as goal

pub returns : goal.returns
returns c leaves planned some is =
    let units = units_of c.args.plan.now in
    let system = c.args.plan.now.row.system in
    let front = report_front units.from system (number_of c.args.plan.now) units.duties units.owed.left in
    let told = c.in_ok-write_activated.ensures system leaves planned (c.activation.ensures ∙ some) is in
    let cycles = c.as_slice.result.now in
    let others = other_lines c.as_slice-2.result.now in
    let same_cycles : cycles ≡ units.ordered.cycles = c.as_slice.ensures ∙ ap (λ (ordered : Ordered). ordered.cycles) c.ordered.ensures in
    let same_duties = c.as_slice-2.ensures ∙ c.duties.ensures in (
      told.0,
      told.2,
      c.from_vec.ensures ∙ c.in_ok-write_others.ensures
          ∙ ap (λ items. items ++ others) (c.in_ok-write_cycles.ensures
          ∙ ap (λ items. items ++ flat_map cycle_line cycles) (told.1 ∙ ap (λ items. items ++ told.0) (c.in_ok-write_front.ensures ∙ ap (λ items. items ++ front) c.new-out.ensures.items)))
          ∙ append_assoc (front ++ told.0) (flat_map cycle_line cycles) others
          ∙ append_assoc front told.0 (flat_map cycle_line cycles ++ others)
          ∙ (λ i. front ++ (told.0 ++ (flat_map cycle_line (same_cycles i) ++ other_lines (same_duties i)))),
    )
