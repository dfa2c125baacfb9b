use Rattle.std.proofs.Common.{Option, ap, sym, ◌∙◌}
use Rattle.std.specs.Prelude.{unwrap_or}
use Rattle.switch_names.specs.declared.unit_kind.UnitKind.{UnitKind}
use Rattle.switch_names.specs.declared.unit_kind.UnitKind.TheVariants.{Service, Target}
use Rattle.unit_decide.specs.Kinds.{is_kind}
use Rattle.owed_plan.proofs.steady.is_target.Goals as goal

pub returns : goal.returns
returns c = c.is_target.ensures ∙ ap (λ (kind : Option UnitKind). is_kind (unwrap_or kind Service) Target) (sym c.kind.ensures)
