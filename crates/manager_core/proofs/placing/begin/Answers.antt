use Rattle.std.proofs.Common.{◌∙◌, sym, ap, Some, None}
use Rattle.std.specs.Option.{option_map_or}
use Rattle.host_trait.specs.declared.manager_state.ManagerState.{ManagerState}
use Rattle.manager_core.specs.Placing.{begun_by}
use Rattle.manager_core.proofs.placing.begin.Goals as goal

pub returns-in-Some-Loaded : goal.returns-in-Some-Loaded
returns-in-Some-Loaded c =
    ap (λ (s : ManagerState). Some (record s { loaded = c.in-Some-Loaded.text })) c.new-state.ensures
    ∙ sym (ap (λ o. option_map_or begun_by o None) (sym c.in_ok-text.ensures ∙ c.in-Some-Loaded.is ∙ ap Some c.in-Some-Loaded.field-0-is))
