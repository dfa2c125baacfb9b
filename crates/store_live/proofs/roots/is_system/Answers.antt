use Rattle.std.proofs.Common.{is_none, is_some, ap, ◌∙◌}
use Rattle.switch_names.specs.SystemName.{system_fault, system_path}
use Rattle.switch_names.proofs.Named.{is_named}
use Rattle.store_live.proofs.roots.is_system.Goals as goal

pub returns : goal.returns
returns c =
    let text = c.as_str.result.now in
    c.is_some.ensures ∙ ap is_some c.in_ok-of_text.ensures ∙ is_named (system_path text) (system_fault text) ∙ ap (λ t. is_none (system_fault t)) c.as_str.ensures.text
