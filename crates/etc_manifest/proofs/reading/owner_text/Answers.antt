use Rattle.std.proofs.Common.{Some, ap, sym, ◌∙◌}
use Rattle.etc_manifest.specs.Companion.{owner_text}
use Rattle.etc_manifest.proofs.reading.owner_text.Goals as goal

pub returns-in_ok-from_slice-in-None-clause-text : goal.returns-in_ok-from_slice-in-None-clause-text
returns-in_ok-from_slice-in-None-clause-text g c = record {
  has = λ w is. ap Some c.in_ok-from_slice-in-None.ensures ∙ ap owner_text (sym c.in-None.is ∙ c.in_ok-text.ensures.says.has w is);
}
