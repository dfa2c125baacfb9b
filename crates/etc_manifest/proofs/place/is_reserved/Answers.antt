use Rattle.std.proofs.Common.{ap, ◌∙◌}
use Rattle.etc_manifest.specs.Place.{is_reserved}
use Rattle.etc_manifest.proofs.place.is_reserved.Goals as goal

pub returns : goal.returns
returns c = c.is_reserved_name.ensures ∙ ap is_reserved c.as_str.ensures.text
