use Rattle.std.proofs.Common.{◌∙◌}
use Rattle.etc_manifest.specs.Manifest.{entry}
use Rattle.etc_clean.proofs.FarmLemmas.{entry_is}
use Rattle.etc_clean.proofs.SearchLemmas.{lent_at, none_wanted}
use Rattle.etc_clean.proofs.walk.Walk.item.Goals as goal

pub returns-in-Ok : goal.returns-in-Ok
returns-in-Ok c = lent_at c.args.items.now c.in-Ok.at c.args.name.now c.get.result c.requires c.get.ensures.lookup c.in-Ok.ensures.found

pub returns-in-Err : goal.returns-in-Err
returns-in-Err c = none_wanted (entry c.args.items.now c.args.name.now) (entry_is c.args.items.now c.args.name.now ∙ c.in-Err.ensures.missing)
