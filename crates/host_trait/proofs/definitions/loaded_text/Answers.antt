use Rattle.std.proofs.Common.{rules}
use Rattle.host_trait.proofs.definitions.loaded_text.Goals as goal

pub returns-in-None-clause-text : goal.returns-in-None-clause-text
returns-in-None-clause-text c = search rules
