use Rattle.std.proofs.Common.{rules}
use Rattle.switch_names.proofs.path.is_text_below.Goals as goal

pub returns-then-starts_with : goal.returns-then-starts_with
returns-then-starts_with c = search rules steps 500000

pub returns-else-starts_with : goal.returns-else-starts_with
returns-else-starts_with c = search rules steps 500000
