use Rattle.std.proofs.Common.{◌≡◌, ◌<◌, ◌^◌, length, take}
use Rattle.std.specs.List.{AllByRecursion}
use Rattle.log_text.specs.Lists.{blocks_of, list_names, record_order}
use Rattle.log_text.specs.Log.{log_text}
use Rattle.log_text.proofs.writing.lists_text.Given as goal

-- the first lists are written
abbrev pub invariant-loop-which : goal.invariant-loop-which
invariant-loop-which l = record {
  text : l.out.items ≡ log_text (take l.which-index (blocks_of l.lists));
  counted : AllByRecursion (λ which. length (list_names l.lists which) < 2 ^ 64) (take l.which-index record_order);
}
