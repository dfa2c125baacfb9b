use Rattle.std.proofs.Common.{◌≡◌, map}
use Rattle.std.specs.List.{list_any}
use Rattle.switch_names.specs.Path.{is_dots}
use Rattle.switch_names.specs.Texts.{is_empty}
use Rattle.switch_names.proofs.path.wrong_names.Given as goal

-- what is wrong with the names so far
abbrev pub invariant-loop-name : goal.invariant-loop-name
invariant-loop-name l = record {
  empty : l.has_empty ≡ list_any is_empty (map (λ name. name.now) l.yielded);
  dots : l.has_dots ≡ list_any is_dots (map (λ name. name.now) l.yielded);
}
