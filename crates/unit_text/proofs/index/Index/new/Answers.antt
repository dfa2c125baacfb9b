use Rattle.std.proofs.Common.{[], List, map, sym, ap, ◌∙◌, ◌++◌, subst}
use Rattle.std.specs.List.Sorted.{IsStrictlySortedBy}
use Rattle.unit_text.specs.declared.unit_key.UnitKey.{UnitKey}
use Rattle.unit_text.specs.UnitKey.{key_cmp, has_key}
use Rattle.unit_text.specs.UnitText.{values_of}
use Rattle.unit_text.proofs.IndexLemmas.{none_sorted}
use Rattle.unit_text.proofs.index.Index.new.Goals as goal

pub returns : goal.returns
returns c front =
    let none = c.new.ensures in
    record {
      keys = record {
        sorted = subst (IsStrictlySortedBy key_cmp) (sym none) none_sorted;
        exact = λ key. ap (λ (keys : List UnitKey). has_key keys key) none;
      };
      values = c.new-2.ensures.items ∙ sym (ap (map (values_of (front ++ []))) none);
    }
