use Rattle.std.proofs.Common.{◌≡◌, ◌++◌, ◌∷◌, [], Some, ap, refl, sym, subst, ◌∙◌}
use Rattle.std.specs.List.{filter_map}
use Rattle.std.specs.List.Sorted.{IsStrictlySortedBy}
use Rattle.std.proofs.lemmas.Bool.{both_ways}
use Rattle.std.proofs.lemmas.List.{take_all}
use Rattle.std.proofs.lemmas.Result.{IfOk-weaker}
use Rattle.host_trait.specs.Bytes.{bytes_cmp}
use Rattle.host_trait.proofs.Orders.{AreBelow, none_sorted}
use Rattle.etc_manifest.specs.Place.{path_in}
use Rattle.etc_manifest.proofs.NameLemmas.{below_is_after, comes_after, next_after, same_after, sorted_more}
use Rattle.etc_manifest.proofs.names.names_after.Goals as goal
use Rattle.etc_manifest.proofs.names.names_after.Goals.{then-is_sorted, else-is_sorted}
use Rattle.switch_names.specs.Texts.{after_front}

pub loop-path-init : goal.loop-path-init
loop-path-init c = record {
  names = c.new-names.ensures.items;
  sorted = λ is. subst (IsStrictlySortedBy bytes_cmp) (sym c.new-names.ensures.items) none_sorted;
  known = λ sorted. refl;
}

pub loop-path-preserved-in_default : goal.loop-path-preserved-in_default
loop-path-preserved-in_default c = record {
  names =
      same_after (path_in c.args.folder.now []) c.args.paths.now c.loop-path.path-index c.path-item.result c.loop-path-test.true c.path-item.is c.loop-path.names.items
      (sym c.in_default.is ∙ c.in_ok-name.ensures ∙ below_is_after c.args.folder.now c.path-item.result) c.loop-path.invariant.names;
  sorted = c.loop-path.invariant.sorted;
  known = c.loop-path.invariant.known;
}

pub loop-path-preserved : goal.loop-path-preserved
loop-path-preserved c =
    let front = path_in c.args.folder.now [] in
    let paths = c.args.paths.now in
    let name = c.in-Some.name in
    let old = c.loop-path.names.items in
    let after : Some name ≡ after_front front c.path-item.result = sym c.in-Some.is ∙ c.in_ok-name.ensures ∙ below_is_after c.args.folder.now c.path-item.result in
    let pushed : c.push.new.self.items ≡ old ++ name ∷ [] = c.in_ok-push.ensures.items in
    let names = next_after front paths c.loop-path.path-index c.path-item.result c.loop-path-test.true c.path-item.is name old c.push.new.self.items after c.loop-path.invariant.names pushed in
    elim c.if-is_sorted.branch [
      | then-is_sorted w ↦
          let same : w.as_slice.result.now ≡ old = w.as_slice.ensures.value in
          let sorted_so_far = c.loop-path.invariant.sorted w.if-is_sorted.true in
          record {
            names = names;
            sorted = λ is.
                sorted_more old c.push.new.self.items name sorted_so_far
                (subst (λ ns. AreBelow ns name) same (w.is_after-is_sorted.ensures.after (sym w.is_sorted-is ∙ is) (subst (IsStrictlySortedBy bytes_cmp) (sym same) sorted_so_far))) pushed;
            known = λ sorted.
                w.is_sorted-is
                ∙ w.is_after-is_sorted.ensures.last (subst (λ ns. AreBelow ns name) (sym same)
                (comes_after front paths c.loop-path.path-index c.path-item.result c.loop-path-test.true c.path-item.is name old after c.loop-path.invariant.names sorted));
          }
      | else-is_sorted w ↦ record {
        names = names;
        sorted = λ is. absurd (both_ways _ (w.is_sorted-is ∙ w.if-is_sorted.false) is);
        known = λ sorted. absurd (both_ways _ w.if-is_sorted.false (c.loop-path.invariant.known sorted));
      }
    ]

pub returns-then-is_sorted-2-clause-sorted : goal.returns-then-is_sorted-2-clause-sorted
returns-then-is_sorted-2-clause-sorted c = subst (IsStrictlySortedBy bytes_cmp) (sym c.from_vec.ensures) (c.loop-path.invariant.sorted c.if-is_sorted-2.true)

pub returns-then-is_sorted-2-clause-names : goal.returns-then-is_sorted-2-clause-names
returns-then-is_sorted-2-clause-names c = λ sorted.
    c.from_vec.ensures ∙ c.loop-path.invariant.names
    ∙ ap (filter_map (after_front (path_in c.args.folder.now []))) (take_all c.loop-path.path-index c.args.paths.now c.loop-path-test.false)

pub returns-clause-sorted : goal.returns-clause-sorted
returns-clause-sorted c = c.in_order.ensures

pub returns-clause-names : goal.returns-clause-names
returns-clause-names c =
    IfOk-weaker c.in_order.result _ _ (λ names _ sorted. absurd (both_ways _ c.if-is_sorted-2.false (c.loop-path.invariant.known sorted))) c.in_order.ensures
