use Rattle.std.proofs.Common.{◌≡◌, ℕ, ◌≤◌, ◌+◌, ◌-◌, List, length, take, drop, length-drop, take_all, true, sym, subst, arith}
use Rattle.std.proofs.lemmas.List.{nil_from_length}
use Rattle.std.proofs.lemmas.Result.{IfOk-weaker}
use Rattle.std.specs.List.Sorted.{IsStrictlySortedBy}
use Rattle.host_trait.specs.World.{bytes_cmp}
use Rattle.memchr.specs.Find.{Nowhere, OccursAt}
use Rattle.switch_names.specs.Names.{Name, has}
use Rattle.switch_names.specs.SystemName.{store_folder}
use Rattle.store_names.proofs.FolderLemmas.{passed_end, passed_start, passed_step}
use Rattle.store_names.proofs.search.occurring.Goals as goal

pub loop-at-init : goal.loop-at-init
loop-at-init c = (omega arith, c.new-finder.ensures, passed_start c.args.names.now c.args.front.now c.args.text.now c.new-found.result.keys (nil_from_length c.new-found.result.keys c.new-found.ensures.len))

-- the rest of a text
rest_is : (text : List ℕ) (from : ℕ) → take (length text - from) (drop from text) ≡ drop from text
rest_is text from = take_all (length text - from) (drop from text) (omega (arith, length-drop from text))

module _ (text needle : List ℕ) (from : ℕ) (is : needle ≡ store_folder) where
  abbrev rest : List ℕ
  rest = take (length text - from) (drop from text)

  before_folder : (k : ℕ) → Nowhere (OccursAt rest needle) 0 k → Nowhere (OccursAt (drop from text) store_folder) 0 k
  before_folder k none = subst (λ t. Nowhere (OccursAt t store_folder) 0 k) (rest_is text from) (subst (λ n. Nowhere (OccursAt rest n) 0 k) is none)

  at_folder : (k : ℕ) → OccursAt rest needle k → OccursAt (drop from text) store_folder k
  at_folder k there = subst (λ t. OccursAt t store_folder k) (rest_is text from) (subst (λ n. OccursAt rest n k) is there)

  no_folder : Nowhere (OccursAt rest needle) 0 (length rest + 1) → Nowhere (OccursAt (drop from text) store_folder) 0 (length (drop from text) + 1)
  no_folder none = subst (λ t. Nowhere (OccursAt t store_folder) 0 (length t + 1)) (rest_is text from) (subst (λ n. Nowhere (OccursAt rest n) 0 (length rest + 1)) is none)

pub loop-at-preserved : goal.loop-at-preserved
loop-at-preserved c =
    let text = c.args.text.now in
    let from = c.loop-at.from in
    let at = c.in-Some.at in
    let there = at_folder text c.new-finder.result from c.loop-at.invariant.1 at (c.in-Some.ensures.1) in
    let fits : at + 10 ≤ length (drop from text) = there.fits in
    let inside : from + (at + 1) ≤ length text = omega (arith, fits, length-drop from text) in (
      inside,
      c.loop-at.invariant.1,
      passed_step c.args.names.now c.args.front.now text c.requires.folder from c.loop-at.found.keys c.loop-at.invariant.2 at c.add_at.new.found.keys
          (before_folder text c.new-finder.result from c.loop-at.invariant.1 at (c.in-Some.ensures.0.before)) (omega (arith, inside)) c.in_ok-add_at.ensures,
    )

pub returns : goal.returns
returns c =
    let names = c.args.names.now in
    let all = passed_end names c.args.front.now c.args.text.now c.requires.folder c.loop-at.from c.loop-at.found.keys c.loop-at.invariant.2
    (no_folder c.args.text.now c.new-finder.result c.loop-at.from c.loop-at.invariant.1 c.in_default.ensures) in
    record {
      found = IfOk-weaker c.into_list.result _ _ (λ (found : List Name) is. record {
        sorted = subst (IsStrictlySortedBy bytes_cmp) (sym is) c.into_list.ensures.sorted;
        exact = λ name. (λ there. (all name).0 (subst (λ (l : List Name). has l name ≡ true) is there), λ occurs. subst (λ (l : List Name). has l name ≡ true) (sym is) ((all name).1 occurs));
      }) c.into_list.ensures.names;
    }
