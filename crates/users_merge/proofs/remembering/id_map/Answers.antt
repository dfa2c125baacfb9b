use Rattle.std.proofs.Common.{ℕ, List, sym, ap, subst, ◌∙◌}
use Rattle.std.specs.BTreeMap.{is_at}
use Rattle.std.specs.FinMap.{get, get-insert}
use Rattle.std.specs.List.{AllByRecursion}
use Rattle.std.specs.List.Sorted.{IsStrictlySortedBy}
use Rattle.std.specs.Map.{keys_of, lookup, values_of}
use Rattle.std.specs.Option.{option_or}
use Rattle.host_trait.specs.Bytes.{bytes_cmp}
use Rattle.host_trait.proofs.Places.{bytes_total}
use Rattle.switch_names.specs.Names.{Name}
use Rattle.users_merge.specs.Given.{IsId}
use Rattle.users_merge.proofs.RememberedLemmas.{first_bounded, made_more, none_made, rest_bounded, sorted_first, sorted_rest}
use Rattle.users_merge.proofs.remembering.id_map.Goals as goal

pub loop-name-init : goal.loop-name-init
loop-name-init c =
    let all = c.into_iter-name-iterator.ensures.into_iter_gives.0 in
    record {
      sorted = subst (λ (es : List (Name × ℕ)). IsStrictlySortedBy bytes_cmp (keys_of es)) (sym all) c.into_iter-name-iterator.ensures.into_iter_gives.5;
      bounded = subst (λ (es : List (Name × ℕ)). AllByRecursion IsId (values_of es)) (sym all) c.requires;
      ids = λ name. none_made c.into_iter-name-iterator.result c.args.ids.entries name c.none-made.result all c.none-made.ensures;
    }

pub set-requires : goal.set-requires
set-requires c = first_bounded c.loop-name.name-iterator c.next.new.self c.in-Some.name c.in-Some.id c.in-Some.ensures.steps c.loop-name.invariant.bounded

pub loop-name-preserved : goal.loop-name-preserved
loop-name-preserved c = record {
  sorted = sorted_rest c.loop-name.name-iterator c.next.new.self c.in-Some.name c.in-Some.id c.in-Some.ensures.steps c.loop-name.invariant.sorted;
  bounded = rest_bounded c.loop-name.name-iterator c.next.new.self c.in-Some.name c.in-Some.id c.in-Some.ensures.steps c.loop-name.invariant.bounded;
  ids = λ name.
      made_more c.next.new.self c.args.ids.entries c.in-Some.name name c.in-Some.id (get c.loop-name.made name) (get c.set.new.self name)
      (sorted_first c.loop-name.name-iterator c.next.new.self c.in-Some.name c.in-Some.id c.in-Some.ensures.steps c.loop-name.invariant.sorted)
      (ap (λ m. get m name) c.in_ok-set.ensures.ok ∙ get-insert bytes_total c.loop-name.made c.in-Some.name c.in-Some.id name)
      (ap (λ es. option_or (lookup (is_at (bytes_cmp name)) es) (get c.loop-name.made name)) (sym c.in-Some.ensures.steps) ∙ c.loop-name.invariant.ids name);
}

pub returns : goal.returns
returns c = λ name.
    ap (λ es. option_or (lookup (is_at (bytes_cmp name)) es) (get c.loop-name.made name)) (sym c.in-None.ensures.steps.0) ∙ c.loop-name.invariant.ids name
