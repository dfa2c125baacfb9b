use Rattle.std.proofs.Common.{◌∷◌, [], map, sym, ap, subst, ◌∙◌}
use Rattle.host_trait.specs.declared.leaf.LeafKind.TheVariants.{Link}
use Rattle.tree_put.specs.declared.leaf_put.LeafPut.{LeafPut}
use Rattle.tree_put.specs.Sequence.{ArePutsApart, put_at}
use Rattle.etc_clean.specs.CleanList.{clean_leaf}
use Rattle.etc_clean.specs.Etc.{static_name}
use Rattle.etc_clean.specs.Names.{place}
use Rattle.etc_farm.specs.FarmPart.{farm_of, static_target}
use Rattle.etc_farm.proofs.PrepareLemmas.{lists_of}
use Rattle.etc_farm.proofs.StageLemmas.{first_apart}
use Rattle.etc_farm.proofs.prepared.prepare.Goals as goal

pub invariant_of-result : goal.invariant_of-result
invariant_of-result c = record {
  apart =
      subst ArePutsApart (sym (c.in_ok-puts.ensures ∙ ap (λ (list : LeafPut). list ∷ put_at (place static_name) (Link (static_target c.args.system.now)) ∷ []) c.in_ok-first_list.ensures.put))
      (first_apart c.in_ok-first.first (static_target c.args.system.now));
  last = ap (λ (put : LeafPut). put.at) c.in_ok-last.ensures.put;
}

pub returns : goal.returns
returns c =
    let farm = farm_of c.args.system.now c.args.manifest.now in
    let lists =
    lists_of farm c.items.ensures.is_manifest c.args.sorted.now c.as_slice-items.result.now c.as_slice.result.now c.as_slice-2.result.now c.as_slice-3.result.now c.in_ok-first.first c.in_ok-placed.placed
    (c.as_slice-items.ensures ∙ c.items.ensures.items) c.as_slice.ensures c.as_slice-2.ensures c.as_slice-3.ensures c.in_ok-placed.ensures c.in_ok-first.ensures.names c.in_ok-first.ensures.sorted c.in_ok-first_list.ensures.read_back in
    record {
      manifest = c.items.ensures.is_manifest;
      names = c.in_ok-first.first;
      first = c.in_ok-puts.ensures ∙ ap (λ (list : LeafPut). list ∷ put_at (place static_name) (Link (static_target c.args.system.now)) ∷ []) c.in_ok-first_list.ensures.put;
      names_are = lists.names_are;
      gone = c.in_ok-gone.ensures ∙ ap (map place) c.as_slice-4.ensures;
      last_at = ap (λ (put : LeafPut). put.at) c.in_ok-last.ensures.put;
      last = λ leaves sorted. ap (λ (put : LeafPut). put.leaf) c.in_ok-last.ensures.put ∙ ap clean_leaf (lists.last_are leaves sorted);
    }
